-- What may stand on a ticket is what the oracles take for a rule. Assumes nothing.
use Rattle.std.proofs.Common.{◌≡◌, ℕ, ◌≤◌, true, leb, ◌&&◌, List, [], ◌∷◌, length, nat_abs, Some, None, Option, sym, refl, ◌∙◌, subst, inl, inr, arith}
use Rattle.std.proofs.lemmas.Bool.{and_parts, and_from, leb-true, le-leb}
use Rattle.std.specs.List.{AllByRecursion}
use Rattle.sets.specs.Members.{members, size}
use Rattle.sets.specs.Masks.{number_of}
use Rattle.sets.specs.Requests.{widest}
use Rattle.sets.proofs.Sizes.{size_members}
use Rattle.rules.specs.Force.{head_valid, counts_for, if_valid}
use Rattle.rules.specs.Limits.{last_option, last_mark, widest_gap, most_members}
use Rattle.rules.specs.declared.Body.{Body}
use Rattle.rules.specs.declared.Body.TheVariants.{Options, Gap, Faces}
use Rattle.rules.specs.declared.Rule.{Rule}
use Rattle.rules.proofs.Bodies.{fair}
use Rattle.rules.proofs.Laws.{said_body, counted, house_counts, request_counts}
use Rattle.ticket.specs.EveryRule.{RangeIsValid, ValidIsRange, Counts, InRangeCounts, ReadCounts, EveryRuleCounts}
use Rattle.ticket.specs.Tickets.{HeadInRange, SomeInRange, RuleInRange}
use Rattle.ticket.proofs.Exactness.{exact}

-- HEADS AND SETS

head_is_valid : (o : Option ℕ) → HeadInRange o → head_valid o ≡ true
head_is_valid None range = refl
head_is_valid (Some n) range = le-leb n last_option range

head_in_range : (o : Option ℕ) → head_valid o ≡ true → HeadInRange o
head_in_range None can = tt
head_in_range (Some n) can = leb-true n last_option can

few_is_valid : (n : ℕ) → length (members n) ≤ most_members → leb (size n) most_members ≡ true
few_is_valid n few = le-leb (size n) most_members (subst (λ m. m ≤ most_members) (sym (size_members n)) few)

few_in_range : (n : ℕ) → leb (size n) most_members ≡ true → length (members n) ≤ most_members
few_in_range n can = subst (λ m. m ≤ most_members) (size_members n) (leb-true (size n) most_members can)

-- BODIES

range_is_valid : RangeIsValid
range_is_valid (Options head s) range =
    let n = number_of s.members in
    and_from (head_valid head) (leb (size n) most_members) (head_is_valid head range.0) (few_is_valid n range.1.2)
range_is_valid (Gap a b w) range =
    and_from (leb a last_mark && leb b last_mark) (leb (nat_abs w) widest_gap)
    (and_from (leb a last_mark) (leb b last_mark) (le-leb a last_mark range.0) (le-leb b last_mark range.1)) (le-leb (nat_abs w) widest_gap range.2)
range_is_valid (Faces odd s) range =
    let n = number_of s.members in
    and_from (leb 1 (size n)) (leb (size n) most_members) (le-leb 1 (size n) (subst (λ m. 1 ≤ m) (sym (size_members n)) range.1))
    (few_is_valid n range.2)

valid_is_range : ValidIsRange
valid_is_range (Options head s) small can =
    let n = number_of s.members in
    let both = and_parts (head_valid head) (leb (size n) most_members) can in
    (head_in_range head both.0, (small, omega arith, few_in_range n both.1))
valid_is_range (Gap a b w) small can =
    let gap = fair a b w can in
    (omega (arith, gap.0), omega (arith, gap.1), gap.2)
valid_is_range (Faces odd s) small can =
    let n = number_of s.members in
    let both = and_parts (leb 1 (size n)) (leb (size n) most_members) can in
    (small, subst (λ m. 1 ≤ m) (size_members n) (leb-true 1 (size n) both.0), few_in_range n both.1)

-- RULES

-- what is in range is said whole
said_whole : (o : Option Body) → SomeInRange o → if_valid o ≡ o
said_whole None range = absurd range
said_whole (Some b) range = said_body (Some b) b refl (range_is_valid b range)

in_range_counts : InRangeCounts
in_range_counts requests s r narrow range owned =
    let counts : counts_for s r.owner ≡ true =
    elim owned [
      | inl house ↦ house_counts s r.owner house
      | inr there ↦ request_counts s r.owner (omega (arith, range.0)) there
    ]
    in counted s r counts ∙ said_whole r.body range.1

each_counts : (requests s : ℕ) (rs : List Rule) → requests ≤ widest → AllByRecursion (RuleInRange requests) rs → AllByRecursion (Counts s) rs
each_counts requests s [] narrow each = tt
each_counts requests s (r ∷ rs) narrow each = (in_range_counts requests s r narrow each.0, each_counts requests s rs narrow each.1)

read_counts : ReadCounts
read_counts text room s h rs read =
    let ticket = ((exact text room).only h rs read).0 in
    each_counts h.requests s rs ticket.requests ticket.each

pub every_rule_counts : EveryRuleCounts
every_rule_counts = (range_is_valid, valid_is_range, in_range_counts, read_counts)
