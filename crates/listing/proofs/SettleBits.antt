-- Sets of requests, one request at a time: what is in both, in either or in one alone, and sets that differ by one request. Assumes nothing.
use Rattle.std.proofs.Common.{◌≡◌, ◌≢◌, ℕ, ◌-◌, ◌<◌, ◌≤◌, Bool, true, false, not, ◌&&◌, ◌||◌, ◌⊎◌, ltb, sym, refl, ap, ◌∙◌, inl, inr}
use lib.Bits.{bit_and, bit_or}
use Rattle.std.proofs.lemmas.Bool.{cases_eq, ltb-true, and_parts, and_from, and_right, or_cases, or_left, or_right, true≢false, false_from_ne_true, not-true, not_from_true, not_from_false}
use Rattle.sets.specs.Members.{none, has, added_from, minus}
use Rattle.sets.specs.Requests.{widest, names, Within}
use Rattle.sets.proofs.Naming.{set_adds}
use Rattle.sets.proofs.Weights.{set_laws, union_names, common_names, minus_names, empty_names}

-- a request is not 0, and one of a set that fits is at most 32
pub request_some : (n r : ℕ) → names n r ≡ true → 0 < r
request_some n r there = ltb-true 0 r (and_parts (ltb 0 r) (has n (r - 1)) there).0

pub request_places : (n r : ℕ) → Within widest n → names n r ≡ true → (0 < r) × (r ≤ widest)
request_places n r small there = (request_some n r there, set_laws.3 widest n small r there)

-- a request of both is one of each
pub both_named : (n m r : ℕ) → names (bit_and n m) r ≡ true → (names n r ≡ true) × (names m r ≡ true)
both_named n m r there = and_parts (names n r) (names m r) (sym (common_names n m r) ∙ there)

pub named_both : (n m r : ℕ) → names n r ≡ true → names m r ≡ true → names (bit_and n m) r ≡ true
named_both n m r there too = common_names n m r ∙ and_from (names n r) (names m r) there too

-- one of either is one of the first or of the second
pub either_named : (n m r : ℕ) → names (bit_or n m) r ≡ true → (names n r ≡ true) ⊎ (names m r ≡ true)
either_named n m r there = or_cases (names n r) (names m r) (sym (union_names n m r) ∙ there)

pub named_first : (n m r : ℕ) → names n r ≡ true → names (bit_or n m) r ≡ true
named_first n m r there = union_names n m r ∙ or_left (names n r) (names m r) there

pub named_second : (n m r : ℕ) → names m r ≡ true → names (bit_or n m) r ≡ true
named_second n m r there = union_names n m r ∙ or_right (names n r) (names m r) there

-- and one of the first without the second is in the first alone
pub first_named : (n m r : ℕ) → names (minus n m) r ≡ true → (names n r ≡ true) × (names m r ≡ false)
first_named n m r there =
    let parts = and_parts (names n r) (not (names m r)) (sym (minus_names n m r) ∙ there) in
    (parts.0, not-true (names m r) parts.1)

pub named_minus : (n m r : ℕ) → names n r ≡ true → names m r ≡ false → names (minus n m) r ≡ true
named_minus n m r there away = minus_names n m r ∙ and_from (names n r) (not (names m r)) there (not_from_false (names m r) away)

-- sets have nothing in common where no request is one of both
pub nothing_common : (n m : ℕ) → ((r : ℕ) → names n r ≡ true → names m r ≡ true → ⊥) → bit_and n m ≡ none
nothing_common n m apart =
    set_laws.0 (bit_and n m) none (λ r.
    false_from_ne_true (names (bit_and n m) r) (λ there. let both = both_named n m r there in apart r both.0 both.1) ∙ sym (empty_names r))

pub common_not_none : (n m r : ℕ) → bit_and n m ≡ none → names n r ≡ true → names m r ≡ true → ⊥
common_not_none n m r e there too = true≢false (sym (named_both n m r there too) ∙ ap (λ k. names k r) e ∙ empty_names r)

-- m has one request more than n
pub record OneMore (n m r : ℕ) : Type 0 where
  pub lacks : names n r ≡ false
  pub there : names m r ≡ true
  pub others : (q : ℕ) → (q ≢ r) → names m q ≡ names n q

-- all requests of n are in m, and all of m but one in n
pub still_named : (n m r q : ℕ) → OneMore n m r → names n q ≡ true → names m q ≡ true
still_named n m r q one there =
    elim (cases_eq q r) [
      | inl same ↦ absurd (true≢false (sym there ∙ ap (names n) same ∙ one.lacks))
      | inr other ↦ one.others q other ∙ there
    ]

pub other_named : (n m r q : ℕ) → OneMore n m r → (q ≢ r) → names m q ≡ true → names n q ≡ true
other_named n m r q one other there = sym (one.others q other) ∙ there

-- a request of a set is not one that the set lacks
pub not_lacked : (n q r : ℕ) → names n q ≡ true → names n r ≡ false → q ≢ r
not_lacked n q r there away same = true≢false (sym there ∙ ap (names n) same ∙ away)

-- as has a set that one is added to, and a set before one is taken away
pub added_one : (n r : ℕ) → 0 < r → r ≤ widest → names n r ≡ false → OneMore n (added_from 1 n r) r
added_one n r some few away = let adds = set_adds n r some few in record { lacks = away; there = adds.0; others = adds.1 }

or_false : (b : Bool) → (b || false) ≡ b
or_false true = refl
or_false false = refl

and_true : (b : Bool) → (b && true) ≡ b
and_true true = refl
and_true false = refl

pub freed_one : (n r : ℕ) → 0 < r → r ≤ widest → names n r ≡ true → OneMore (minus n (added_from 1 none r)) n r
freed_one n r some few there =
    let adds = set_adds none r some few in
    record {
      lacks = minus_names n (added_from 1 none r) r ∙ and_right (names n r) (not (names (added_from 1 none r) r)) (not_from_true (names (added_from 1 none r) r) adds.0);
      there = there;
      others =
          λ q other.
          sym
          (minus_names n (added_from 1 none r) q
          ∙ ap (λ b. names n q && not b) (adds.1 q other ∙ empty_names q)
          ∙ and_true (names n q));
    }

-- as has the set of one request besides those of another
pub united_one : (n r : ℕ) → 0 < r → r ≤ widest → names n r ≡ false → OneMore n (bit_or n (added_from 1 none r)) r
united_one n r some few away =
    let adds = set_adds none r some few in
    record {
      lacks = away;
      there = named_second n (added_from 1 none r) r adds.0;
      others = λ q other. union_names n (added_from 1 none r) q ∙ ap (λ b. names n q || b) (adds.1 q other ∙ empty_names q) ∙ or_false (names n q);
    }

-- to add a request that a set has leaves the set
pub added_same : (n r : ℕ) → Within widest n → names n r ≡ true → added_from 1 n r ≡ n
added_same n r small there =
    let place = request_places n r small there in
    let adds = set_adds n r place.0 place.1 in
    set_laws.0 (added_from 1 n r) n (λ q.
    elim (cases_eq q r) [
      | inl same ↦ ap (names (added_from 1 n r)) same ∙ adds.0 ∙ sym there ∙ ap (names n) (sym same)
      | inr other ↦ adds.1 q other
    ])
