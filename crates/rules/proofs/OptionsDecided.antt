-- Whether options serve is decided: the least that the rules turn on serve, or none do. Assumes nothing.
use Rattle.std.proofs.Common.{◌≡◌, ℕ, true, false, leb, List, [], ◌∷◌, Some, None, Option, sym, refl, ◌∙◌, subst, inl, inr, arith, lit<}
use Rattle.sets.specs.Members.{size}
use Rattle.std.proofs.lemmas.Bool.{cond-true, false≢true, both_ways, and_parts, cond-false, cases_Bool, or_cases, or_parts, leb-true}
use Rattle.sets.specs.Masks.{number_of}
use Rattle.sets.specs.Members.{none, has, added}
use Rattle.sets.specs.Requests.{Part, part}
use Rattle.rules.specs.Choices.{Choice, choice_on, Every, MeetsKind, FitBy}
use Rattle.rules.specs.Force.{head_valid, said}
use Rattle.rules.specs.Limits.{most_members}
use Rattle.rules.specs.Propagation.{spread, most_sweeps, bars, barred, least}
use Rattle.rules.specs.declared.Body.{Body}
use Rattle.rules.specs.declared.Body.TheVariants.{Options, Gap, Faces}
use Rattle.rules.specs.declared.Kind.TheVariants as kind
use Rattle.rules.specs.declared.Rule.{Rule}
use Rattle.sets.proofs.Parts.{part_trans, has_added, part_true, true_part}
use Rattle.rules.proofs.Saying.{Valid, said_valid}
use Rattle.rules.proofs.Spreading.{Still, sweep_still, spread_still, spread_needed}

-- what the rules turn on, and keep on
abbrev spread_all : List Body → ℕ
spread_all bs = spread most_sweeps bs none

-- where a rule turns nothing on and does not bar what is on, that meets it
still_meets : (b : Body) (on : ℕ) → Valid b → Still on b → bars b on ≡ false → MeetsKind kind.Options (choice_on on) b
still_meets (Options None s) on valid still allowed of =
    λ p. both_ways (part (number_of s.members) on) allowed (true_part (number_of s.members) on p)
still_meets (Options (Some h) s) on valid still allowed of =
    λ p.
    let set = number_of s.members in
    let turns : added on h ≡ on = sym (cond-true (part set on) (added on h) on (true_part set on p)) ∙ still in
    let P : ℕ → Type 0 = λ n. has n h ≡ true in
    subst P turns (has_added on h (omega (arith, leb-true h 31 (and_parts (head_valid (Some h)) (leb (size set) most_members) valid).0)))
still_meets (Gap a b w) on valid still allowed of = absurd (false≢true of)
still_meets (Faces odd s) on valid still allowed of = absurd (false≢true of)

all_met : (bs : List Body) (on : ℕ) → Every Valid bs → Every (Still on) bs → barred bs on ≡ false → Every (MeetsKind kind.Options (choice_on on)) bs
all_met [] on valid still allowed = tt
all_met (b ∷ bs) on valid still allowed =
    let apart = or_parts (bars b on) (barred bs on) allowed in
    (still_meets b on valid.0 still.0 apart.0, all_met bs on valid.1 still.1 apart.1)

-- what bars some options bars all choices that have them on
bars_more : (b : Body) (on : ℕ) (c : Choice) → bars b on ≡ true → Part on c.on → MeetsKind kind.Options c b → ⊥
bars_more (Options None s) on c bar p meets =
    let set = number_of s.members in
    meets refl (part_trans set on c.on (part_true set on bar) p)
bars_more (Options (Some h) s) on c bar p meets = false≢true bar
bars_more (Gap a b w) on c bar p meets = false≢true bar
bars_more (Faces odd s) on c bar p meets = false≢true bar

none_met : (bs : List Body) (on : ℕ) (c : Choice) → barred bs on ≡ true → Part on c.on → Every (MeetsKind kind.Options c) bs → ⊥
none_met [] on c bar p meets = false≢true bar
none_met (b ∷ bs) on c bar p meets =
    elim (or_cases (bars b on) (barred bs on) bar) [
      | inl here ↦ bars_more b on c here p meets.0
      | inr later ↦ none_met bs on c later p meets.1
    ]

-- the choice with these options on meets all that the rules say of options
abbrev pub Serves : List Body → ℕ → Type 0
Serves bs on = Every (MeetsKind kind.Options (choice_on on)) bs

abbrev pub SomeServes : List Body → Type 0
SomeServes bs = (c : Choice) × Every (MeetsKind kind.Options c) bs

-- what the rules turn on serves, unless a rule bars it; then nothing serves
spread_serves : (bs : List Body) → Every Valid bs → barred bs (spread_all bs) ≡ false → Serves bs (spread_all bs)
spread_serves bs valid allowed =
    all_met bs (spread_all bs) valid (sweep_still bs (spread_all bs) (spread_still most_sweeps bs none (lit< tt) (omega arith))) allowed

spread_barred : (bs : List Body) → barred bs (spread_all bs) ≡ true → SomeServes bs → ⊥
spread_barred bs bar (c, meets) = none_met bs (spread_all bs) c bar (spread_needed most_sweeps bs c none meets refl) meets

-- the least that serves does serve, and where there is none nothing does
pub least_serves : (bs : List Body) → Every Valid bs → (on : ℕ) → least bs ≡ Some on → Serves bs on
least_serves bs valid on e =
    let it = spread_all bs in
    elim (cases_Bool (barred bs it)) [
      | inl bar ↦ let z : ◌≡◌ {A = ℕ} 0 1 = cc (e, cond-true (barred bs it) None (Some it) bar) in absurd (omega arith)
      | inr free ↦ let same : it ≡ on = cc (e, cond-false (barred bs it) None (Some it) free) in subst (Serves bs) same (spread_serves bs valid free)
    ]

pub least_none : (bs : List Body) → least bs ≡ None → SomeServes bs → ⊥
least_none bs e =
    let it = spread_all bs in
    elim (cases_Bool (barred bs it)) [
      | inl bar ↦ spread_barred bs bar
      | inr free ↦ let z : ◌≡◌ {A = ℕ} 0 1 = cc (e, cond-false (barred bs it) None (Some it) free) in absurd (omega arith)
    ]

-- so a search that finds the least decides
abbrev decided_by : (bs : List Body) (found : Option ℕ) → ((on : ℕ) → found ≡ Some on → Serves bs on) → (found ≡ None → SomeServes bs → ⊥)
    → Dec (SomeServes bs)
decided_by bs None serves away = no (away refl)
decided_by bs (Some on) serves away = yes (choice_on on, serves on refl)

abbrev pub options_decided : (rules : List Rule) (s : ℕ) → Dec (FitBy kind.Options rules s)
options_decided rules s =
    decided_by (said s rules) (least (said s rules)) (least_serves (said s rules) (said_valid s rules)) (least_none (said s rules))
