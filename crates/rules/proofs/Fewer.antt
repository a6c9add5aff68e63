-- A part of a set has fewer rules in force: the same choice serves, so every part of a fit set is fit. Assumes nothing.
use Rattle.std.proofs.Common.{◌≡◌, ℕ, ◌≤◌, true, false, ◌||◌, eqb, leb, List, [], ◌∷◌, is_some, Some, None, Option, sym, refl, subst, inl, inr, lit≤}
use Rattle.std.specs.Option.{option_map}
use mathlib.Core.Logic.{ite}
use Rattle.std.proofs.lemmas.Bool.{false≢true, cases_Bool, cond-true, cond-false, and_parts, and_from, or_cases, or_left, or_right}
use Rattle.sets.specs.Requests.{widest, names, Part}
use Rattle.sets.proofs.Weights.{part_names}
use Rattle.oracle.specs.Meaning.{Downward, Lawful}
use Rattle.rules.specs.Choices.{Choice, Every, MeetsKind}
use Rattle.rules.specs.Force.{counts_for, if_valid, in_force, and_then, said}
use Rattle.rules.specs.Found.{Decision, fit_by, meant_by, FoundBy}
use Rattle.rules.specs.declared.Body.{Body}
use Rattle.rules.specs.declared.Kind.{Kind}
use Rattle.rules.specs.declared.Rule.{Rule}

-- who counts for a part counts for the whole
counts_more : (t s owner : ℕ) → Part t s → counts_for t owner ≡ true → counts_for s owner ≡ true
counts_more t s owner within there =
    let both = and_parts (leb owner widest) (eqb owner 0 || names t owner) there in
    and_from (leb owner widest) (eqb owner 0 || names s owner) both.0
    (elim (or_cases (eqb owner 0) (names t owner) both.1) [
      | inl house ↦ or_left (eqb owner 0) (names s owner) house
      | inr asked ↦ or_right (eqb owner 0) (names s owner) (part_names t s within owner asked)
    ])

every_rest : (P : Body → Type 0) (o : Option Body) (bs : List Body) → Every P (and_then o bs) → Every P bs
every_rest P None bs all = all
every_rest P (Some b) bs all = all.1

every_more : (P : Body → Type 0) (o : Option Body) (bs cs : List Body) → (Every P bs → Every P cs) → Every P (and_then o bs) → Every P (and_then o cs)
every_more P None bs cs go all = go all
every_more P (Some b) bs cs go all = (all.0, go all.1)

-- what holds of all that is said for a set holds of all that is said for a part of it
pub every_fewer : (P : Body → Type 0) (t s : ℕ) (rules : List Rule) → Part t s → Every P (said s rules) → Every P (said t rules)
every_fewer P t s [] within all = tt
every_fewer P t s (r ∷ rs) within all =
    let rest : Every P (said s rs) → Every P (said t rs) = every_fewer P t s rs within in
    let Q : Option Body → Type 0 = λ o. Every P (and_then o (said t rs)) in
    let R : Option Body → Type 0 = λ o. Every P (and_then o (said s rs)) in
    elim (cases_Bool (counts_for t r.owner)) [
      | inl there ↦
          let here = cond-true (counts_for t r.owner) (if_valid r.body) None there in
          let same = cond-true (counts_for s r.owner) (if_valid r.body) None (counts_more t s r.owner within there) in
          subst Q (sym here) (every_more P (if_valid r.body) (said s rs) (said t rs) rest (subst R same all))
      | inr away ↦
          let nothing = cond-false (counts_for t r.owner) (if_valid r.body) None away in
          subst Q (sym nothing) (rest (every_rest P (in_force s r) (said s rs) all))
    ]

-- a decision, as the truth value that it comes to
pub yes_true : {A : Type 0} (d : Dec A) → A → ite d true false ≡ true
yes_true (yes a) x = refl
yes_true (no n) x = absurd (n x)

pub true_yes : {A : Type 0} (d : Dec A) → ite d true false ≡ true → A
true_yes (yes a) e = a
true_yes (no n) e = absurd (false≢true e)

pub no_false : {A : Type 0} (d : Dec A) → (A → ⊥) → ite d true false ≡ false
no_false (yes a) x = absurd (x a)
no_false (no n) x = refl

-- the law of the verdict, for every kind of rule, however it is decided
pub rules_downward : (k : Kind) (decide : Decision k) (rules : List Rule) (width : ℕ) → Downward width (fit_by k decide rules)
rules_downward k decide rules width t s inside within fit =
    let found = true_yes (decide rules s) fit in
    yes_true (decide rules t) (found.0, every_fewer (MeetsKind k found.0) t s rules within found.1)

pub rule_lawful : (k : Kind) (decide : Decision k) (rules : List Rule) (width : ℕ) → width ≤ widest → Lawful (meant_by k decide width rules)
rule_lawful k decide rules width narrow =
    record { narrow = narrow; counted = tt; labelled = lit≤ tt; downward = rules_downward k decide rules width }

-- whether a search finds something is the verdict
pub found_fit :
    {T : Type 0} (k : Kind) (decide : Decision k) (chosen : T → Choice) (rules : List Rule) (s : ℕ) (o : Option T)
    → FoundBy k rules s (option_map chosen o) → is_some o ≡ fit_by k decide rules s
found_fit k decide chosen rules s None away = sym (no_false (decide rules s) away)
found_fit k decide chosen rules s (Some x) serves = sym (yes_true (decide rules s) (chosen x, serves))
