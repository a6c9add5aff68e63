-- Whether some places of the marks meet the gaps in force is decided by the rounds. Assumes nothing.
use Rattle.std.proofs.Common.{◌≡◌, ℕ, zero, suc, ◌<◌, ◌≤◌, false, List, [], ◌∷◌, ℤ, pos, ◌+ℤ◌, ◌-ℤ◌, nat_abs, ◌≤ℤ◌, Some, None, Option, sym, refl, ◌∙◌, inl, inr, le_refl, arith}
use Rattle.std.proofs.lemmas.Int.{ints}
use Rattle.std.proofs.lemmas.Bool.{false≢true, or_parts, cases_Bool, cases_eq, cond-true, cond-false}
use Rattle.rules.specs.Choices.{Choice, placed, Every, MeetsKind, FitBy}
use Rattle.rules.specs.Force.{said}
use Rattle.rules.specs.Rounds.{marks, moves, raised_all, rounds, lowest, all_nought}
use Rattle.rules.specs.declared.Body.{Body}
use Rattle.rules.specs.declared.Body.TheVariants.{Options, Gap, Faces}
use Rattle.rules.specs.declared.Kind.TheVariants as kind
use Rattle.rules.specs.declared.Rule.{Rule}
use Rattle.rules.proofs.Bodies.{Fair, OfGap, gaps_give}
use Rattle.rules.proofs.Raising.{Serves}
use Rattle.rules.proofs.Saying.{Valid, said_valid}
use Rattle.rules.proofs.Settled.{total}
use Rattle.rules.proofs.Walking.{none_serves}

-- places at rest meet every gap
rest_meets : (ps : List ℤ) (bs : List Body) → moves bs ps ≡ false → Every (MeetsKind kind.Gaps (placed ps)) bs
rest_meets ps [] r = tt
rest_meets ps (Options head s ∷ bs) r = (λ e. absurd (false≢true e), rest_meets ps bs r)
rest_meets ps (Gap a b w ∷ bs) r =
    let p = or_parts _ (moves bs ps) r in
    (λ e. omega (arith, ints, p.0), rest_meets ps bs p.1)
rest_meets ps (Faces odd s ∷ bs) r = (λ e. absurd (false≢true e), rest_meets ps bs r)

-- what rounds end in is at rest
rounds_rest : (turns : ℕ) (bs : List Body) (qs ps : List ℤ) → rounds turns bs qs ≡ Some ps → moves bs ps ≡ false
rounds_rest zero bs qs ps e = cc
rounds_rest (suc turns) bs qs ps e =
    elim (cases_Bool (moves bs qs)) [
      | inl t ↦ rounds_rest turns bs (raised_all bs qs qs) ps (sym (cond-true _ _ _ t) ∙ e)
      | inr t ↦ let f : Some qs ≡ Some ps = sym (cond-false _ _ _ t) ∙ e in let g : qs ≡ ps = cc in rw g at t
    ]

pub lowest_serves : (bs : List Body) (ps : List ℤ) → lowest bs ≡ Some ps → Every (MeetsKind kind.Gaps (placed ps)) bs
unfolding lowest
lowest_serves bs ps e = rest_meets ps bs (rounds_rest marks bs all_nought ps e)

-- a choice shifted up, so that no mark lies below nought
abbrev shifted : Choice → (m : ℕ) → ℕ → ℕ
shifted c m i = nat_abs (c.mark i +ℤ pos m)

shifted_serves :
    (m : ℕ) (p q w : ℤ) → nat_abs p ≤ m → nat_abs q ≤ m → (p -ℤ q) ≤ℤ w → (pos (nat_abs (p +ℤ pos m)) -ℤ pos (nat_abs (q +ℤ pos m))) ≤ℤ w
shifted_serves m p q w h k l = omega (arith, ints)

-- a sum is at least each of its parts
total_has : (f : ℕ → ℕ) (n i : ℕ) → i < n → f i ≤ total f n
total_has f zero i h = absurd (omega arith)
total_has f (suc n) i h = elim (cases_eq i n) [ inl e ↦ rw e (omega arith) | inr m ↦ omega (arith, total_has f n i (omega arith)) ]

meets_gaps : (c : Choice) (bs : List Body) → Every (MeetsKind kind.Gaps c) bs → Every (OfGap (λ a b w. (c.mark a -ℤ c.mark b) ≤ℤ w)) bs
meets_gaps c [] m = tt
meets_gaps c (Options head s ∷ bs) m = (tt, meets_gaps c bs m.1)
meets_gaps c (Gap a b w ∷ bs) m = (m.0 refl, meets_gaps c bs m.1)
meets_gaps c (Faces odd s ∷ bs) m = (tt, meets_gaps c bs m.1)

pub lowest_none : (bs : List Body) → Every Valid bs → lowest bs ≡ None → ((c : Choice) × Every (MeetsKind kind.Gaps c) bs) → ⊥
lowest_none bs v e (c, m) =
    let far : ℕ → ℕ = λ i. nat_abs (c.mark i) in
    let up = total far marks in
    let z = shifted c up in
    let given = meets_gaps c bs m in
    let serves : (a b : ℕ) (w : ℤ) → Fair a b w → (c.mark a -ℤ c.mark b) ≤ℤ w → (c.mark a -ℤ c.mark b) ≤ℤ w → Serves z a b w =
    λ a b w p s _. shifted_serves up (c.mark a) (c.mark b) w (total_has far marks a p.0) (total_has far marks b p.1) s in
    none_serves bs v e (total z marks) z (le_refl (total z marks)) (gaps_give serves bs v given given)

-- the rounds decide
abbrev decided_by : (bs : List Body) → Every Valid bs → (o : Option (List ℤ)) → lowest bs ≡ o → Dec ((c : Choice) × Every (MeetsKind kind.Gaps c) bs)
decided_by bs v None e = no (lowest_none bs v e)
decided_by bs v (Some ps) e = yes (placed ps, lowest_serves bs ps e)

abbrev pub gaps_decided : (rules : List Rule) (s : ℕ) → Dec (FitBy kind.Gaps rules s)
gaps_decided rules s = decided_by (said s rules) (said_valid s rules) (lowest (said s rules)) refl
