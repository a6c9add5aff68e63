-- The steps of a halving as a relation: the halving takes them, and no others. Assumes nothing.
use Rattle.std.proofs.Common.{◌≡◌, ℕ, zero, suc, ◌<◌, ◌≤◌, Bool, true, false, List, [], ◌∷◌, ◌⊎◌, inl, inr, refl, ap, ◌∙◌, subst, arith, leb, eqb}
use Rattle.std.specs.Prelude.{bit_or}
use Rattle.std.proofs.lemmas.Bool.{leb-true, leb-false, le-leb, lt-leb, cases_Bool, ne_eqb}
use Rattle.sets.specs.Members.{none, minus, lower, size}
use Rattle.listing.specs.Halving.{Halved, asks, ends, halve, then_with, deepest, halving_of}

-- the upper half of a set
abbrev pub upper : ℕ → ℕ
upper p = minus p (lower p)

-- what a halving to the depth d does, with the held set h, the part added last and the set p, on some answers
pub data Halves : (d h added p : ℕ) → List Bool → Halved → Type 0 where
  -- a part was added, so that the held set is checked: there is no answer yet, or it is unfit, or fit
  no_answer : (d h a p : ℕ) → Halves d h (suc a) p [] (asks h)
  is_unfit : (d h a p : ℕ) (rest : List Bool) → Halves d h (suc a) p (false ∷ rest) (ends none rest)
  is_fit : (d h a p : ℕ) (rest : List Bool) (out : Halved) → Halves d h none p rest out → Halves d h (suc a) p (true ∷ rest) out
  -- the set is not taken apart
  is_whole : (d h p : ℕ) (answers : List Bool) → (d ≡ 0) ⊎ (size p ≤ 1) → Halves d h none p answers (ends p answers)
  -- or it is: the upper half asks, or it ends, and then the lower half asks or ends
  upper_asks : (d h p s : ℕ) (answers : List Bool) → 1 < size p → Halves d (bit_or h (lower p)) (lower p) (upper p) answers (asks s)
      → Halves (suc d) h none p answers (asks s)
  lower_asks : (d h p r s : ℕ) (answers rest : List Bool) → 1 < size p → Halves d (bit_or h (lower p)) (lower p) (upper p) answers (ends r rest)
      → Halves d (bit_or h r) r (lower p) rest (asks s) → Halves (suc d) h none p answers (asks s)
  both_end : (d h p r q : ℕ) (answers rest last : List Bool) → 1 < size p → Halves d (bit_or h (lower p)) (lower p) (upper p) answers (ends r rest)
      → Halves d (bit_or h r) r (lower p) rest (ends q last) → Halves (suc d) h none p answers (ends (bit_or q r) last)

-- the equations of the definition
halve_zero : (h p : ℕ) (answers : List Bool) → halve zero h none p answers ≡ ends p answers
unfolding halve
halve_zero h p answers = refl

halve_few : (d h p : ℕ) (answers : List Bool) → leb (size p) 1 ≡ true → halve (suc d) h none p answers ≡ ends p answers
unfolding halve
halve_few d h p answers few = rw few refl

-- what follows on the upper half's outcome, and on that of both
below : (d h p : ℕ) → ℕ → List Bool → Halved
below d h p r rest = then_with (halve d (bit_or h r) r (lower p) rest) (λ q last. ends (bit_or q r) last)

halve_more : (d h p : ℕ) (answers : List Bool) → leb (size p) 1 ≡ false
    → halve (suc d) h none p answers ≡ then_with (halve d (bit_or h (lower p)) (lower p) (upper p) answers) (below d h p)
unfolding halve below
halve_more d h p answers more = rw more refl

some_added : (a : ℕ) → eqb (suc a) none ≡ false
some_added a = ne_eqb (suc a) none (λ e. omega arith)

halve_asked : (d h a p : ℕ) → halve d h (suc a) p [] ≡ asks h
unfolding halve
halve_asked zero h a p = rw (some_added a) refl
halve_asked (suc d) h a p = rw (some_added a) refl

halve_unfit : (d h a p : ℕ) (rest : List Bool) → halve d h (suc a) p (false ∷ rest) ≡ ends none rest
unfolding halve
halve_unfit zero h a p rest = rw (some_added a) refl
halve_unfit (suc d) h a p rest = rw (some_added a) refl

halve_fit : (d h a p : ℕ) (rest : List Bool) → halve d h (suc a) p (true ∷ rest) ≡ halve d h none p rest
unfolding halve
halve_fit zero h a p rest = rw (some_added a) refl
halve_fit (suc d) h a p rest = rw (some_added a) refl

-- the halving takes these steps: those of the lower half,
below_steps : (d h p r : ℕ) (answers rest : List Bool) → 1 < size p → Halves d (bit_or h (lower p)) (lower p) (upper p) answers (ends r rest) → (out : Halved)
    → Halves d (bit_or h r) r (lower p) rest out → Halves (suc d) h none p answers (then_with out (λ q last. ends (bit_or q r) last))
below_steps d h p r answers rest more high (asks s) low = lower_asks d h p r s answers rest more high low
below_steps d h p r answers rest more high (ends q last) low = both_end d h p r q answers rest last more high low

-- of both,
above_steps : (d h p : ℕ) (answers : List Bool) → 1 < size p → ((h a p : ℕ) (answers : List Bool) → Halves d h a p answers (halve d h a p answers)) → (out : Halved)
    → Halves d (bit_or h (lower p)) (lower p) (upper p) answers out → Halves (suc d) h none p answers (then_with out (below d h p))
unfolding below
above_steps d h p answers more go (asks s) high = upper_asks d h p s answers more high
above_steps d h p answers more go (ends r rest) high =
    below_steps d h p r answers rest more high (halve d (bit_or h r) r (lower p) rest) (go (bit_or h r) r (lower p) rest)

-- of a set once the held set is checked,
apart_steps : (d h p : ℕ) (answers : List Bool) → ((h a p : ℕ) (answers : List Bool) → Halves d h a p answers (halve d h a p answers))
    → Halves (suc d) h none p answers (halve (suc d) h none p answers)
apart_steps d h p answers go =
    elim (cases_Bool (leb (size p) 1)) [
      | inl few ↦ rw (halve_few d h p answers few) (is_whole (suc d) h p answers (inr (leb-true (size p) 1 few)))
      | inr more ↦ rw (halve_more d h p answers more) (above_steps d h p answers (leb-false (size p) 1 more) go (halve d (bit_or h (lower p)) (lower p) (upper p) answers) (go (bit_or h (lower p)) (lower p) (upper p) answers))
    ]

-- and of its check
check_steps : (d h p : ℕ) → ((answers : List Bool) → Halves d h none p answers (halve d h none p answers)) → (a : ℕ) (answers : List Bool)
    → Halves d h a p answers (halve d h a p answers)
check_steps d h p go zero answers = go answers
check_steps d h p go (suc a) [] = rw (halve_asked d h a p) (no_answer d h a p)
check_steps d h p go (suc a) (true ∷ rest) = rw (halve_fit d h a p rest) (is_fit d h a p rest (halve d h none p rest) (go rest))
check_steps d h p go (suc a) (false ∷ rest) = rw (halve_unfit d h a p rest) (is_unfit d h a p rest)

pub halves : (d h added p : ℕ) (answers : List Bool) → Halves d h added p answers (halve d h added p answers)
halves zero h a p answers = check_steps zero h p (λ xs. rw (halve_zero h p xs) (is_whole zero h p xs (inl refl))) a answers
halves (suc d) h a p answers = check_steps (suc d) h p (λ xs. apart_steps d h p xs (halves d)) a answers

-- and no others
whole_is : (d h p : ℕ) (answers : List Bool) → (d ≡ 0) ⊎ (size p ≤ 1) → halve d h none p answers ≡ ends p answers
whole_is zero h p answers why = halve_zero h p answers
whole_is (suc d) h p answers (inl e) = absurd (omega arith)
whole_is (suc d) h p answers (inr few) = halve_few d h p answers (le-leb (size p) 1 few)

pub halves_is : {d h added p : ℕ} {answers : List Bool} {out : Halved} → Halves d h added p answers out → halve d h added p answers ≡ out
unfolding below
halves_is (no_answer d h a p) = halve_asked d h a p
halves_is (is_unfit d h a p rest) = halve_unfit d h a p rest
halves_is (is_fit d h a p rest out go) = halve_fit d h a p rest ∙ halves_is go
halves_is (is_whole d h p answers why) = whole_is d h p answers why
halves_is (upper_asks d h p s answers more high) =
    halve_more d h p answers (lt-leb (size p) 1 more) ∙ ap (λ o. then_with o (below d h p)) (halves_is high)
halves_is (lower_asks d h p r s answers rest more high low) =
    halve_more d h p answers (lt-leb (size p) 1 more)
    ∙ ap (λ o. then_with o (below d h p)) (halves_is high)
    ∙ ap (λ o. then_with o (λ q last. ends (bit_or q r) last)) (halves_is low)
halves_is (both_end d h p r q answers rest last more high low) =
    halve_more d h p answers (lt-leb (size p) 1 more)
    ∙ ap (λ o. then_with o (below d h p)) (halves_is high)
    ∙ ap (λ o. then_with o (λ q last. ends (bit_or q r) last)) (halves_is low)

-- the steps to an outcome, and those of a whole halving
pub steps_to : (d h a p : ℕ) (answers : List Bool) (out : Halved) → halve d h a p answers ≡ out → Halves d h a p answers out
steps_to d h a p answers out e = subst (Halves d h a p answers) e (halves d h a p answers)

pub steps_of : (seed : ℕ) (answers : List Bool) (out : Halved) → halving_of seed answers ≡ out → Halves deepest none none seed answers out
steps_of seed answers out e = steps_to deepest none none seed answers out e
