-- A halving that ends has read the first of the answers, and does so whatever follows them; so one that asks has read all. Assumes nothing.
use Rattle.std.proofs.Common.{◌≡◌, ℕ, suc, ◌<◌, Bool, true, false, List, [], ◌∷◌, ◌++◌, ◌⊎◌, refl, sym, ap, ◌∙◌, subst, inl, inr, append_assoc}
use Rattle.std.specs.Prelude.{bit_or}
use Rattle.sets.specs.Members.{none, lower, size}
use Rattle.listing.specs.Halving.{Halved, asks, ends, halving_of, deepest}
use Rattle.listing.specs.HalvingLaws.{ReadsAll}
use Rattle.listing.proofs.HalveSteps.{upper, Halves, no_answer, is_unfit, is_fit, is_whole, upper_asks, lower_asks, both_end, steps_of, halves_is}
use Rattle.listing.proofs.HalveWithin.{HoldsOf, holds_by}

-- the answers that were read, and that the halving ends so with any others after them
abbrev pub Read : (d h a p : ℕ) (answers : List Bool) (r : ℕ) (rest : List Bool) → Type 0
Read d h a p answers r rest = (front : List Bool) × (answers ≡ front ++ rest) × ((others : List Bool) → Halves d h a p (front ++ others) (ends r others))

-- what is read by both halves
read_both : (d h p r q : ℕ) (answers rest last : List Bool) → 1 < size p → Read d (bit_or h (lower p)) (lower p) (upper p) answers r rest
    → Read d (bit_or h r) r (lower p) rest q last → Read (suc d) h none p answers (bit_or q r) last
read_both d h p r q answers rest last more high low =
    let front : List Bool = high.0 ++ low.0 in (
      front,
      high.1 ∙ ap (λ l. high.0 ++ l) low.1 ∙ sym (append_assoc high.0 low.0 last),
      λ others.
          subst (λ l. Halves (suc d) h none p l (ends (bit_or q r) others)) (sym (append_assoc high.0 low.0 others))
          (both_end d h p r q (high.0 ++ (low.0 ++ others)) (low.0 ++ others) others more (high.2 (low.0 ++ others)) (low.2 others)),
    )

pub read_first : {d h a p : ℕ} {answers : List Bool} {out : Halved} → Halves d h a p answers out → HoldsOf (λ s. Unit {0}) (λ r rest. Read d h a p answers r rest) out
read_first (no_answer d h a p) = tt
read_first (is_unfit d h a p rest) = (false ∷ [], refl, λ others. is_unfit d h a p others)
read_first (is_fit d h a p rest out go) = holds_by out (λ s f. tt) (λ r left f. (true ∷ f.0, ap (λ l. true ∷ l) f.1, λ others. is_fit d h a p (f.0 ++ others) (ends r others) (f.2 others))) (read_first go)
read_first (is_whole d h p answers why) = ([], refl, λ others. is_whole d h p others why)
read_first (upper_asks d h p s answers more high) = tt
read_first (lower_asks d h p r s answers rest more high low) = tt
read_first (both_end d h p r q answers rest last more high low) = read_both d h p r q answers rest last more (read_first high) (read_first low)

-- nothing comes after nothing
nothing_after : (front rest : List Bool) → [] ≡ front ++ rest → rest ≡ []
nothing_after [] rest e = sym e
nothing_after (f ∷ front) rest e = cc

-- a list with one more at its end begins with another, which is all of it or no more than the list
last_of : (b : Bool) (xs front rest : List Bool) → xs ++ (b ∷ []) ≡ front ++ rest → (rest ≡ []) ⊎ ((left : List Bool) × (xs ≡ front ++ left))
last_of b xs [] rest e = inr (xs, refl)
last_of b [] (f ∷ front) rest e = inl (nothing_after front rest cc)
last_of b (x ∷ xs) (f ∷ front) rest e =
    let first : x ≡ f = cc in
    elim (last_of b xs front rest cc) [
      | inl all ↦ inl all
      | inr (left, later) ↦ inr (left, cc)
    ]

asks_ends : {s r : ℕ} {rest : List Bool} → asks s ≡ ends r rest → ⊥
asks_ends e = cc

pub reads_all : ReadsAll
reads_all seed s r answers rest answer asked ended =
    let read : Read deepest none none seed (answers ++ (answer ∷ [])) r rest = read_first (steps_of seed (answers ++ (answer ∷ [])) (ends r rest) ended) in
    elim (last_of answer answers read.0 rest read.1) [
      | inl all ↦ all
      | inr (left, e) ↦ absurd (asks_ends (sym asked ∙ ap (halving_of seed) e ∙ halves_is (read.2 left)))
    ]
