-- Each answer that a halving has read is one to a set that it asks for when it has those before. Assumes nothing.
use Rattle.std.proofs.Common.{◌≡◌, ℕ, zero, suc, ◌+◌, ◌-◌, ◌<◌, Bool, true, false, List, ◌∷◌, ◌++◌, length, take, inl, inr, sym, ap, ◌∙◌, subst, length-append, arith}
use Rattle.std.proofs.Math.Seq.{take-append-add}
use Rattle.std.specs.Prelude.{bit_or}
use Rattle.std.proofs.lemmas.Bool.{cases_lt}
use Rattle.sets.specs.Members.{none, lower, size}
use Rattle.listing.specs.Halving.{Halved, asks, ends}
use Rattle.listing.specs.HalvingLaws.{EachIsAsked}
use Rattle.listing.proofs.HalveSteps.{upper, Halves, no_answer, is_unfit, is_fit, is_whole, upper_asks, lower_asks, both_end, steps_of, halves_is}
use Rattle.listing.proofs.HalveWithin.{HoldsOf, holds_by}
use Rattle.listing.proofs.HalvePrefix.{Read, read_first}

-- with the first i answers, fewer than were read, the halving asks for some set
abbrev IsAsked : (d h a p : ℕ) (answers rest : List Bool) → Type 0
IsAsked d h a p answers rest = (i : ℕ) → i + length rest < length answers → (s : ℕ) × Halves d h a p (take i answers) (asks s)

-- where the held set is checked, it is asked for first; if it is fit, what follows is asked in turn
asked_fit : (d h a p : ℕ) (rest left : List Bool) → IsAsked d h none p rest left → IsAsked d h (suc a) p (true ∷ rest) left
asked_fit d h a p rest left later zero few = (h, no_answer d h a p)
asked_fit d h a p rest left later (suc i) few =
    let next = later i (omega arith) in (next.0, is_fit d h a p (take i rest) (asks next.0) next.1)

asked_unfit : (d h a p : ℕ) (rest : List Bool) → IsAsked d h (suc a) p (false ∷ rest) rest
asked_unfit d h a p rest zero few = (h, no_answer d h a p)
asked_unfit d h a p rest (suc i) few = absurd (omega arith)

-- those of both halves
asked_both : (d h p r : ℕ) (answers rest last : List Bool) → 1 < size p → Read d (bit_or h (lower p)) (lower p) (upper p) answers r rest
    → IsAsked d (bit_or h (lower p)) (lower p) (upper p) answers rest → IsAsked d (bit_or h r) r (lower p) rest last → IsAsked (suc d) h none p answers last
asked_both d h p r answers rest last more read high low i few =
    elim (cases_lt (i + length rest) (length answers)) [
      | inl first ↦ let next = high i first in (next.0, upper_asks d h p next.0 (take i answers) more next.1)
      | inr later ↦
          let whole : length answers ≡ length read.0 + length rest = ap length read.1 ∙ length-append read.0 rest in
          let j : ℕ = i - length read.0 in
          let at : length read.0 + j ≡ i = omega arith in
          let next = low j (omega arith) in
          let cut : read.0 ++ take j rest ≡ take i answers = sym (take-append-add read.0 rest j) ∙ ap (take (length read.0 + j)) (sym read.1) ∙ ap (λ n. take n answers) at in (
            next.0,
            subst (λ l. Halves (suc d) h none p l (asks next.0)) cut
                (lower_asks d h p r next.0 (read.0 ++ take j rest) (take j rest) more (read.2 (take j rest)) next.1),
          )
    ]

-- each step
asked : {d h a p : ℕ} {answers : List Bool} {out : Halved} → Halves d h a p answers out → HoldsOf (λ s. Unit {0}) (λ r rest. IsAsked d h a p answers rest) out
asked (no_answer d h a p) = tt
asked (is_unfit d h a p rest) = asked_unfit d h a p rest
asked (is_fit d h a p rest out go) = holds_by out (λ s f. tt) (λ r left f. asked_fit d h a p rest left f) (asked go)
asked (is_whole d h p answers why) = λ i few. absurd (omega arith)
asked (upper_asks d h p s answers more high) = tt
asked (lower_asks d h p r s answers rest more high low) = tt
asked (both_end d h p r q answers rest last more high low) = asked_both d h p r answers rest last more (read_first high) (asked high) (asked low)

-- of a whole halving
pub each_is_asked : EachIsAsked
each_is_asked seed result i answers rest e few =
    let next = asked (steps_of seed answers (ends result rest) e) i few in (next.0, halves_is next.1)
