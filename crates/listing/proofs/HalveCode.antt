-- The steps of a halving as its code takes them. Assumes nothing.
use Rattle.std.proofs.Common.{◌≡◌, ℕ, zero, suc, ◌-◌, ◌<◌, ◌≤◌, Bool, true, false, eqb, List, [], ◌∷◌, ◌⊎◌, length, take, drop, get_or, sym, ap, ◌∙◌, arith}
use Rattle.std.proofs.Math.Seq.{take-length}
use Rattle.std.specs.Prelude.{bit_or}
use Rattle.std.proofs.lemmas.Bool.{true≢false}
use Rattle.sets.specs.Members.{none, lower, minus, size}
use Rattle.listing.specs.Halving.{Halved, asks, ends, halve}
use Rattle.listing.proofs.HalveSteps.{upper, Halves, no_answer, is_unfit, is_fit, is_whole, upper_asks, lower_asks, both_end, halves, halves_is, steps_to}

-- the answers after the first
rest_after : (b : Bool) (rest : List Bool) → take (length (b ∷ rest) - 1) (drop 1 (b ∷ rest)) ≡ rest
rest_after b rest = ap (λ n. take n rest) (omega arith) ∙ take-length rest

-- a part was added: there is no answer, or the first says that the held set is fit, or that it is unfit
pub answer_missing : (d h a p : ℕ) (answers : List Bool) → eqb a none ≡ false → length answers < 1 → asks h ≡ halve d h a p answers
answer_missing d h zero p answers some few = absurd (true≢false some)
answer_missing d h (suc a) p [] some few = sym (halves_is (no_answer d h a p))
answer_missing d h (suc a) p (b ∷ rest) some few = absurd (omega arith)

pub answer_fit : (d h a p : ℕ) (answers : List Bool) → eqb a none ≡ false → 1 ≤ length answers → get_or answers 0 false ≡ true
    → halve d h none p (take (length answers - 1) (drop 1 answers)) ≡ halve d h a p answers
answer_fit d h zero p answers some more good = absurd (true≢false some)
answer_fit d h (suc a) p [] some more good = absurd (omega arith)
answer_fit d h (suc a) p (false ∷ rest) some more good = absurd (true≢false (sym good))
answer_fit d h (suc a) p (true ∷ rest) some more good =
    ap (halve d h none p) (rest_after true rest) ∙ sym (halves_is (is_fit d h a p rest (halve d h none p rest) (halves d h none p rest)))

pub answer_unfit : (d h a p : ℕ) (answers : List Bool) → eqb a none ≡ false → 1 ≤ length answers → get_or answers 0 false ≡ false
    → ends none (take (length answers - 1) (drop 1 answers)) ≡ halve d h a p answers
answer_unfit d h zero p answers some more bad = absurd (true≢false some)
answer_unfit d h (suc a) p [] some more bad = absurd (omega arith)
answer_unfit d h (suc a) p (true ∷ rest) some more bad = absurd (true≢false bad)
answer_unfit d h (suc a) p (false ∷ rest) some more bad = ap (ends none) (rest_after false rest) ∙ sym (halves_is (is_unfit d h a p rest))

-- a set that is not taken apart
pub ends_whole : (d h p : ℕ) (answers : List Bool) → (d ≡ 0) ⊎ (size p ≤ 1) → ends p answers ≡ halve d h none p answers
ends_whole d h p answers why = sym (halves_is (is_whole d h p answers why))

-- one that is, where the code has computed its halves and what is held with the lower one
module _ (d h p first second both : ℕ) (deep : d ≡ 0 → ⊥) (more : 1 < size p) (is_first : first ≡ lower p) (is_second : second ≡ minus p first) (is_both : both ≡ bit_or h first) where
  above : (answers : List Bool) (out : Halved) → out ≡ halve (d - 1) both first second answers → Halves (d - 1) (bit_or h (lower p)) (lower p) (upper p) answers out
  above answers out e = steps_to (d - 1) (bit_or h (lower p)) (lower p) (upper p) answers out cc

  below : (r next : ℕ) (rest : List Bool) (out : Halved) → next ≡ bit_or h r → out ≡ halve (d - 1) next r first rest → Halves (d - 1) (bit_or h r) r (lower p) rest out
  below r next rest out is_next e = steps_to (d - 1) (bit_or h r) r (lower p) rest out cc

  at_depth : (answers : List Bool) (out : Halved) → Halves (suc (d - 1)) h none p answers out → out ≡ halve d h none p answers
  at_depth answers out go = let e : suc (d - 1) ≡ d = omega arith in sym (halves_is go) ∙ ap (λ n. halve n h none p answers) e

  pub upper_asked : (s : ℕ) (answers : List Bool) → asks s ≡ halve (d - 1) both first second answers → asks s ≡ halve d h none p answers
  upper_asked s answers e = at_depth answers (asks s) (upper_asks (d - 1) h p s answers more (above answers (asks s) e))

  pub lower_asked : (r next s : ℕ) (answers rest : List Bool) → ends r rest ≡ halve (d - 1) both first second answers → next ≡ bit_or h r
      → asks s ≡ halve (d - 1) next r first rest → asks s ≡ halve d h none p answers
  lower_asked r next s answers rest e is_next f =
      at_depth answers (asks s) (lower_asks (d - 1) h p r s answers rest more (above answers (ends r rest) e) (below r next rest (asks s) is_next f))

  pub both_ended : (r next q result : ℕ) (answers rest last : List Bool) → ends r rest ≡ halve (d - 1) both first second answers → next ≡ bit_or h r
      → ends q last ≡ halve (d - 1) next r first rest → result ≡ bit_or q r → ends result last ≡ halve d h none p answers
  both_ended r next q result answers rest last e is_next f is_result =
      ap (λ n. ends n last) is_result
      ∙ at_depth answers (ends (bit_or q r) last) (both_end (d - 1) h p r q answers rest last more (above answers (ends r rest) e) (below r next rest (ends q last) is_next f))
