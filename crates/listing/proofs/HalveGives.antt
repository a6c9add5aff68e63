-- What a whole halving gives: the unfit part of least blame weight, which is minimal, and of all requests the preferred conflict. Assumes nothing.
use Rattle.std.proofs.Common.{◌≡◌, ℕ, ◌^◌, ◌<◌, ◌≤◌, Bool, List, ◌∷◌, length, take, get_or, inl, inr, sym, ap, ◌∙◌, mod-eq_of_lt, pow_pos, length-append, arith}
use Rattle.std.specs.Prelude.{slice_get, Some, Option}
use Rattle.std.proofs.Math.Seq.{take-append_seam, get_or-append_seam}
use Rattle.std.proofs.lemmas.Option.{slice_get-get_or}
use lib.Bits.{or_zero_l, and_mask}
use Rattle.std.proofs.lemmas.Bool.{cases_Bool}
use Rattle.sets.specs.Members.{none, size}
use Rattle.sets.specs.Requests.{everyone}
use Rattle.sets.proofs.Parts.{part_trans, part_le, part_below}
use Rattle.listing.specs.Halving.{asks, ends, halving_of, deepest, AreAnswers}
use Rattle.listing.specs.HalvingLaws.{GivesLeastUnfit, LeastIsMinimal, LeastIsPreferred}
use Rattle.listing.proofs.HalveSteps.{steps_of, halves_is}
use Rattle.listing.proofs.HalveHeld.{size_within}
use Rattle.listing.proofs.HalveLeast.{Told, IsLeast, least}

-- answers that are the verdict's, by what stands before each and after it
answers_told : (fit : ℕ → Bool) (seed : ℕ) (answers : List Bool) → AreAnswers fit seed answers → Told fit deepest none none seed answers
answers_told fit seed answers are front rest b s e go =
    let i : ℕ = length front in
    let within : i < length answers = omega (arith, ap length e, length-append front (b ∷ rest)) in
    let asked : halving_of seed (take i answers) ≡ asks s = ap (halving_of seed) (ap (take i) e ∙ take-append_seam front (b ∷ rest)) ∙ halves_is go in
    let said : slice_get answers i ≡ Some (fit s) = are i s within asked in
    let there : slice_get answers i ≡ Some b =
    slice_get-get_or answers i b within ∙ ap {B = Option Bool} Some (ap (λ l. get_or l i b) e ∙ get_or-append_seam front b rest b)
    in cc

pub gives_least_unfit : GivesLeastUnfit
gives_least_unfit width fit seed answers rest r narrow down within start bad are e =
    let room : size seed ≤ 2 ^ 5 = omega (arith, size_within width seed narrow within) in
    let found : IsLeast fit none seed r =
    least width fit narrow down (steps_of seed answers (ends r rest) e) (pow_pos width) within room (ap fit (or_zero_l seed) ∙ bad) (λ e. start) (answers_told fit seed answers are)
    in (
      found.0,
      sym (ap fit (or_zero_l r)) ∙ found.1,
      λ t inner other apart.
          let no_less : r ≤ t = found.2 t inner (ap fit (or_zero_l t) ∙ other) in
          let differs : t ≡ r → ⊥ = apart in omega arith,
    )

pub least_is_minimal : LeastIsMinimal
least_is_minimal width fit seed s within (inner, bad, lightest) = (
  (part_below width s seed inner within, bad),
  λ t (proper, other).
      elim (cases_Bool (fit t)) [
        | inl good ↦ good
        | inr unfit ↦ let less : s < t = lightest t (part_trans t s seed proper inner) unfit other in absurd (omega (arith, part_le t s proper))
      ],
)

pub least_is_preferred : LeastIsPreferred
least_is_preferred width fit s (inner, bad, lightest) =
    let all : everyone width < 2 ^ width = omega (arith, pow_pos width) in
    ((part_below width s (everyone width) inner all, bad), λ t (within, unfit) other. lightest t (and_mask t width ∙ mod-eq_of_lt within) unfit other)
