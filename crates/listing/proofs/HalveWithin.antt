-- What a halving asks, and its result, lie within the set that is halved and the held one. Assumes nothing.
use Rattle.std.proofs.Common.{ℕ, ◌^◌, ◌<◌, Bool, List, refl, subst}
use Rattle.std.specs.Prelude.{bit_or}
use lib.Bits.{or_zero_l}
use Rattle.sets.specs.Members.{lower}
use Rattle.sets.specs.Requests.{Part}
use Rattle.sets.proofs.Parts.{part_refl, part_trans, part_or_l, part_or}
use Rattle.sets.proofs.Halves.{lower_part}
use Rattle.listing.specs.Halving.{Halved, asks, ends}
use Rattle.listing.specs.HalvingLaws.{AsksWithin, EndsWithin}
use Rattle.listing.proofs.HalveSteps.{upper, Halves, no_answer, is_unfit, is_fit, is_whole, upper_asks, lower_asks, both_end, steps_of}
use Rattle.listing.proofs.HalveHeld.{both_in, upper_part, lower_small, upper_small}

-- what is so of the set that is asked for, or of the result and the answers that were not read
abbrev pub HoldsOf : (asked : ℕ → Type 0) (ended : ℕ → List Bool → Type 0) → Halved → Type 0
HoldsOf asked ended (asks s) = asked s
HoldsOf asked ended (ends r rest) = ended r rest

pub holds_by : {asked more_asked : ℕ → Type 0} {ended more_ended : ℕ → List Bool → Type 0} (out : Halved)
    → ((s : ℕ) → asked s → more_asked s) → ((r : ℕ) (rest : List Bool) → ended r rest → more_ended r rest)
    → HoldsOf asked ended out → HoldsOf more_asked more_ended out
holds_by (asks s) f g h = f s h
holds_by (ends r rest) f g h = g r rest h

-- each step
pub lies_within : {d h a p : ℕ} {answers : List Bool} {out : Halved} → Halves d h a p answers out → p < 2 ^ 32
    → HoldsOf (λ s. Part s (bit_or h p)) (λ r rest. Part r p) out
lies_within (no_answer d h a p) small = part_or_l h p
lies_within (is_unfit d h a p rest) small = refl
lies_within (is_fit d h a p rest out go) small = lies_within go small
lies_within (is_whole d h p answers why) small = part_refl p
lies_within (upper_asks d h p s answers more high) small =
    part_trans s (bit_or (bit_or h (lower p)) (upper p)) (bit_or h p) (lies_within high (upper_small p small)) (both_in h p (lower p) (upper p) (lower_part p small) (upper_part p))
lies_within (lower_asks d h p r s answers rest more high low) small =
    let inner : Part r p = part_trans r (upper p) p (lies_within high (upper_small p small)) (upper_part p) in
    part_trans s (bit_or (bit_or h r) (lower p)) (bit_or h p) (lies_within low (lower_small p small)) (both_in h p r (lower p) inner (lower_part p small))
lies_within (both_end d h p r q answers rest last more high low) small =
    let above : Part r p = part_trans r (upper p) p (lies_within high (upper_small p small)) (upper_part p) in
    let below : Part q p = part_trans q (lower p) p (lies_within low (lower_small p small)) (lower_part p small) in
    part_or q r p below above

-- of a whole halving
pub asks_within : AsksWithin
asks_within seed s answers small e = subst (Part s) (or_zero_l seed) (lies_within (steps_of seed answers (asks s) e) small)

pub ends_within : EndsWithin
ends_within seed r answers rest small e = lies_within (steps_of seed answers (ends r rest) e) small
