-- A set of at most 2 ^ d requests is taken apart no more than d times in a row, so that a halving to a greater depth takes the same steps. Assumes nothing.
use Rattle.std.proofs.Common.{◌≡◌, ℕ, suc, ◌^◌, ◌<◌, ◌≤◌, Bool, List, ◌⊎◌, inl, inr, ap, arith, pow-suc}
use Rattle.sets.specs.Members.{lower, size}
use Rattle.sets.proofs.Halves.{size_lower, size_upper}
use Rattle.listing.specs.Halving.{Halved}
use Rattle.listing.specs.HalvingLaws.{DeeperIsSame}
use Rattle.listing.proofs.HalveSteps.{upper, Halves, no_answer, is_unfit, is_fit, is_whole, upper_asks, lower_asks, both_end, halves, halves_is}
use Rattle.listing.proofs.HalveHeld.{lower_small, upper_small}

-- a set that is not taken apart at depth d has one request at most
one_at_most : (d p : ℕ) → (d ≡ 0) ⊎ (size p ≤ 1) → size p ≤ 2 ^ d → size p ≤ 1
one_at_most d p (inl e) room = omega (arith, ap (λ n. 2 ^ n) e)
one_at_most d p (inr few) room = few

-- each half of a set that may be taken apart suc d times in a row may be so d times
lower_room : (d p : ℕ) → p < 2 ^ 32 → size p ≤ 2 ^ suc d → size (lower p) ≤ 2 ^ d
lower_room d p small room = omega (arith, pow-suc 2 d, size_lower p small)

upper_room : (d p : ℕ) → p < 2 ^ 32 → size p ≤ 2 ^ suc d → size (upper p) ≤ 2 ^ d
upper_room d p small room = omega (arith, pow-suc 2 d, size_upper p small)

-- the same steps at a greater depth
deeper : {d h a p : ℕ} {answers : List Bool} {out : Halved} → Halves d h a p answers out → p < 2 ^ 32 → size p ≤ 2 ^ d → Halves (suc d) h a p answers out
deeper (no_answer d h a p) small room = no_answer (suc d) h a p
deeper (is_unfit d h a p rest) small room = is_unfit (suc d) h a p rest
deeper (is_fit d h a p rest out go) small room = is_fit (suc d) h a p rest out (deeper go small room)
deeper (is_whole d h p answers why) small room = is_whole (suc d) h p answers (inr (one_at_most d p why room))
deeper (upper_asks d h p s answers more high) small room =
    upper_asks (suc d) h p s answers more (deeper high (upper_small p small) (upper_room d p small room))
deeper (lower_asks d h p r s answers rest more high low) small room =
    lower_asks (suc d) h p r s answers rest more (deeper high (upper_small p small) (upper_room d p small room)) (deeper low (lower_small p small) (lower_room d p small room))
deeper (both_end d h p r q answers rest last more high low) small room =
    both_end (suc d) h p r q answers rest last more (deeper high (upper_small p small) (upper_room d p small room)) (deeper low (lower_small p small) (lower_room d p small room))

pub deeper_is_same : DeeperIsSame
deeper_is_same d h a p answers small room = halves_is (deeper (halves d h a p answers) small room)
