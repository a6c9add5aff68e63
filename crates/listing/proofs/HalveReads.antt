-- How many answers a halving reads, by the size of the set: each half has a request, so no more than two for each request but the first. Assumes nothing.
use Rattle.std.proofs.Common.{ℕ, zero, suc, ◌+◌, ◌-◌, ◌*◌, ◌^◌, ◌<◌, ◌≤◌, Bool, List, length, arith}
use Rattle.sets.specs.Members.{lower, size}
use Rattle.sets.proofs.Halves.{size_lower, size_upper}
use Rattle.listing.specs.Halving.{Halved, asks, ends}
use Rattle.listing.specs.HalvingLaws.{ReadsFew, AsksFew}
use Rattle.listing.proofs.HalveSteps.{Halves, no_answer, is_unfit, is_fit, is_whole, upper_asks, lower_asks, both_end, steps_of}
use Rattle.listing.proofs.HalveHeld.{lower_small, upper_small}
use Rattle.listing.proofs.HalveWithin.{HoldsOf, holds_by}

-- the check of the held set: none where no part was added
abbrev pub check : (added : ℕ) → ℕ
check zero = 0
check (suc a) = 1

pub check_le : (added : ℕ) → check added ≤ 1
check_le zero = omega arith
check_le (suc a) = omega arith

-- what a halving reads and asks for
reads : {d h a p : ℕ} {answers : List Bool} {out : Halved} → Halves d h a p answers out → p < 2 ^ 32
    → HoldsOf (λ s. length answers < check a + (2 * size p - 2)) (λ r rest. length answers ≤ length rest + (check a + (2 * size p - 2))) out
reads (no_answer d h a p) small = omega arith
reads (is_unfit d h a p rest) small = omega arith
reads (is_fit d h a p rest out go) small = holds_by out (λ s f. omega arith) (λ r left f. omega arith) (reads go small)
reads (is_whole d h p answers why) small = omega arith
reads (upper_asks d h p s answers more high) small =
    omega (arith, size_lower p small, size_upper p small, check_le (lower p), reads high (upper_small p small))
reads (lower_asks d h p r s answers rest more high low) small =
    omega (arith, size_lower p small, size_upper p small, check_le (lower p), check_le r, reads high (upper_small p small), reads low (lower_small p small))
reads (both_end d h p r q answers rest last more high low) small =
    omega (arith, size_lower p small, size_upper p small, check_le (lower p), check_le r, reads high (upper_small p small), reads low (lower_small p small))

pub reads_few : ReadsFew
reads_few seed r answers rest small e = omega (arith, reads (steps_of seed answers (ends r rest) e) small)

pub asks_few : AsksFew
asks_few seed s answers small e = omega (arith, reads (steps_of seed answers (asks s) e) small)
