-- A halving that ends without an answer leaves none. Assumes nothing.
use Rattle.std.proofs.Common.{◌≡◌, ℕ, Bool, List, [], length, ap, arith, length-append}
use Rattle.std.proofs.lemmas.List.{nil_from_length}
use Rattle.sets.specs.Members.{none}
use Rattle.listing.specs.Halving.{ends, halving_of, deepest}
use Rattle.listing.proofs.HalvePrefix.{Read, read_first}
use Rattle.listing.proofs.HalveSteps.{steps_of}

pub no_answers_left : (seed result : ℕ) (rest : List Bool) → halving_of seed [] ≡ ends result rest → rest ≡ []
no_answers_left seed result rest e =
    let read : Read deepest none none seed [] result rest = read_first (steps_of seed [] (ends result rest) e) in
    nil_from_length rest (omega (arith, ap length read.1, length-append read.0 rest))
