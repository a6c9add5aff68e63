-- What the code of halving hands on, as a definition has it. Assumes nothing.
use Rattle.sets.specs.Sets.{bits_of}
use Rattle.listing.specs.Halving.{Halved, asks, ends}
use Rattle.listing.specs.declared.halves.Halved.{Halved as Handed}
use Rattle.listing.specs.declared.halves.Halved.TheVariants.{Asks, Ends}

-- the set that is asked for; or the result, and the answers that were not read
abbrev pub halved : Handed → Halved
halved (Asks s) = asks (bits_of s)
halved (Ends result rest) = ends (bits_of result) rest.now
