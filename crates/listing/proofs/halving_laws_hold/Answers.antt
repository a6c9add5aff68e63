use Rattle.listing.proofs.HalveLaws.{halving_laws}
use Rattle.listing.proofs.halving_laws_hold.Goals as goal

pub returns : goal.returns
returns c = halving_laws
