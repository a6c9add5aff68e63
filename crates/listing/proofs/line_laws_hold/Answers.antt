use Rattle.listing.proofs.Falling.{line_laws}
use Rattle.listing.proofs.line_laws_hold.Goals as goal

pub returns : goal.returns
returns c = line_laws
