use Rattle.listing.proofs.Bills.{bill_laws}
use Rattle.listing.proofs.bill_laws_hold.Goals as goal

pub returns : goal.returns
returns c = bill_laws
