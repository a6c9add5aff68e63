use Rattle.listing.proofs.Orders.{order_laws}
use Rattle.listing.proofs.order_laws_hold.Goals as goal

pub returns : goal.returns
returns c = order_laws
