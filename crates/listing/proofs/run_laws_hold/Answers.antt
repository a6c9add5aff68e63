use Rattle.listing.proofs.Bills.{bill_laws}
use Rattle.listing.proofs.Falling.{line_laws}
use Rattle.listing.proofs.Orders.{order_laws}
use Rattle.listing.proofs.RunAll.{run_laws}
use Rattle.listing.proofs.HalveLaws.{halving_laws}
use Rattle.listing.proofs.run_laws_hold.Goals as goal

pub returns : goal.returns
returns c = run_laws order_laws line_laws halving_laws bill_laws
