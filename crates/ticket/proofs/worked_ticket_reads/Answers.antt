use Rattle.std.proofs.Common.{refl}
use Rattle.std.specs.Fmt.{digits}
use Rattle.ticket.proofs.worked_ticket_reads.Goals as goal

pub returns : goal.returns
unfolding digits
returns c = (refl, refl)
