use Rattle.fields.proofs.FirstFlaw.{flaw_laws}
use Rattle.ticket.proofs.FirstRefused.{refusal_laws}
use Rattle.ticket.proofs.refusal_laws_hold.Goals as goal

pub returns : goal.returns
returns c = refusal_laws flaw_laws
