use Rattle.fields.proofs.FirstFlaw.{flaw_laws}
use Rattle.fields.proofs.first_flaw_holds.Goals as goal

pub returns : goal.returns
returns c = flaw_laws
