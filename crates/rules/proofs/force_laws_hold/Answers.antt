use Rattle.rules.proofs.Laws.{force_laws}
use Rattle.rules.proofs.force_laws_hold.Goals as goal

pub returns : goal.returns
returns c = force_laws
