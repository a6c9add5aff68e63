use Rattle.sets.proofs.Weights.{set_laws}
use Rattle.sets.proofs.set_laws_hold.Goals as goal

pub returns : goal.returns
returns c = set_laws
