use Rattle.streams.proofs.Told.{limit_enough}
use Rattle.streams.proofs.limit_is_enough.Goals as goal

pub returns : goal.returns
returns c = limit_enough
