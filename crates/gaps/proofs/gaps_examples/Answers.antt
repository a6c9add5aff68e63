use Rattle.std.proofs.Common.{refl}
use Rattle.rules.specs.Rounds.{lowest}
use Rattle.gaps.proofs.gaps_examples.Goals as goal

pub returns : goal.returns
unfolding lowest
returns c = (refl, (refl, refl))
