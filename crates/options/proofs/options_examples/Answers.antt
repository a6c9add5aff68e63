use Rattle.std.proofs.Common.{refl}
use Rattle.sets.specs.Members.{size}
use Rattle.options.proofs.options_examples.Goals as goal

pub returns : goal.returns
unfolding size
returns c = ((refl, refl), refl)
