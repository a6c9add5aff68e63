use Rattle.std.proofs.Common.{refl}
use Rattle.std.specs.Int.Count.{count_trailing_zeros}
use Rattle.sets.specs.Members.{size}
use Rattle.rules.specs.Substitution.{free}
use Rattle.faces.proofs.faces_examples.Goals as goal

pub returns : goal.returns
unfolding size free count_trailing_zeros
returns c = ((refl, refl, refl), refl)
