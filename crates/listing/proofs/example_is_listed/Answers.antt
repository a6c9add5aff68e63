use Rattle.listing.proofs.Examples.{example_is_listed}
use Rattle.listing.proofs.example_is_listed.Goals as goal

pub returns : goal.returns
returns c = example_is_listed
