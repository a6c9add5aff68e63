-- The worked listing, by computation. Assumes nothing.
use Rattle.std.specs.Prelude.{refl}
use Rattle.sets.specs.Members.{size, lower}
use Rattle.listing.specs.Bill.{bill}
use Rattle.listing.specs.Example.{ExampleEnds, ExampleIsCut, ExampleIsListed}
use Rattle.listing.specs.Halving.{halve}
use Rattle.listing.specs.Orders.{sets_below, foremost}
use Rattle.listing.specs.Turns.{turn}

example_ends : ExampleEnds
unfolding size lower bill halve sets_below foremost turn
example_ends = (refl, refl, refl, refl)

example_is_cut : ExampleIsCut
unfolding size lower bill halve sets_below foremost turn
example_is_cut = (refl, refl, refl, refl, refl)

pub example_is_listed : ExampleIsListed
example_is_listed = (example_ends, example_is_cut)
