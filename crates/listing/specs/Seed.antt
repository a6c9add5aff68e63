-- The seed of a listing as the code has it. Assumes nothing.
use Rattle.std.specs.Prelude.{ℕ, List, Option, Some, None}
use Rattle.sets.specs.Sets.{set_of}
use Rattle.sets.specs.declared.Members.{Members}
use Rattle.listing.specs.Orders.{keeps_more, foremost}
use Rattle.listing.specs.declared.lines.Line.{Line}

-- a number, if there is one, as the set that it holds
abbrev pub as_set : Option ℕ → Option (Members 1)
as_set None = None
as_set (Some s) = Some (set_of s)

-- the unexplored set of greatest keep weight, if there is one
abbrev pub seed_of : (width : ℕ) → List Line → Option ℕ
seed_of width lines = foremost (keeps_more width) width lines

-- the same as a set
abbrev pub seed_set : (width : ℕ) → List Line → Option (Members 1)
seed_set width lines = as_set (seed_of width lines)
