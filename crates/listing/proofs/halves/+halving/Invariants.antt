use Rattle.std.proofs.Common.{◌+◌, ◌*◌}
use Rattle.listing.proofs.halves.+halving.Given as goal

-- the depth falls at each halving, and a held set is checked before a set is taken apart
abbrev pub decreases-halve : goal.decreases-halve
decreases-halve l = 2 * l.depth + 1

abbrev pub decreases-take_apart : goal.decreases-take_apart
decreases-take_apart l = 2 * l.depth
