use Rattle.std.proofs.Common.{◌+◌, ◌*◌}
use Rattle.listing.proofs.settle.+settle.Given as goal

-- each branch has a free request less
abbrev pub decreases-settle : goal.decreases-settle
decreases-settle l = 3 * l.free.bits + 2

abbrev pub decreases-branch : goal.decreases-branch
decreases-branch l = 3 * l.free.bits + 1

abbrev pub decreases-with : goal.decreases-with
decreases-with l = 3 * l.free.bits

abbrev pub decreases-without : goal.decreases-without
decreases-without l = 3 * l.free.bits
