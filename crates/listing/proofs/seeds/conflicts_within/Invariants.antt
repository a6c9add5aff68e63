use Rattle.std.proofs.Common.{◌≡◌, ◌≤◌, length, take}
use Rattle.listing.specs.Settling.{conflicts_of}
use Rattle.listing.proofs.seeds.conflicts_within.Given as goal

-- so far the conflicts within the set are kept, no more than there were lines
abbrev pub invariant-loop-line : goal.invariant-loop-line
invariant-loop-line l = (l.conflicts.items ≡ conflicts_of l.set.bits (take l.line-index l.lines)) × (length l.conflicts.items ≤ l.line-index)
