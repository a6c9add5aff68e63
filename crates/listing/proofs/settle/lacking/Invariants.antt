use Rattle.std.proofs.Common.{◌≡◌, ◌≤◌, length, take}
use Rattle.listing.specs.Settling.{lacking_of}
use Rattle.listing.proofs.settle.lacking.Given as goal

-- so far the sets that lack the request are kept, which are no more than were looked at
abbrev pub invariant-loop-set : goal.invariant-loop-set
invariant-loop-set l = (l.rest.items ≡ lacking_of l.request (take l.set-index l.sets)) × (length l.rest.items ≤ l.set-index)
