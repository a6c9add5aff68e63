use Rattle.std.proofs.Common.{◌≡◌, true, ◌⊎◌}
use Rattle.sets.specs.Requests.{names, Part}
use Rattle.listing.proofs.settle.commonest.Given as goal

-- some request of the set is chosen, or none was looked at yet
abbrev pub invariant-loop-request : goal.invariant-loop-request
invariant-loop-request l = Part l.rest.bits l.fn.of.bits × ((names l.fn.of.bits l.best ≡ true) ⊎ ((l.best ≡ 0) × (l.rest.bits ≡ l.fn.of.bits)))

-- a request less is left
abbrev pub decreases-loop-request : goal.decreases-loop-request
decreases-loop-request l = l.rest.bits
