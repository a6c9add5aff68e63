use Rattle.std.proofs.Common.{◌≡◌, ◌≤◌, take}
use Rattle.std.specs.List.{count_by}
use Rattle.sets.specs.Requests.{names}
use Rattle.sets.specs.Sets.{bits_of}
use Rattle.listing.proofs.settle.count.Given as goal

-- so far those that have the request are counted
abbrev pub invariant-loop-set : goal.invariant-loop-set
invariant-loop-set l = (l.times ≡ count_by (λ s. names (bits_of s) l.request) (take l.set-index l.sets)) × (l.times ≤ l.set-index)
