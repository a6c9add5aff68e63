use Rattle.std.proofs.Common.{◌≡◌, MatchOption, take}
use Rattle.sets.specs.Sets.{bits_of}
use Rattle.listing.specs.Settling.{IsShortest}
use Rattle.listing.proofs.settle.shortest.Given as goal

-- the best so far is the shortest of the sets that were looked at
abbrev pub invariant-loop-set : goal.invariant-loop-set
invariant-loop-set l = MatchOption l.best (l.set-index ≡ 0) (λ s. IsShortest l.free.bits (take l.set-index l.sets) (bits_of s))
