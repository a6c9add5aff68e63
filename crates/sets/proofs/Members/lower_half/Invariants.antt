use Rattle.std.proofs.Common.{◌≡◌, ◌%◌, ◌^◌, ◌≤◌, count_ones}
use Rattle.sets.proofs.Members.lower_half.Given as goal

-- the members counted are those among the first k numbers, and no more than half of all
abbrev pub invariant-loop-k : goal.invariant-loop-k
invariant-loop-k g l = (l.count ≡ count_ones (l.self.bits % 2 ^ l.k)) × (l.count ≤ l.half)
