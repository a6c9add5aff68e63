use Rattle.std.proofs.Common.{◌≡◌, ℕ, suc, ◌^◌, ◌<◌, get_or}
use Rattle.faces.proofs.sums.Sums.new.Given as goal

-- the faces below p are themselves
abbrev pub invariant-loop-p : goal.invariant-loop-p
invariant-loop-p l = (k : ℕ) → k < l.p → get_or l.sum-items k 0 ≡ 2 ^ suc k
