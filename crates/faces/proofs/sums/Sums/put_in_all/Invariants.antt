use Rattle.std.proofs.Common.{◌≡◌, ◌++◌, map, take, drop}
use Rattle.rules.specs.Substitution.{put_in}
use Rattle.faces.proofs.sums.Sums.put_in_all.Given as goal

-- the sum is put in in front
abbrev pub invariant-loop-face : goal.invariant-loop-face
invariant-loop-face l = l.face-items ≡ map (put_in l.place l.sum) (take l.face-index l.fn.self.of) ++ drop l.face-index l.fn.self.of
