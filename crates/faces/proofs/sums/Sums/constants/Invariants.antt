use Rattle.std.proofs.Common.{◌≡◌, ◌-◌, ◌^◌, ◌<◌, drop}
use Rattle.rules.specs.Substitution.{constants}
use Rattle.faces.proofs.sums.Sums.constants.Given as goal

-- the faces from p on
abbrev pub invariant-loop-p : goal.invariant-loop-p
invariant-loop-p l = (l.back ≡ constants (drop l.p l.self.of)) × (l.back < 2 ^ (32 - l.p))
