use Rattle.std.proofs.Common.{◌≡◌, ◌+◌, drop}
use Rattle.fields.specs.Formed.{first_outside}
use Rattle.fields.proofs.line.Form.ranged.Given as goal

abbrev pub invariant-loop-i : goal.invariant-loop-i
invariant-loop-i l = first_outside l.self.sort l.self.requests (l.i + 1) (drop l.i l.values) ≡ first_outside l.self.sort l.self.requests 1 l.values
