use Rattle.std.proofs.Common.{◌≡◌, ◌+◌, length, drop, None}
use Rattle.fields.specs.Formed.{first_unrisen}
use Rattle.fields.proofs.line.Form.ordered.Given as goal

abbrev pub invariant-loop-i : goal.invariant-loop-i
invariant-loop-i l = record {
  run : (goal.iterator-loop-i).can_next l.i-iterator × (goal.iterator-loop-i).is_finite l.i-iterator;
  rises : first_unrisen l.before (2 + length l.yielded + 1) (drop (2 + length l.yielded) l.values) ≡ first_unrisen None 3 (drop 2 l.values);
}
