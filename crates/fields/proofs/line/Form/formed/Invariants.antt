use Rattle.std.proofs.Common.{◌≡◌, length}
use Rattle.fields.specs.Cuts.{fields}
use Rattle.fields.specs.Formed.{formed}
use Rattle.fields.proofs.Forming.{said_so_far}
use Rattle.fields.proofs.line.Form.formed.Given as goal

abbrev pub invariant-loop-i : goal.invariant-loop-i
invariant-loop-i l = record {
  run : (goal.iterator-loop-i).can_next l.i-iterator × (goal.iterator-loop-i).is_finite l.i-iterator;
  many : length l.values.items ≡ length l.yielded;
  said : said_so_far l.self.sort l.self.line (fields l.value) (length l.yielded) l.values.items ≡ formed l.self.sort l.self.line 1 (fields l.value);
}
