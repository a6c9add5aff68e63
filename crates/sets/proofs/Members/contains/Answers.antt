use Rattle.std.proofs.Common.{◌^◌, ◌<◌, ◌-◌, sym, ◌∙◌, rules}
use Rattle.std.proofs.lemmas.Bool.{and_left, and_right, ltb-false, lt-leb}
use Rattle.std.specs.Prelude.{nat_le}
use Rattle.sets.specs.Members.{has}
use Rattle.sets.proofs.Bounds.{has_past}
use Rattle.sets.proofs.Members.contains.Goals as goal
use Rattle.sets.proofs.Members.contains.Goals.{then-i, else-i}

pub returns-else-i-lt32 : goal.returns-else-i-lt32
returns-else-i-lt32 g c =
    let first = g.row.FIRST in
    let at = c.args.i - first in
    let held = has c.args.self.bits at in
    let small : c.args.self.bits < 2 ^ 32 = search rules in
    elim c.if-i.branch [
      | then-i w ↦
          let far = ltb-false at 32 (sym w.value-is ∙ c.if-i-lt32.false) in
          c.if-i-lt32.false ∙ sym (and_right (nat_le first c.args.i) held (has_past 32 c.args.self.bits at small far))
      | else-i w ↦ c.if-i-lt32.false ∙ sym (and_left (nat_le first c.args.i) held (lt-leb first c.args.i w.if-i.false))
    ]
