use Rattle.std.proofs.Common.{arith}
use Rattle.fields.proofs.Digits.{at_most_seven}
use Rattle.fields.proofs.number.digits.Goals as goal

pub overflow_mul-sum : goal.overflow_mul-sum
overflow_mul-sum c = omega (arith, at_most_seven c.loop-b.sum c.loop-b.b-index c.loop-b.invariant.0 (omega (arith, c.requires)))

pub overflow_add-sum : goal.overflow_add-sum
overflow_add-sum c = omega (arith, at_most_seven c.loop-b.sum c.loop-b.b-index c.loop-b.invariant.0 (omega (arith, c.requires)), c.in_ok-sum.ensures.value)

pub returns-clause-bound : goal.returns-clause-bound
returns-clause-bound c = at_most_seven c.loop-b.sum c.loop-b.b-index c.loop-b.invariant.0 (omega (arith, c.requires))
