use Rattle.std.proofs.Common.{◌≡◌}
use Rattle.sets.specs.Masks.{number_of}
use Rattle.rules.specs.Substitution.{bit_of, total}
use Rattle.faces.proofs.sums.Sums.total.Given as goal

-- the rest of the faces, added to what there is, gives the answer
abbrev pub invariant-loop-rest : goal.invariant-loop-rest
invariant-loop-rest l = total l.self.of l.rest l.sum ≡ total l.self.of (number_of l.fn.faces) (bit_of l.odd)

abbrev pub decreases-loop-rest : goal.decreases-loop-rest
decreases-loop-rest l = l.rest
