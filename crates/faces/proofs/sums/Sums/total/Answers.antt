use Rattle.std.proofs.Common.{sym, ap, ◌∙◌, arith}
use Rattle.rules.specs.Substitution.{total}
use Rattle.faces.proofs.Adding.{total_none, total_lowest}
use Rattle.faces.proofs.sums.Sums.total.Goals as goal

pub loop-rest-preserved : goal.loop-rest-preserved
loop-rest-preserved c =
    total_lowest 32 c.args.self.now.of c.loop-rest.rest c.loop-rest.sum (omega arith) (omega arith) (omega arith) ∙ c.loop-rest.invariant

pub returns : goal.returns
returns c =
    sym (total_none c.args.self.now.of c.loop-rest.sum) ∙ ap (λ m. total c.args.self.now.of m c.loop-rest.sum) (omega arith) ∙ c.loop-rest.invariant
