use Rattle.std.proofs.Common.{arith}
use Rattle.faces.proofs.Adding.{constants_none, constants_more}
use Rattle.faces.proofs.sums.Sums.constants.Goals as goal

pub loop-p-init : goal.loop-p-init
loop-p-init c = (constants_none c.args.self.now.of 32 (omega arith), omega arith)

pub loop-p-preserved : goal.loop-p-preserved
loop-p-preserved c = constants_more c.args.self.now.of 32 c.loop-p.p c.loop-p.back (omega arith) (omega arith) (omega arith) c.loop-p.invariant
