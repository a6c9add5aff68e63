use Rattle.std.proofs.Common.{suc, ◌^◌, arith}
use Rattle.std.proofs.lemmas.List.FromFn.{fill_by_all}
use Rattle.rules.specs.Substitution.{free}
use Rattle.faces.proofs.sums.Sums.new.Goals as goal

pub returns : goal.returns
unfolding free
returns c = fill_by_all (λ p. 2 ^ suc p) c.loop-p.sum-items 32 0 (omega arith) (λ k below. c.loop-p.invariant k (omega arith))
