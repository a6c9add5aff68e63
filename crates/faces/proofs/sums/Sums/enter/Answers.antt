use Rattle.std.proofs.Common.{◌^◌, ◌<◌, ◌≤◌, arith}
use Rattle.faces.proofs.Adding.{lowest_found, lowest_below, put_in_found}
use Rattle.faces.proofs.sums.Sums.enter.Goals as goal

pub put_in_all-requires : goal.put_in_all-requires
put_in_all-requires c =
    let sum = c.total-sum.result in
    let some : 2 ≤ sum = omega arith in
    let small : sum < 2 ^ 64 = omega arith in
    omega (arith, lowest_found sum some small, lowest_below sum some small)

pub returns-clause-sums : goal.returns-clause-sums
returns-clause-sums c =
    let sum = c.total-sum.result in
    let some : 2 ≤ sum = omega arith in
    let small : sum < 2 ^ 64 = omega arith in
    let old = c.args.self.now.of in
    let put = c.put_in_all in
    rw c.in-Faces.is
    (rw (← c.total-sum.ensures) (put_in_found old put.new.self.of sum some small put.ensures))
