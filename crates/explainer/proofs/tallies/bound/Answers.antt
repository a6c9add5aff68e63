use Rattle.std.proofs.Common.{◌*◌, ap₂, arith}
use Rattle.explainer.proofs.Counting.{kinds, bills_most}
use Rattle.explainer.proofs.tallies.bound.Goals as goal

pub overflow_add-result : goal.overflow_add-result
overflow_add-result c = omega (arith, kinds c.args.lines.now, c.requires, c.relaxations.ensures)

pub overflow_add-result-2 : goal.overflow_add-result-2
overflow_add-result-2 c = omega (arith, kinds c.args.lines.now, c.requires, c.relaxations.ensures, c.conflicts.ensures)

pub overflow_mul-result-2 : goal.overflow_mul-result-2
overflow_mul-result-2 c =
    let same = ap₂ (λ d n. 2 * d * n) c.depth.ensures c.sizes.ensures in
    omega (arith, same, bills_most c.args.width c.args.lines.now c.requires)

pub overflow_add-result-3 : goal.overflow_add-result-3
overflow_add-result-3 c =
    let same = ap₂ (λ d n. 2 * d * n) c.depth.ensures c.sizes.ensures in
    omega (arith, same, bills_most c.args.width c.args.lines.now c.requires, kinds c.args.lines.now, c.requires, c.relaxations.ensures, c.conflicts.ensures)

pub returns : goal.returns
returns c =
    let same = ap₂ (λ d n. 2 * d * n) c.depth.ensures c.sizes.ensures in
    omega (arith, same, c.relaxations.ensures, c.conflicts.ensures)
