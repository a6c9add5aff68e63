use Rattle.std.proofs.Common.{ap, ◌∙◌, arith}
use Rattle.sets.specs.Members.{added_from}
use Rattle.sets.specs.Sets.{bits_of}
use Rattle.listing.proofs.SeedSteps.{step_apart, step_between, step_found, step_none, told_seed}
use Rattle.listing.proofs.seeds.decide.Goals as goal
use Rattle.listing.proofs.seeds.decide.Goals.{in-Some, in_default}

pub reach-requires-clause-apart : goal.reach-requires-clause-apart
reach-requires-clause-apart c =
    step_apart (c.args.width) c.args.lines.now c.loop-request.request c.loop-request.free.bits c.loop-request.kept.bits
    c.loop-request.best.bits c.loop-request.invariant.1 c.loop-request.invariant.0 (omega arith) (omega arith) c.with-one.result.bits c.minus-free.result.bits
    c.union-more.result.bits (c.with-one.ensures ∙ ap (λ n. added_from 1 n c.loop-request.request) c.empty.ensures) c.minus-free.ensures c.union-more.ensures

pub reach-requires-clause-between : goal.reach-requires-clause-between
reach-requires-clause-between c =
    step_between (c.args.width) c.args.lines.now c.loop-request.request c.loop-request.free.bits c.loop-request.kept.bits
    c.loop-request.best.bits c.loop-request.invariant.1 c.loop-request.invariant.0 (omega arith) (omega arith) c.with-one.result.bits c.minus-free.result.bits
    c.union-more.result.bits (c.with-one.ensures ∙ ap (λ n. added_from 1 n c.loop-request.request) c.empty.ensures) c.minus-free.ensures c.union-more.ensures

pub loop-request-preserved : goal.loop-request-preserved
loop-request-preserved c =
    elim c.match-reach.branch [
      | in-Some w ↦ (
        omega arith,
        step_found (c.args.width) c.args.lines.now c.loop-request.request c.loop-request.free.bits c.loop-request.kept.bits
            c.loop-request.best.bits c.loop-request.invariant.1 c.loop-request.invariant.0 (omega arith) (omega arith) c.with-one.result.bits c.minus-free.result.bits
            c.union-more.result.bits (c.with-one.ensures ∙ ap (λ n. added_from 1 n c.loop-request.request) c.empty.ensures) c.minus-free.ensures c.union-more.ensures
            c.match-reach.kept.bits w.in-Some.next.bits c.match-reach.best.bits (ap bits_of w.kept-is) (ap bits_of w.best-is) w.in-Some.ensures,
      )
      | in_default w ↦ (
        omega arith,
        step_none (c.args.width) c.args.lines.now c.loop-request.request c.loop-request.free.bits c.loop-request.kept.bits
            c.loop-request.best.bits c.loop-request.invariant.1 c.loop-request.invariant.0 (omega arith) (omega arith) c.with-one.result.bits c.minus-free.result.bits
            c.union-more.result.bits (c.with-one.ensures ∙ ap (λ n. added_from 1 n c.loop-request.request) c.empty.ensures) c.minus-free.ensures c.union-more.ensures
            c.match-reach.kept.bits c.match-reach.best.bits (ap bits_of w.kept-is) (ap bits_of w.best-is) w.in_default.ensures,
      )
    ]

pub loop-request-init : goal.loop-request-init
loop-request-init c = c.requires.decided

pub returns : goal.returns
returns c =
    told_seed c.args.width c.args.lines.now c.loop-request.request c.loop-request.free.bits c.loop-request.kept.bits c.loop-request.best
    c.loop-request.invariant.1 (omega arith)
