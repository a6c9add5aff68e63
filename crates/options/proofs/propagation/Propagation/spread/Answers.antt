use Rattle.std.proofs.Common.{◌≡◌, suc, ◌+◌, ◌-◌, sym, ap, ◌∙◌, arith}
use Rattle.std.proofs.lemmas.Bool.{eqb-true, eqb-false}
use Rattle.sets.specs.Masks.{number_of}
use Rattle.rules.specs.Propagation.{spread, most_sweeps}
use Rattle.options.specs.Propagating.{in_force_all}
use Rattle.options.proofs.Turns.{spread_last, spread_more}
use Rattle.options.proofs.propagation.Propagation.spread.Goals as goal

pub loop-init : goal.loop-init
loop-init c = ap (spread most_sweeps (in_force_all c.args.self.now)) c.empty-on.ensures

pub returns-then-eq : goal.returns-then-eq
returns-then-eq c =
    let bs = in_force_all c.args.self.now in
    let on = number_of c.loop.on in
    let turns = most_sweeps - (c.loop.counter + 1) in
    let left : suc turns ≡ most_sweeps - c.loop.counter = omega arith in
    sym (spread_last turns bs on (sym c.sweep-next.ensures ∙ eqb-true (number_of c.sweep-next.result) on (sym c.eq.ensures ∙ c.if-eq.true)))
    ∙ ap (λ n. spread n bs on) left
    ∙ c.loop.invariant

pub loop-preserved : goal.loop-preserved
loop-preserved c =
    let bs = in_force_all c.args.self.now in
    let on = number_of c.loop.on in
    let turns = most_sweeps - (c.loop.counter + 1) in
    let left : suc turns ≡ most_sweeps - c.loop.counter = omega arith in
    ap (spread turns bs) c.sweep-next.ensures
    ∙ sym (spread_more turns bs on (λ same. eqb-false (number_of c.sweep-next.result) on (sym c.eq.ensures ∙ c.if-eq.false) (c.sweep-next.ensures ∙ same)))
    ∙ ap (λ n. spread n bs on) left
    ∙ c.loop.invariant

pub returns : goal.returns
returns c =
    let bs = in_force_all c.args.self.now in
    let on = number_of c.loop.on in
    let over : 0 ≡ most_sweeps - c.loop.counter = omega arith in
    ap (λ n. spread n bs on) over ∙ c.loop.invariant
