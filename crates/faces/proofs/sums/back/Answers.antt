use Rattle.std.proofs.Common.{sym, ◌∙◌}
use Rattle.std.proofs.lemmas.List.{at_drop_all}
use Rattle.sets.specs.Sets.{bits_of}
use Rattle.rules.specs.Force.{said}
use Rattle.rules.proofs.FacesDecided.{leaves_start, leaves_some}
use Rattle.faces.proofs.Following.{passed_over, followed}
use Rattle.faces.proofs.sums.back.Goals as goal

pub loop-rule-init : goal.loop-rule-init
loop-rule-init c =
    rw c.new-sums.ensures (leaves_start 32 (said (bits_of c.args.set) c.args.rules.now))

pub loop-rule-preserved-then-not-is_of : goal.loop-rule-preserved-then-not-is_of
loop-rule-preserved-then-not-is_of c =
    passed_over (bits_of c.args.set) c.args.rules.now c.loop-rule.rule-index c.loop-rule-test.true
    c.loop-rule.sums.of c.loop-rule.invariant (sym c.is_of.ensures ∙ c.if-not-is_of.true)

pub returns-in_err-enter : goal.returns-in_err-enter
returns-in_err-enter c =
    let entered = c.enter.ensures in
    let says = sym c.in_force.ensures ∙ c.in-Some.is in
    let leaves =
    followed (bits_of c.args.set) c.args.rules.now c.loop-rule.rule-index c.loop-rule-test.true
    c.loop-rule.sums.of c.loop-rule.invariant c.in-Some.body _ says entered.narrow entered.sums in
    rw c.from_residual.ensures (rw c.in_err-enter.was at leaves)

pub loop-rule-preserved : goal.loop-rule-preserved
loop-rule-preserved c =
    let entered = c.enter.ensures in
    let says = sym c.in_force.ensures ∙ c.in-Some.is in
    let leaves =
    followed (bits_of c.args.set) c.args.rules.now c.loop-rule.rule-index c.loop-rule-test.true
    c.loop-rule.sums.of c.loop-rule.invariant c.in-Some.body _ says entered.narrow entered.sums in
    rw c.in_ok-enter.was at leaves

pub returns : goal.returns
returns c =
    let s = bits_of c.args.set in
    let rules = c.args.rules.now in
    let all = at_drop_all (said s) rules c.loop-rule.rule-index c.loop-rule-test.false in
    let whole = rw all at c.loop-rule.invariant in
    rw (c.new.ensures ∙ c.constants.ensures)
    (leaves_some 32 (said s rules) c.loop-rule.sums.of whole)
