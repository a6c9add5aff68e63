use Rattle.std.proofs.Common.{◌≡◌, ◌+◌, true, is_some, drop, get_or, sym, ap, ◌∙◌, rules}
use Rattle.sets.specs.Masks.{number_of}
use Rattle.sets.specs.Members.{added}
use Rattle.sets.specs.Sets.{bits_of}
use Rattle.rules.specs.Blank.{blank}
use Rattle.rules.specs.Force.{said}
use Rattle.rules.specs.Propagation.{sweep}
use Rattle.options.proofs.TurnedOn.{turned_without, turned_head}
use Rattle.options.proofs.Turns.{sweep_from}
use Rattle.options.proofs.propagation.Propagation.sweep.Goals as goal

pub loop-rule-preserved-in_default : goal.loop-rule-preserved-in_default
loop-rule-preserved-in_default c =
    let all = c.args.self.now.rules.now in
    let s = bits_of c.args.self.now.set in
    let i = c.loop-rule.rule-index in
    let on = number_of c.loop-rule.next in
    let head = sym c.head_turned_on.ensures ∙ c.in_default.is in
    let same = turned_without s (get_or all i blank) on head in
    ap (sweep (said s (drop (i + 1) all))) (sym same)
    ∙ sweep_from s all i c.loop-rule-test.true on
    ∙ c.loop-rule.invariant

pub loop-rule-preserved : goal.loop-rule-preserved
loop-rule-preserved c =
    let all = c.args.self.now.rules.now in
    let s = bits_of c.args.self.now.set in
    let i = c.loop-rule.rule-index in
    let on = number_of c.loop-rule.next in
    let says : is_some c.in_force.result ≡ true = search rules in
    let adds : number_of c.with-next.result ≡ added on c.in-Some.head = search rules in
    let head = sym c.head_turned_on.ensures ∙ c.in-Some.is in
    let force = rw c.in_force.ensures at says in
    let turns = turned_head s (get_or all i blank) on c.in-Some.head head force in
    ap (sweep (said s (drop (i + 1) all))) (adds ∙ sym turns)
    ∙ sweep_from s all i c.loop-rule-test.true on
    ∙ c.loop-rule.invariant
