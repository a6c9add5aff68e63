use Rattle.std.proofs.Common.{◌≡◌, ◌+◌, ◌<◌, ◌≤◌, length, get_or, Some, None, sym, ap, ◌∙◌, arith, rules, tests}
use Rattle.std.proofs.lemmas.List.{length_push}
use Rattle.rules.specs.declared.Kind.TheVariants.{Options, Gaps, Faces}
use Rattle.fields.specs.Cuts.{fields}
use Rattle.fields.specs.Layout.{most, column}
use Rattle.fields.specs.Numbers.{said}
use Rattle.fields.specs.declared.layout.Sort.{Sort}
use Rattle.fields.specs.declared.layout.Sort.TheVariants.{Header, Rule}
use Rattle.fields.proofs.Forming.{formed_fault, formed_more, formed_all}
use Rattle.fields.proofs.Turns.{Walk, walk, turn, no_turn}
use Rattle.fields.proofs.line.Form.formed.Given as given
use Rattle.fields.proofs.line.Form.formed.Goals as goal
use Rattle.fields.proofs.line.Form.formed.Goals.{After-next, In-Some}

at_most_ten : (s : Sort) → most s ≤ 10
at_most_ten (Header h) = omega arith
at_most_ten (Rule Options) = omega arith
at_most_ten (Rule Gaps) = omega arith
at_most_ten (Rule Faces) = omega arith

walked : (c : After-next) → Walk (given.iterator-loop-i).next_gives c.into_iter-i-iterator.result c.args.value.now
walked c =
    walk _ c.args.value.now c.split.result c.enumerate-i-items.result c.into_iter-i-iterator.result _ c.split.ensures.rest c.split.ensures.done c.split.ensures.closure c.enumerate-i-items.ensures.source c.enumerate-i-items.ensures.count
    c.into_iter-i-iterator.ensures.into_iter_gives (λ x r q k. search (rules, tests))

-- this turn's field
here : (c : In-Some) → Walk (given.iterator-loop-i).next_gives c.into_iter-i-iterator.result c.args.value.now
    → (length c.loop-i.yielded < length (fields c.args.value.now)) × (c.in-Some.i ≡ length c.loop-i.yielded) × (c.in-Some.text.now ≡ get_or (fields c.args.value.now) (length c.loop-i.yielded) c.in-Some.text.now)
here c w = turn c.args.value.now w c.loop-i.yielded _ c.loop-i.yielded_by _ _ (c.in-Some.i, c.in-Some.text) c.in-Some.is c.next.ensures.steps

pub returns-in_default : goal.returns-in_default
returns-in_default c =
    let h = here (goal.at.returns-in_default c).In-Some (walked (goal.at.returns-in_default c).After-next) in
    let i = length c.loop-i.yielded in
    let none : said (column c.args.self.sort 0 (i + 1)).style c.in-Some.text.now ≡ None = rw (sym h.1, sym c.column.ensures) (sym c.said.ensures ∙ c.in_default.is) in
    rw (c.fault.ensures, h.1) (sym c.loop-i.invariant.said ∙ formed_fault c.args.self.sort c.args.self.line (fields c.args.value.now) i c.loop-i.values.items c.in-Some.text.now h.0 h.2 none)

pub push-requires : goal.push-requires
push-requires c =
    let h = here (goal.at.push-requires c).In-Some (walked (goal.at.push-requires c).After-next) in
    (omega arith, omega (arith, h.0, c.loop-i.invariant.many, c.requires, at_most_ten c.args.self.sort))

pub loop-i-preserved : goal.loop-i-preserved
loop-i-preserved c =
    let h = here (goal.at.loop-i-preserved c).In-Some (walked (goal.at.loop-i-preserved c).After-next) in
    let i = length c.loop-i.yielded in
    let some : said (column c.args.self.sort 0 (i + 1)).style c.in-Some.text.now ≡ Some c.in-Some-said.said = rw (sym h.1, sym c.column.ensures) (sym c.said.ensures ∙ c.in-Some-said.is) in
    let one_more = length_push c.loop-i.yielded (c.in-Some.i, c.in-Some.text) in
    record {
      run = search rules;
      many = c.push.ensures.len ∙ ap (λ n. n + 1) c.loop-i.invariant.many ∙ sym one_more;
      said = rw (c.push.ensures.items, one_more) (sym (formed_more c.args.self.sort c.args.self.line (fields c.args.value.now) i c.loop-i.values.items c.in-Some.text.now h.0 h.2 c.in-Some-said.said some) ∙ c.loop-i.invariant.said);
    }

pub returns : goal.returns
returns c =
    let end = no_turn c.args.value.now (walked (goal.at.returns c).After-next) c.loop-i.yielded _ c.loop-i.yielded_by _ _ c.in-None.is c.next.ensures.steps in
    sym c.loop-i.invariant.said ∙ formed_all c.args.self.sort c.args.self.line (fields c.args.value.now) (length c.loop-i.yielded) c.loop-i.values.items end
