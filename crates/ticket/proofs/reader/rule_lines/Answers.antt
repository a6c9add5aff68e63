use Rattle.std.proofs.Common.{◌+◌, ◌-◌, ◌<◌, length, take, ap, ◌∙◌, arith}
use Rattle.std.proofs.lemmas.List.{take_more_set}
use Rattle.ticket.specs.Lines.{rule_lines}
use Rattle.ticket.proofs.Filling.{behind, lines_more}
use Rattle.ticket.proofs.reader.rule_lines.Goals as goal

pub loop-place-preserved : goal.loop-place-preserved
loop-place-preserved c =
    let i = c.loop-place.place-index in
    let n = length c.args.rules.now in
    let lt : i < length c.loop-place.rules = omega arith in
    let inside : i < n = omega arith in
    let read = c.in_ok-place.ensures in (
      ap (λ rs. behind rs (rule_lines (n - (i + 1)) c.args.requests c.rule.new.self.line c.rule.new.self.text.now)) (take_more_set c.loop-place.rules i c.in_ok-place.field-0 lt)
          ∙ lines_more n c.args.requests _ _ _ _ (take i c.loop-place.rules) _ i inside read.0 read.1
          ∙ c.loop-place.invariant.0,
      omega (arith, read.1, c.loop-place.invariant.1),
    )
