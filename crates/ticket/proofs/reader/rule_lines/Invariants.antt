use Rattle.std.proofs.Common.{◌≡◌, ◌+◌, ◌-◌, length, take}
use Rattle.ticket.specs.Lines.{rule_lines}
use Rattle.ticket.proofs.Filling.{behind}
use Rattle.ticket.proofs.reader.rule_lines.Given as goal

abbrev pub invariant-loop-place : goal.invariant-loop-place
invariant-loop-place l =
    (behind (take l.place-index l.rules) (rule_lines (length l.initial.rules - l.place-index) l.requests l.rest.line l.rest.text.now) ≡ rule_lines (length l.initial.rules) l.requests l.initial.rest.line l.initial.rest.text.now)
    × (l.rest.line ≡ l.initial.rest.line + l.place-index)
