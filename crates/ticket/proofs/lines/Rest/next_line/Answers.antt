use Rattle.std.proofs.Common.{◌≡◌, ◌∷◌, length, Some, sym, ap, ◌∙◌, arith, length-append}
use Rattle.std.specs.Option.{option_map}
use Rattle.fields.specs.Cuts.{cut}
use Rattle.fields.proofs.Splits.{cut_whole}
use Rattle.ticket.proofs.lines.Rest.next_line.Goals as goal

pub invariant_of-self : goal.invariant_of-self
invariant_of-self c =
    let text = c.in_ok-text.text.now in
    let rest = c.in_ok-text.rest.now in
    let parts : cut 10 c.args.self.now.text.now ≡ Some (text, rest) = sym c.cut.ensures ∙ ap (option_map (λ p. (p.0.now, p.1.now))) c.in_ok-text.ensures.ok_part in
    let whole = cut_whole 10 c.args.self.now.text.now (text, rest) parts in
    record { numbered = omega (arith, ap length whole, length-append text (10 ∷ rest), c.args.self.now.numbered) }
