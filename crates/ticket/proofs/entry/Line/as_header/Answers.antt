use Rattle.std.proofs.Common.{◌≡◌, None, sym, ap, ◌∙◌, arith, below_more}
use Rattle.fields.specs.Cuts.{after}
use Rattle.ticket.specs.Entries.{key}
use Rattle.fields.specs.declared.layout.Heading.{Heading}
use Rattle.fields.specs.declared.layout.Heading.TheVariants.{Ticket, Requests, Checks, Rules}
use Rattle.ticket.proofs.entry.Line.as_header.Goals as goal

pub loop-heading-preserved : goal.loop-heading-preserved
loop-heading-preserved c = below_more _ _ c.loop-heading.invariant (ap (λ k. after k c.args.self.text.now) (sym c.key.ensures) ∙ sym c.in_default.ensures)

pub returns : goal.returns
returns c = every
  where
    every : (h : Heading) → after (key h) c.args.self.text.now ≡ None
    every Ticket = c.loop-heading.invariant 0 (omega arith)
    every Requests = c.loop-heading.invariant 1 (omega arith)
    every Checks = c.loop-heading.invariant 2 (omega arith)
    every Rules = c.loop-heading.invariant 3 (omega arith)
