use Rattle.std.proofs.Common.{◌≡◌, ℕ, ◌<◌, get_or, None}
use Rattle.fields.specs.Cuts.{after}
use Rattle.ticket.specs.Entries.{key}
use Rattle.fields.specs.declared.layout.Heading.TheVariants.{Ticket}
use Rattle.ticket.proofs.entry.Line.as_header.Given as goal

abbrev pub invariant-loop-heading : goal.invariant-loop-heading
invariant-loop-heading l = (k : ℕ) → k < l.heading-index → after (key (get_or l.heading-items k Ticket)) l.self.text.now ≡ None
