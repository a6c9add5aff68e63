-- What the refusal of a ticket means, in words. Assumes nothing.
use Rattle.std.specs.Prelude.{ℕ, List, codes}
use Rattle.fields.specs.Words.{of_line, line_words}
use Rattle.ticket.specs.declared.fault.TicketFault.{TicketFault}
use Rattle.ticket.specs.declared.fault.TicketFault.TheVariants.{Long, Line, Tail}

-- the ticket as a whole is too long, a line has a fault, or bytes follow where no line is due
abbrev pub fault_words : TicketFault → List ℕ
fault_words Long = codes "the ticket has more than 16,384 bytes (LONG)"
fault_words (Line f) = line_words f
fault_words (Tail line) = of_line line (codes "the ticket has ended, and more bytes follow (TAIL)")
