-- What the refusal of a ticket tells: its number, the line, and the field, or 0 where none is named. Assumes nothing.
use Rattle.std.specs.Prelude.{ℕ, List, ◌++◌, codes, decimal}
use Rattle.fields.specs.Faults.{told_line}
use Rattle.ticket.specs.declared.fault.TicketFault.{TicketFault}
use Rattle.ticket.specs.declared.fault.TicketFault.TheVariants.{Long, Line, Tail}

-- LONG, a fault of a line, or TAIL
abbrev pub told : TicketFault → ℕ × ℕ × ℕ
told Long = (1, 0, 0)
told (Line f) = told_line f
told (Tail line) = (9, line, 0)

-- number, line and field as text, with commas
abbrev pub refusal_text : TicketFault → List ℕ
refusal_text f = decimal (told f).0 ++ (codes "," ++ (decimal (told f).1 ++ (codes "," ++ decimal (told f).2)))
