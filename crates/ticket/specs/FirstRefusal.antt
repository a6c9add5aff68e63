-- Which refusal is true of a text, or that it is accepted: from the text alone, by no steps.
-- Assumes nothing.
use Rattle.std.specs.Prelude.{◌≡◌, ℕ, ◌+◌, ◌<◌, ◌≤◌, ◌⊎◌, List, ◌∷◌, ◌++◌, length}
use Rattle.rules.specs.declared.Rule.{Rule}
use Rattle.ticket.specs.FirstFault.{IsFirstFault}
use Rattle.ticket.specs.Reading.{longest}
use Rattle.ticket.specs.Text.{text_of}
use Rattle.ticket.specs.Tickets.{Ticket}
use Rattle.ticket.specs.declared.reader.Header.{Header}

-- acceptance: the text is that of this ticket, for whose rules there is room
abbrev pub IsAccepted : (text : List ℕ) (room : ℕ) → Header → List Rule → Type 0
IsAccepted text room h rs = Ticket h rs × (text ≡ text_of h rs) × (h.rules ≤ room)

-- TAIL: a ticket's text, for whose rules there is room, is followed by more bytes; this line is the
-- one after its last
abbrev pub HasTail : (text : List ℕ) (room line : ℕ) → Type 0
HasTail text room line =
    (h : Header) × (rs : List Rule) × (b : ℕ) × (more : List ℕ) × Ticket h rs × (h.rules ≤ room)
    × (text ≡ text_of h rs ++ (b ∷ more)) × (line ≡ h.rules + 6)

-- the refusal with this number, line and field: LONG, or of any other text the first fault of a
-- line (CUT to TABLE), or TAIL
abbrev pub IsRefused : (text : List ℕ) (room number line field : ℕ) → Type 0
IsRefused text room number line field =
    ((number ≡ 1) × (line ≡ 0) × (field ≡ 0) × (longest < length text))
    ⊎ ((length text ≤ longest) × IsFirstFault text room number line field)
    ⊎ ((length text ≤ longest) × (number ≡ 9) × (field ≡ 0) × HasTail text room line)
