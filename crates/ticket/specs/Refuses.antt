-- An answer that refuses, by what it tells. Assumes nothing.
use Rattle.std.specs.Prelude.{◌≡◌, ℕ, ◌↔◌, List, Result, IsErrAnd}
use Rattle.ticket.specs.FirstRefusal.{IsRefused}
use Rattle.ticket.specs.Refusals.{told}
use Rattle.ticket.specs.declared.fault.TicketFault.{TicketFault}
use Rattle.ticket.specs.declared.reader.Header.{Header}

-- an answer refuses and tells this number, line and field
abbrev pub Refuses : Result Header TicketFault → (number line field : ℕ) → Type 0
Refuses r number line field = IsErrAnd r (λ e. told e ≡ (number, line, field))

-- it does so exactly when that refusal is true of the text
abbrev pub RefusesByFirst : (text : List ℕ) (room : ℕ) → Result Header TicketFault → Type 0
RefusesByFirst text room r =
    (number line field : ℕ)
    → Refuses r number line field ↔ IsRefused text room number line field
