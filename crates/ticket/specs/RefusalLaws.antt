-- One refusal or an acceptance is true of each text, and the reader gives it. Assumes nothing.
use Rattle.std.specs.Prelude.{◌≡◌, ◌↔◌, ℕ, List, Ok}
use Rattle.rules.specs.declared.Rule.{Rule}
use Rattle.ticket.specs.FirstRefusal.{IsRefused, IsAccepted}
use Rattle.ticket.specs.Reading.{reading, answer}
use Rattle.ticket.specs.Refuses.{RefusesByFirst}
use Rattle.ticket.specs.declared.reader.Header.{Header}

-- a refusal with number, line and field, or an acceptance with numbers and rules
pub data Outcome : Type 0 where
  refused : (number line field : ℕ) → Outcome
  accepted : Header → List Rule → Outcome

-- it is true of the text, for a list with so much room
abbrev pub IsTrueOf : (text : List ℕ) (room : ℕ) → Outcome → Type 0
IsTrueOf text room (refused number line field) = IsRefused text room number line field
IsTrueOf text room (accepted h rs) = IsAccepted text room h rs

-- a text is refused with number, line and field exactly when that refusal is true of it, and
-- accepted with numbers and rules exactly when that acceptance is
abbrev pub ReadByFirst : Type 0
ReadByFirst =
    (text : List ℕ) (room : ℕ) → RefusesByFirst text room (answer (reading text room))
    × ((h : Header) (rs : List Rule) → (reading text room ≡ Ok (h, rs)) ↔ IsAccepted text room h rs)

-- an outcome is true of each text, and no other is
abbrev pub OneOutcome : Type 0
OneOutcome =
    (text : List ℕ) (room : ℕ)
    → (o : Outcome) × IsTrueOf text room o
    × ((p : Outcome) → IsTrueOf text room p → p ≡ o)

-- both
abbrev pub RefusalLaws : Type 0
RefusalLaws = ReadByFirst × OneOutcome
