-- The first fault of a text, line by line. Assumes nothing.
use Rattle.std.specs.Prelude.{ℕ, ◌+◌, ◌<◌, ◌≤◌, List}
use Rattle.fields.specs.FirstOf.{IsFirst}
use Rattle.ticket.specs.Due.{rules_in}
use Rattle.ticket.specs.LineFaults.{HasFault, IsInOrder}

-- the line is one of the ticket's, all earlier lines are in order, and this is its first fault
pub record IsFirstFault (text : List ℕ) (room number line field : ℕ) : Type 0 where
  pub there : (1 ≤ line) × (line ≤ rules_in text + 5)
  pub earlier : (k : ℕ) → 1 ≤ k → k < line → IsInOrder text room k
  pub fault : IsFirst (HasFault text room line) number field
