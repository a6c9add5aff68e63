-- NEXT until it answers no line, by the steps, with so many checks in all. Assumes nothing.
use Rattle.std.specs.Prelude.{ℕ, zero, suc, ◌-◌, Bool, List}
use Rattle.rules.specs.declared.Rule.{Rule}
use Rattle.listing.specs.Lines.{most_lines}
use Rattle.listing.specs.Orders.{keeps_more}
use Rattle.listing.specs.Steps.{State, start}
use Rattle.listing.specs.Turns.{Said, listed, all_listed, no_room, refused, Turn, turn}
use Rattle.report.specs.Piles.{own_label, rules_meaning}
use Rattle.report.specs.declared.texts.Ended.{Ended}
use Rattle.report.specs.declared.texts.Ended.TheVariants.{All, Full, Spent}

-- how a listing ended, and the state in which it did
pub record Finished : Type 0 where
  pub ended : Ended
  pub state : State

-- it ended so, in that state
abbrev pub ends : Ended → State → Finished
ends ended st = record { ended = ended; state = st }

-- after a NEXT: it goes on after a line, and ends after anything else; checks are refused with the label of the ticket
abbrev pub ended_by : Said → State → (State → Finished) → Finished
ended_by (listed x) st go_on = go_on st
ended_by all_listed st go_on = ends All st
ended_by no_room st go_on = ends Full st
ended_by (refused s) st go_on = ends (Spent own_label) st

-- the same of what a NEXT says and leaves
abbrev pub ended_after : Turn → (State → Finished) → Finished
ended_after t go_on = ended_by t.said t.left go_on

-- at most so many NEXTs, each with the checks that are left. 513 are enough (`until_end_ends` of the explainer), so the first clause is never reached; it ends with
-- Full, which claims less than All
unfoldable pub finish : (width : ℕ) (fit : ℕ → Bool) (checks : ℕ) (turns : ℕ) → State → Finished
finish width fit checks zero st = ends Full st
finish width fit checks (suc turns) st = ended_after (turn (keeps_more width) width fit (checks - st.checks) st) (finish width fit checks turns)

-- one NEXT for each line that there is room for, and one that answers none
abbrev pub most_turns : ℕ
most_turns = suc most_lines

-- the listing over a width and a verdict, with so many checks
abbrev pub finished : (width : ℕ) (fit : ℕ → Bool) (checks : ℕ) → Finished
finished width fit checks = finish width fit checks most_turns start

-- the listing of a ticket
abbrev pub listing_of : List Rule → (requests checks : ℕ) → Finished
listing_of rules requests checks = finished requests (rules_meaning requests rules).fit checks
