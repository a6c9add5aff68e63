-- A `Progress` as a state of the steps, and what the steps say of it. Assumes nothing.
use Rattle.std.specs.Prelude.{◌≡◌, Bool}
use Rattle.listing.specs.Searches.{lines_in}
use Rattle.listing.specs.Steps.{State, Move, Moved, move, answered}
use Rattle.explainer.specs.Opened.{state_from}
use Rattle.explainer.specs.Preferring.{Order}
use Rattle.explainer.specs.declared.progress.Progress.{Progress}

-- its lines, how many checks were answered, and an open halving or none
abbrev pub state_of : Progress → State
state_of p = state_from (lines_in p.search) p.checks p.halving

-- what NEXT does about it
abbrev pub move_of : Order → Progress → Move
move_of order p = move (order p.search.width) p.search.width (state_of p)

-- what the answer to the check that is due leads to
abbrev pub answered_by : Order → Progress → (fit : Bool) → Moved
answered_by order p fit = answered (order p.search.width) p.search.width (state_of p) fit

-- the same width and state
abbrev pub Same : Progress → Progress → Type 0
Same p q = (q.search.width ≡ p.search.width) × (state_of q ≡ state_of p)
