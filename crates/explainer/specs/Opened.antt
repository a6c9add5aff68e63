-- What is held of a listing between two calls, as a state of the steps. Assumes nothing.
use Rattle.std.specs.Prelude.{ℕ, ◌-◌, ◌*◌, List, Option, Some, None}
use Rattle.sets.specs.Requests.{widest}
use Rattle.sets.specs.Sets.{bits_of}
use Rattle.listing.specs.Steps.{Open, State}
use Rattle.listing.specs.declared.lines.Line.{Line}
use Rattle.explainer.specs.declared.progress.OpenHalving.{OpenHalving}

-- the most answers of a halving
abbrev pub most_halved : ℕ
most_halved = 2 * widest - 2

-- an open halving, if there is one
abbrev pub open_of : Option OpenHalving → Option Open
open_of None = None
open_of (Some h) = Some (record { seed = bits_of h.seed; answers = h.answers.items })

-- the state of these lines, so many checks, and this halving
abbrev pub state_from : List Line → (checks : ℕ) → Option OpenHalving → State
state_from lines checks halving = record { lines = lines; checks = checks; halving = open_of halving }
