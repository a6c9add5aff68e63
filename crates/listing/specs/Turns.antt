-- NEXT as a whole, and several of them, over a verdict, by the steps: from the width and the answers alone. Assumes nothing.
use Rattle.std.specs.Prelude.{ℕ, zero, suc, Bool, List, [], ◌∷◌, Option, Some, None}
use Rattle.listing.specs.Steps.{State, Move, check, lists, all, full, move, with_line, Moved, answered}
use Rattle.listing.specs.declared.lines.Line.{Line}

-- what a NEXT says: a line, that all is listed, that there is no room for more, or that a check of this set was refused
pub data Said : Type 0 where
  listed : (x : Line) → Said
  all_listed : Said
  no_room : Said
  refused : (s : ℕ) → Said

-- what it says, and the state that it leaves
pub record Turn : Type 0 where
  pub said : Said
  pub left : State

-- it says this and leaves that
abbrev pub says : Said → State → Turn
says said st = record { said = said; left = st }

-- what a NEXT does about its move: a check is answered or refused by what follows
abbrev pub turn_at : Move → State → (ℕ → Turn) → Turn
turn_at (check s) st asked = asked s
turn_at (lists x) st asked = says (listed x) (with_line st x)
turn_at all st asked = says all_listed st
turn_at full st asked = says no_room st

-- a NEXT ends with the line that an answer lists; otherwise it goes on
abbrev pub line_or : Option Line → State → (State → Turn) → Turn
line_or (Some x) st go_on = says (listed x) st
line_or None st go_on = go_on st

-- the same of what an answered check leads to
abbrev pub moved_or : Moved → (State → Turn) → Turn
moved_or moved go_on = line_or moved.line moved.state go_on

-- a NEXT over a verdict: so many checks are allowed, and a further one is refused
unfoldable pub turn : (before : ℕ → ℕ → Bool) (width : ℕ) (fit : ℕ → Bool) (allowed : ℕ) → State → Turn
turn before width fit zero st = turn_at (move before width st) st (λ s. says (refused s) st)
turn before width fit (suc allowed) st = turn_at (move before width st) st (λ s. moved_or (answered before width st (fit s)) (turn before width fit allowed))

-- the state after some NEXTs, each with so many checks allowed
abbrev pub after : (before : ℕ → ℕ → Bool) (width : ℕ) (fit : ℕ → Bool) (allowed : List ℕ) → State → State
after before width fit [] st = st
after before width fit (g ∷ gs) st = after before width fit gs (turn before width fit g st).left

-- the set that a move checks comes first, and then those of what follows
abbrev pub sets_at : Move → (ℕ → List ℕ) → List ℕ
sets_at (check s) rest = s ∷ rest s
sets_at (lists x) rest = []
sets_at all rest = []
sets_at full rest = []

-- an answer that lists a line was the last
abbrev pub sets_later : Option Line → State → (State → List ℕ) → List ℕ
sets_later (Some x) st go_on = []
sets_later None st go_on = go_on st

-- the same of what an answered check leads to
abbrev pub sets_after : Moved → (State → List ℕ) → List ℕ
sets_after moved go_on = sets_later moved.line moved.state go_on

-- the sets of which a NEXT had checks answered, in turn
unfoldable pub sets_checked : (before : ℕ → ℕ → Bool) (width : ℕ) (fit : ℕ → Bool) (allowed : ℕ) → State → List ℕ
sets_checked before width fit zero st = []
sets_checked before width fit (suc allowed) st = sets_at (move before width st) (λ s. sets_after (answered before width st (fit s)) (sets_checked before width fit allowed))
