-- The steps of NEXT: in each state what it does, and what the answer to a check leads to. Assumes nothing.
use Rattle.std.specs.Prelude.{ℕ, suc, Bool, true, false, cond, List, [], ◌∷◌, ◌++◌, length, Option, Some, None, nat_le, nat_eq}
use Rattle.sets.specs.Members.{none}
use Rattle.listing.specs.Halving.{Halved, asks, ends, halving_of}
use Rattle.listing.specs.Lines.{most_lines, conflict, relaxation}
use Rattle.listing.specs.Orders.{foremost}
use Rattle.listing.specs.declared.lines.Line.{Line}

-- an open halving: its seed, and the answers so far
pub record Open : Type 0 where
  pub seed : ℕ
  pub answers : List Bool

-- what is held from one NEXT to the next: the lines listed, how many checks were answered, and an open halving or none
pub record State : Type 0 where
  pub lines : List Line
  pub checks : ℕ
  pub halving : Option Open

-- at first nothing
abbrev pub start : State
start = record { lines = []; checks = 0; halving = None }

-- what NEXT does in a state: it checks a set, lists a line, answers that all is listed, or that there is no room for more
pub data Move : Type 0 where
  check : (s : ℕ) → Move
  lists : (x : Line) → Move
  all : Move
  full : Move

-- an open halving is gone on with: its next check, or its result, which is listed as a conflict
abbrev pub halving_move : Halved → Move
halving_move (asks s) = check s
halving_move (ends result rest) = lists (conflict result)

-- without a seed all is listed; with one, and room, it is checked
abbrev pub seed_move : List Line → Option ℕ → Move
seed_move lines None = all
seed_move lines (Some seed) = cond (nat_le most_lines (length lines)) full (check seed)

-- the move after the empty set was answered
abbrev pub later_move : (before : ℕ → ℕ → Bool) (width : ℕ) → List Line → Option Open → Move
later_move before width lines (Some h) = halving_move (halving_of h.seed h.answers)
later_move before width lines None = seed_move lines (foremost before width lines)

-- first of all, while nothing was answered, the empty set is checked
abbrev pub move_if : Bool → (before : ℕ → ℕ → Bool) (width : ℕ) → State → Move
move_if true before width st = check none
move_if false before width st = later_move before width st.lines st.halving

-- nothing was answered while no check is counted
abbrev pub move : (before : ℕ → ℕ → Bool) (width : ℕ) → State → Move
move before width st = move_if (nat_eq st.checks 0) before width st

-- a line is listed behind the others, and no halving is open then
abbrev pub with_line : State → Line → State
with_line st x = record { lines = st.lines ++ x ∷ []; checks = st.checks; halving = None }

-- what an answered check leads to: a state, and the line that was listed, if any
pub record Moved : Type 0 where
  pub state : State
  pub line : Option Line

-- a state that lists nothing
abbrev pub no_line : State → Moved
no_line st = record { state = st; line = None }

-- and one that lists a line
abbrev pub a_line : State → Line → Moved
a_line st x = record { state = with_line st x; line = Some x }

-- the empty set, if it is unfit, is a conflict
abbrev pub answered_empty : State → (fit : Bool) → Moved
answered_empty st true = no_line st
answered_empty st false = a_line st (conflict none)

-- a seed that is fit is a relaxation; of one that is unfit a halving is opened
abbrev pub answered_seed : State → Option ℕ → (fit : Bool) → Moved
answered_seed st None fit = no_line st
answered_seed st (Some seed) true = a_line st (relaxation seed)
answered_seed st (Some seed) false = no_line (record st { halving = Some (record { seed = seed; answers = [] }) })

-- the answer of an open halving is kept with those before
abbrev pub answered_later : (before : ℕ → ℕ → Bool) (width : ℕ) → State → Option Open → (fit : Bool) → Moved
answered_later before width st (Some h) fit = no_line (record st { halving = Some (record h { answers = h.answers ++ fit ∷ [] }) })
answered_later before width st None fit = answered_seed st (foremost before width st.lines) fit

-- the answer for the empty set comes before all others
abbrev pub answered_if : Bool → (before : ℕ → ℕ → Bool) (width : ℕ) → State → (fit : Bool) → Moved
answered_if true before width st fit = answered_empty st fit
answered_if false before width st fit = answered_later before width st st.halving fit

-- an answered check is counted
abbrev pub answered : (before : ℕ → ℕ → Bool) (width : ℕ) → State → (fit : Bool) → Moved
answered before width st fit = answered_if (nat_eq st.checks 0) before width (record st { checks = suc st.checks }) fit
