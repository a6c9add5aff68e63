-- What holds of a state whatever the checks answer. Assumes nothing.
use Rattle.std.specs.Prelude.{◌≡◌, ℕ, ◌+◌, ◌-◌, ◌*◌, ◌<◌, ◌≤◌, Bool, List, [], length, Option, Some, None, IfSome}
use Rattle.sets.specs.Members.{size}
use Rattle.sets.specs.Requests.{widest, Within}
use Rattle.listing.specs.Bill.{bound}
use Rattle.listing.specs.Halving.{ends, halving_of}
use Rattle.listing.specs.Lines.{most_lines}
use Rattle.listing.specs.Orders.{IsOrder}
use Rattle.listing.specs.Steps.{Open, State, start, check, lists, move, with_line, answered}
use Rattle.listing.specs.Turns.{after}
use Rattle.listing.specs.declared.lines.Line.{Line}

-- a halving that has ended has read all its answers
abbrev pub HasReadAll : Open → Type 0
HasReadAll h = (result : ℕ) (rest : List Bool) → halving_of h.seed h.answers ≡ ends result rest → rest ≡ []

-- an open halving is one of a set of m requests within the width, leaves room for its line, and has at most 2 × m - 2 answers, all of them read where it
-- has ended
pub record IsSoundHalving (width : ℕ) (lines : List Line) (h : Open) : Type 0 where
  pub within : Within width h.seed
  pub room : length lines < most_lines
  pub few : length h.answers ≤ 2 * size h.seed - 2
  pub read : HasReadAll h

-- the checks of the line that is not listed yet: one for the seed of an open halving, and one for each of its answers
abbrev pub checks_open : Option Open → ℕ
checks_open None = 0
checks_open (Some h) = 1 + length h.answers

-- a state is sound: at most 512 lines; nothing listed or open before the first check; an open halving is sound; and the checks keep to the bound, but for
-- those of the open halving
pub record IsSound (width : ℕ) (st : State) : Type 0 where
  pub few : length st.lines ≤ most_lines
  pub first : st.checks ≡ 0 → (st.lines ≡ []) × (st.halving ≡ None)
  pub halving : IfSome st.halving (IsSoundHalving width st.lines)
  pub bounded : st.checks ≤ bound width st.lines + checks_open st.halving

-- the first state is sound
abbrev pub SoundStart : Type 0
SoundStart = (width : ℕ) → IsSound width start

-- a sound state stays sound when it lists a line
abbrev pub SoundLists : Type 0
SoundLists =
    (before : ℕ → ℕ → Bool) (width : ℕ) (st : State) (x : Line) → width ≤ widest → IsOrder width before → IsSound width st → move before width st ≡ lists x
    → IsSound width (with_line st x)

-- and when a check is answered, whatever the answer
abbrev pub SoundAnswered : Type 0
SoundAnswered =
    (before : ℕ → ℕ → Bool) (width : ℕ) (st : State) (s : ℕ) (fit : Bool) → width ≤ widest → IsOrder width before → IsSound width st → move before width st ≡ check s
    → IsSound width (answered before width st fit).state

-- the set that is checked in a sound state lies within the width
abbrev pub SoundChecks : Type 0
SoundChecks =
    (before : ℕ → ℕ → Bool) (width : ℕ) (st : State) (s : ℕ) → width ≤ widest → IsOrder width before → IsSound width st → move before width st ≡ check s
    → Within width s

-- so every state that is come to is sound, over any verdict at all, wherever checks are refused
abbrev pub EveryStateSound : Type 0
EveryStateSound =
    (before : ℕ → ℕ → Bool) (width : ℕ) (fit : ℕ → Bool) (allowed : List ℕ) → width ≤ widest → IsOrder width before
    → IsSound width (after before width fit allowed start)

-- all of these
abbrev pub SoundLaws : Type 0
SoundLaws = SoundStart × SoundLists × SoundAnswered × SoundChecks × EveryStateSound
