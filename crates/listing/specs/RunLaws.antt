-- What holds of a listing after any NEXTs, over any order and any verdict of which every part of a fit set is fit, wherever checks are refused. Assumes nothing.
use Rattle.std.specs.Prelude.{◌≡◌, ℕ, ◌+◌, ◌≤◌, Bool, List, [], ◌∷◌, ◌++◌, length, replicate, ◌↔◌}
use Rattle.std.specs.List.{All}
use Rattle.oracle.specs.Meaning.{Downward}
use Rattle.sets.specs.Requests.{widest, Within}
use Rattle.listing.specs.Bill.{bound, most_answers}
use Rattle.listing.specs.Lines.{most_lines, IsWhole}
use Rattle.listing.specs.Orders.{IsOrder}
use Rattle.listing.specs.Steps.{State, start, check, move}
use Rattle.listing.specs.Turns.{Said, listed, all_listed, no_room, refused, turn, after, sets_checked}
use Rattle.listing.specs.declared.lines.Line.{Line}
use Rattle.listing.specs.Listings.{IsListing}

-- the lines that a NEXT leaves: one more, which it says, or those before
abbrev pub lines_after : List Line → Said → List Line
lines_after lines (listed x) = lines ++ x ∷ []
lines_after lines all_listed = lines
lines_after lines no_room = lines
lines_after lines (refused s) = lines

-- no check was refused
abbrev pub IsNotRefused : Said → Type 0
IsNotRefused (listed x) = Unit {0}
IsNotRefused all_listed = Unit {0}
IsNotRefused no_room = Unit {0}
IsNotRefused (refused s) = ⊥

-- it says that all is listed, or that there is no room
abbrev pub ListsNoMore : Said → Type 0
ListsNoMore (listed x) = ⊥
ListsNoMore all_listed = Unit {0}
ListsNoMore no_room = Unit {0}
ListsNoMore (refused s) = ⊥

-- what holds of a further NEXT, with any number of checks allowed: it grows the listing by what it says and nothing else, says that all is
-- listed exactly where the listing is whole, and that there is no room exactly where 512 lines are listed and it is not; unless a check of
-- it was refused, no more checks were answered than the bound; and what is refused lies within the width
pub record IsTurn (before : ℕ → ℕ → Bool) (width : ℕ) (fit : ℕ → Bool) (st : State) (said : Said) (left : State) : Type 0 where
  pub grows : left.lines ≡ lines_after st.lines said
  pub whole : (said ≡ all_listed) ↔ IsWhole width fit st.lines
  pub filled : (said ≡ no_room) ↔ ((length st.lines ≡ most_lines) × (IsWhole width fit st.lines → ⊥))
  pub bounded : IsNotRefused said → left.checks ≤ bound width left.lines
  pub within : (s : ℕ) → said ≡ refused s → Within width s

-- whatever was allowed before, the lines are a listing
abbrev pub EveryListing : Type 0
EveryListing =
    (before : ℕ → ℕ → Bool) (width : ℕ) (fit : ℕ → Bool) (allowed : List ℕ) → width ≤ widest → IsOrder width before → Downward width fit
    → IsListing before width fit (after before width fit allowed start).lines

-- and every further NEXT is as it is to be
abbrev pub EveryTurn : Type 0
EveryTurn =
    (before : ℕ → ℕ → Bool) (width : ℕ) (fit : ℕ → Bool) (allowed : List ℕ) (g : ℕ) → width ≤ widest → IsOrder width before → Downward width fit
    → let st = after before width fit allowed start in
    IsTurn before width fit st (turn before width fit g st).said (turn before width fit g st).left

-- the set whose check is due lies within the width
abbrev pub DueWithin : Type 0
DueWithin =
    (before : ℕ → ℕ → Bool) (width : ℕ) (fit : ℕ → Bool) (allowed : List ℕ) (s : ℕ) → width ≤ widest → IsOrder width before → Downward width fit
    → move before width (after before width fit allowed start) ≡ check s → Within width s

-- every set of which a check was answered to a NEXT lies within the width
abbrev pub CheckedWithin : Type 0
CheckedWithin =
    (before : ℕ → ℕ → Bool) (width : ℕ) (fit : ℕ → Bool) (allowed : List ℕ) (g : ℕ) → width ≤ widest → IsOrder width before → Downward width fit
    → All (Within width) (sets_checked before width fit g (after before width fit allowed start))

-- and the count of checks grows by as many as they are, from any state
abbrev pub CheckedCount : Type 0
CheckedCount =
    (before : ℕ → ℕ → Bool) (width : ℕ) (fit : ℕ → Bool) (g : ℕ) (st : State)
    → st.checks + length (sets_checked before width fit g st) ≡ (turn before width fit g st).left.checks

-- from one line to the next there are at most 64 answers, whatever is refused in between
abbrev pub FewAnswers : Type 0
FewAnswers =
    (before : ℕ → ℕ → Bool) (width : ℕ) (fit : ℕ → Bool) (allowed more : List ℕ) (g : ℕ) → width ≤ widest → IsOrder width before → Downward width fit
    → let st = after before width fit allowed start in
    let later = after before width fit more st in
    later.lines ≡ st.lines → (turn before width fit g later).left.checks ≤ st.checks + most_answers

-- so a NEXT of which 64 checks may be answered is never refused one
abbrev pub EnoughAnswers : Type 0
EnoughAnswers =
    (before : ℕ → ℕ → Bool) (width : ℕ) (fit : ℕ → Bool) (allowed : List ℕ) → width ≤ widest → IsOrder width before → Downward width fit
    → IsNotRefused (turn before width fit most_answers (after before width fit allowed start)).said

-- and the NEXT after 512 such says that all is listed, or that there is no room
abbrev pub EndsInTime : Type 0
EndsInTime =
    (before : ℕ → ℕ → Bool) (width : ℕ) (fit : ℕ → Bool) → width ≤ widest → IsOrder width before → Downward width fit
    → ListsNoMore (turn before width fit most_answers (after before width fit (replicate most_lines most_answers) start)).said

-- where a check was refused, all that were allowed were answered, and that very check is due next
abbrev pub RefusedCounts : Type 0
RefusedCounts =
    (before : ℕ → ℕ → Bool) (width : ℕ) (fit : ℕ → Bool) (g s : ℕ) (st : State) → (turn before width fit g st).said ≡ refused s
    → ((turn before width fit g st).left.checks ≡ st.checks + g) × (move before width (turn before width fit g st).left ≡ check s)

-- a NEXT that was refused a check, and the next one, come to the same as one NEXT that is allowed the checks of both
abbrev pub RefusedGoesOn : Type 0
RefusedGoesOn =
    (before : ℕ → ℕ → Bool) (width : ℕ) (fit : ℕ → Bool) (g h s : ℕ) (st : State)
    → (turn before width fit g st).said ≡ refused s → turn before width fit (g + h) st ≡ turn before width fit h (turn before width fit g st).left

-- and one that was refused none says the same and leaves the same with more checks allowed
abbrev pub MoreIsSame : Type 0
MoreIsSame =
    (before : ℕ → ℕ → Bool) (width : ℕ) (fit : ℕ → Bool) (g h : ℕ) (st : State)
    → IsNotRefused (turn before width fit g st).said → turn before width fit (g + h) st ≡ turn before width fit g st

-- so, wherever checks were refused, the state is one of the run without refusals: after some NEXTs, and part of one more
abbrev pub AsUnrefused : Type 0
AsUnrefused =
    (before : ℕ → ℕ → Bool) (width : ℕ) (fit : ℕ → Bool) (allowed : List ℕ) → width ≤ widest → IsOrder width before → Downward width fit
    → (n : ℕ) × (g : ℕ) × (after before width fit allowed start ≡ (turn before width fit g (after before width fit (replicate n most_answers) start)).left)

-- what a verdict says of sets outside the width changes nothing
abbrev pub WithinDecides : Type 0
WithinDecides =
    (before : ℕ → ℕ → Bool) (width : ℕ) (fit same : ℕ → Bool) (allowed : List ℕ) (g : ℕ) → width ≤ widest → IsOrder width before → Downward width fit
    → ((s : ℕ) → Within width s → same s ≡ fit s)
    → let st = after before width fit allowed start in
    (after before width same allowed start ≡ st) × (turn before width same g st ≡ turn before width fit g st)
    × (sets_checked before width same g st ≡ sets_checked before width fit g st)

-- all of these
abbrev pub RunLaws : Type 0
RunLaws = EveryListing × EveryTurn × DueWithin × CheckedWithin × CheckedCount × FewAnswers × EnoughAnswers × EndsInTime × RefusedCounts × RefusedGoesOn × MoreIsSame × AsUnrefused × WithinDecides
