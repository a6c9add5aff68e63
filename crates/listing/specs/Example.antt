-- The worked listing: three requests, of which 1 excludes 2 and 3. Assumes nothing.
use Rattle.std.specs.Prelude.{◌≡◌, ℕ, Bool, not, ◌||◌, ◌&&◌, List, [], ◌∷◌}
use Rattle.sets.specs.Requests.{names}
use Rattle.listing.specs.Bill.{bound}
use Rattle.listing.specs.Lines.{conflict, relaxation}
use Rattle.listing.specs.Orders.{keeps_more}
use Rattle.listing.specs.Steps.{State, start}
use Rattle.listing.specs.Turns.{all_listed, refused, Turn, turn, after}

-- a set is fit unless it has request 1 with another
abbrev pub example_fit : ℕ → Bool
example_fit s = not (names s 1 && (names s 2 || names s 3))

-- the state after some NEXTs, each with so many checks allowed
abbrev pub example_after : List ℕ → State
example_after allowed = after (keeps_more 3) 3 example_fit allowed start

-- and a further NEXT
abbrev pub example_turn : (allowed : ℕ) → State → Turn
example_turn allowed st = turn (keeps_more 3) 3 example_fit allowed st

-- four NEXTs list 1,2 and 1,3 as conflicts and 1 and 2,3 as relaxations, with ten checks, which the bound puts at 21 at most, and a further one says that this is all
abbrev pub ExampleEnds : Type 0
ExampleEnds =
    let st = example_after (100 ∷ 100 ∷ 100 ∷ 100 ∷ []) in
    (st.lines ≡ conflict 3 ∷ conflict 5 ∷ relaxation 1 ∷ relaxation 6 ∷ []) × (st.checks ≡ 10) × (bound 3 st.lines ≡ 21) × ((example_turn 100 st).said ≡ all_listed)

-- with nine checks, and the first NEXT refused one after three, the last line is missing and the check of 2,3 is refused; with one more it is listed
abbrev pub ExampleIsCut : Type 0
ExampleIsCut =
    let st = example_after (3 ∷ 2 ∷ 3 ∷ 1 ∷ []) in
    (st.lines ≡ conflict 3 ∷ conflict 5 ∷ relaxation 1 ∷ []) × (st.checks ≡ 9) × (bound 3 st.lines ≡ 20) × ((example_turn 0 st).said ≡ refused 6)
    × ((example_turn 1 st).left.lines ≡ conflict 3 ∷ conflict 5 ∷ relaxation 1 ∷ relaxation 6 ∷ [])

-- both
abbrev pub ExampleIsListed : Type 0
ExampleIsListed = ExampleEnds × ExampleIsCut
