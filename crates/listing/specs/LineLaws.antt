-- What holds of lines that are true, over a verdict of which every part of a fit set is fit, and any order. Assumes nothing.
use Rattle.std.specs.Prelude.{◌≡◌, ℕ, Bool, true, List, ◌∷◌, ◌++◌, ◌↔◌}
use Rattle.std.specs.List.{Contains}
use Rattle.oracle.specs.Meaning.{Downward}
use Rattle.sets.specs.Requests.{Part}
use Rattle.listing.specs.Lines.{conflict, relaxation, IsUnexplored, NothingLeft, AreTrue, IsWhole}
use Rattle.listing.specs.Orders.{IsOrder, IsForemost}
use Rattle.listing.specs.Words.{IsMaximal}
use Rattle.listing.specs.declared.lines.Line.{Line}
use Rattle.listing.specs.Listings.{RelaxationsFall, UnlistedFollow}

-- the foremost unexplored set, if it is fit, is a maximal relaxation
abbrev pub SeedIsMaximal : Type 0
SeedIsMaximal =
    (before : ℕ → ℕ → Bool) (width : ℕ) (fit : ℕ → Bool) (lines : List Line) (s : ℕ) → IsOrder width before → Downward width fit → AreTrue width fit lines
    → IsForemost before (IsUnexplored width lines) s → fit s ≡ true → IsMaximal width fit s

-- an unexplored set is no listed relaxation, and no part of it is a listed conflict
abbrev pub ResultIsNew : Type 0
ResultIsNew =
    (width : ℕ) (lines : List Line) (s : ℕ) → IsUnexplored width lines s
    → (Contains lines (relaxation s) → ⊥) × ((t : ℕ) → Part t s → Contains lines (conflict t) → ⊥)

-- nothing is left exactly where all minimal conflicts and all maximal relaxations are listed
abbrev pub NothingLeftIsWhole : Type 0
NothingLeftIsWhole =
    (width : ℕ) (fit : ℕ → Bool) (lines : List Line) → Downward width fit → AreTrue width fit lines → NothingLeft width lines ↔ IsWhole width fit lines

-- each listed relaxation was the foremost unexplored set when it was listed
abbrev pub WereForemost : (before : ℕ → ℕ → Bool) (width : ℕ) → List Line → Type 0
WereForemost before width lines =
    (earlier later : List Line) (r : ℕ) → lines ≡ earlier ++ (relaxation r ∷ later) → IsForemost before (IsUnexplored width earlier) r

-- where each listed relaxation was the foremost unexplored set when it was listed, both hold
abbrev pub ForemostFall : Type 0
ForemostFall =
    (before : ℕ → ℕ → Bool) (width : ℕ) (fit : ℕ → Bool) (lines : List Line) → Downward width fit → AreTrue width fit lines
    → WereForemost before width lines → RelaxationsFall before lines × UnlistedFollow before width fit lines

-- all of these
abbrev pub LineLaws : Type 0
LineLaws = SeedIsMaximal × ResultIsNew × NothingLeftIsWhole × ForemostFall
