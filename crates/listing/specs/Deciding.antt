-- What is decided of a seed, request by request. Assumes nothing.
use Rattle.std.specs.Prelude.{◌≡◌, ℕ, ◌<◌, ◌≤◌, ◌↔◌, ◌⊎◌, true, false, List, MatchOption, Option}
use Rattle.sets.specs.Requests.{names}
use Rattle.sets.specs.Sets.{bits_of}
use Rattle.listing.specs.Lines.{IsUnexplored, NothingLeft}
use Rattle.listing.specs.declared.lines.Line.{Line}
use Rattle.listing.specs.declared.seeds.Decided.{Decided}

-- s and t have the same requests below r
abbrev pub SameBelow : (r s t : ℕ) → Type 0
SameBelow r s t = (q : ℕ) → q < r → names s q ≡ names t q

-- the first request where they differ is in s
pub record LeadsAt (r s t : ℕ) : Type 0 where
  pub there : names s r ≡ true
  pub away : names t r ≡ false
  pub same : SameBelow r s t

-- the first request where s and t differ is below r, and in s
abbrev pub LeadsBelow : (r s t : ℕ) → Type 0
LeadsBelow r s t = (q : ℕ) × (q < r) × LeadsAt q s t

-- the requests below r are decided: those from r on are free; the set in best is unexplored and has of the decided ones those that are
-- kept; and every other unexplored set has the same of them, or is led by what is kept
pub record IsBest (width : ℕ) (lines : List Line) (r free kept best : ℕ) : Type 0 where
  pub left : (q : ℕ) → (names free q ≡ true) ↔ ((r ≤ q) × (q ≤ width))
  pub low : (q : ℕ) → names kept q ≡ true → q < r
  pub decided : SameBelow r kept best
  pub unexplored : IsUnexplored width lines best
  pub first : (t : ℕ) → IsUnexplored width lines t → SameBelow r kept t ⊎ LeadsBelow r kept t

-- and so it is of what the code holds of it
abbrev pub AreDecided : (width : ℕ) → List Line → Decided → Type 0
AreDecided width lines d = (0 < d.next) × IsBest width lines d.next (bits_of d.free) (bits_of d.kept) (bits_of d.best)

-- something is decided; or nothing is unexplored
abbrev pub IsLeft : (width : ℕ) → List Line → Option Decided → Type 0
IsLeft width lines found = MatchOption found (NothingLeft width lines) (AreDecided width lines)
