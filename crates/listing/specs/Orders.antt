-- An order of sets, and the foremost of some sets in it. Assumes nothing.
use Rattle.std.specs.Prelude.{◌≡◌, ◌≢◌, ℕ, zero, suc, ◌^◌, Bool, true, false, not, cond, ◌⊎◌, List, [], ◌∷◌, Option, Some, None, nat_lt}
use Rattle.std.specs.List.{filter}
use Rattle.sets.specs.Requests.{Within, keep}
use Rattle.listing.specs.Lines.{explored, IsUnexplored}
use Rattle.listing.specs.Words.{IsProperPart}
use Rattle.listing.specs.declared.lines.Line.{Line}

-- an order says of two sets whether the first goes before the second: never both ways, and onward over a third; within the width it is total, and a
-- set goes before each of its proper parts
pub record IsOrder (width : ℕ) (before : ℕ → ℕ → Bool) : Type 0 where
  pub one_way : (s t : ℕ) → before s t ≡ true → before t s ≡ false
  pub onward : (s t u : ℕ) → before s t ≡ true → before t u ≡ true → before s u ≡ true
  pub total : (s t : ℕ) → Within width s → Within width t → (s ≢ t) → (before s t ≡ true) ⊎ (before t s ≡ true)
  pub whole_first : (t s : ℕ) → Within width s → IsProperPart t s → before s t ≡ true

-- in the order of relaxations the set of greater keep weight goes before
abbrev pub keeps_more : (width s t : ℕ) → Bool
keeps_more width s t = nat_lt (keep width t) (keep width s)

-- the foremost of the sets of which something holds is one of them, and goes before each other
abbrev pub IsForemost : (before : ℕ → ℕ → Bool) (P : ℕ → Type 0) (s : ℕ) → Type 0
IsForemost before P s = P s × ((t : ℕ) → P t → (t ≢ s) → before s t ≡ true)

-- no unexplored set goes before t
abbrev pub NothingBefore : (before : ℕ → ℕ → Bool) (width : ℕ) → List Line → (t : ℕ) → Type 0
NothingBefore before width lines t = (s : ℕ) → IsUnexplored width lines s → before s t ≡ false

-- all sets below a number
unfoldable pub sets_below : ℕ → List ℕ
sets_below zero = []
sets_below (suc n) = n ∷ sets_below n

-- a set, or the one that was foremost so far, whichever goes before
abbrev pub ahead : (before : ℕ → ℕ → Bool) → ℕ → Option ℕ → Option ℕ
ahead before s None = Some s
ahead before s (Some t) = Some (cond (before s t) s t)

-- the foremost of a list
abbrev pub first_of : (before : ℕ → ℕ → Bool) → List ℕ → Option ℕ
first_of before [] = None
first_of before (s ∷ ss) = ahead before s (first_of before ss)

-- the foremost of the unexplored sets, if there is one
unfoldable pub foremost : (before : ℕ → ℕ → Bool) (width : ℕ) → List Line → Option ℕ
foremost before width lines = first_of before (filter (λ s. not (explored lines s)) (sets_below (2 ^ width)))
