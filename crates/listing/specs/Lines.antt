-- The lines of a listing, and what they leave unexplored. Assumes nothing.
use Rattle.std.specs.Prelude.{◌≡◌, ℕ, Bool, false, ◌||◌, List, [], ◌∷◌}
use Rattle.std.specs.List.{All, Contains}
use Rattle.sets.specs.Requests.{Within, part}
use Rattle.sets.specs.Sets.{bits_of, set_of}
use Rattle.listing.specs.Words.{IsConflict, IsMinimal, IsRelaxation, IsMaximal}
use Rattle.listing.specs.declared.lines.Line.{Line}
use Rattle.listing.specs.declared.lines.Line.TheVariants.{Conflict, Relaxation}

-- the most lines of a listing
abbrev pub most_lines : ℕ
most_lines = 512

-- the line of a conflict
abbrev pub conflict : ℕ → Line
conflict s = Conflict (set_of s)

-- and that of a relaxation
abbrev pub relaxation : ℕ → Line
relaxation s = Relaxation (set_of s)

-- whether a line explores a set: a conflict does each set that contains it, a relaxation each part of it
abbrev pub explores : Line → ℕ → Bool
explores (Conflict c) s = part (bits_of c) s
explores (Relaxation r) s = part s (bits_of r)

-- whether some line does
abbrev pub explored : List Line → ℕ → Bool
explored [] s = false
explored (x ∷ xs) s = explores x s || explored xs s

-- a set within the width is unexplored if it contains no listed conflict and is part of no listed relaxation
abbrev pub IsUnexplored : (width : ℕ) → List Line → ℕ → Type 0
IsUnexplored width lines s = Within width s × (explored lines s ≡ false)

-- no set is unexplored
abbrev pub NothingLeft : (width : ℕ) → List Line → Type 0
NothingLeft width lines = (s : ℕ) → IsUnexplored width lines s → ⊥

-- a true line names an unfit set as a conflict, or a fit one as a relaxation
abbrev pub IsTrueLine : (width : ℕ) (fit : ℕ → Bool) → Line → Type 0
IsTrueLine width fit (Conflict c) = IsConflict width fit (bits_of c)
IsTrueLine width fit (Relaxation r) = IsRelaxation width fit (bits_of r)

-- all lines are true
abbrev pub AreTrue : (width : ℕ) (fit : ℕ → Bool) → List Line → Type 0
AreTrue width fit lines = All (IsTrueLine width fit) lines

-- a line as it is to be: a minimal conflict, or a maximal relaxation
abbrev pub IsDue : (width : ℕ) (fit : ℕ → Bool) → Line → Type 0
IsDue width fit (Conflict c) = IsMinimal width fit (bits_of c)
IsDue width fit (Relaxation r) = IsMaximal width fit (bits_of r)

-- a listing is whole if it has every minimal conflict and every maximal relaxation
abbrev pub IsWhole : (width : ℕ) (fit : ℕ → Bool) → List Line → Type 0
IsWhole width fit lines = ((s : ℕ) → IsMinimal width fit s → Contains lines (conflict s)) × ((s : ℕ) → IsMaximal width fit s → Contains lines (relaxation s))
