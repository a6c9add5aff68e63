-- What the lines of a report tell, and in which order. Assumes nothing.
use Rattle.std.specs.Prelude.{◌≡◌, ℕ, ◌<◌, List, length, ◌↔◌}
use Rattle.std.specs.List.{AllPairs, Contains}
use Rattle.sets.specs.Requests.{keep}
use Rattle.sets.specs.Sets.{bits_of}
use Rattle.rules.specs.declared.Rule.{Rule}
use Rattle.listing.specs.Lines.{most_lines, conflict, relaxation}
use Rattle.listing.specs.declared.lines.Line.{Line}
use Rattle.listing.specs.declared.lines.Line.TheVariants.{Conflict, Relaxation}
use Rattle.report.specs.Conflicts.{IsMinimalConflict, IsMaximalRelaxation}

-- a line tells of a minimal conflict or of a maximal relaxation
abbrev pub TellsOne : List Rule → (requests : ℕ) → Line → Type 0
TellsOne rules requests (Conflict c) = IsMinimalConflict rules requests (bits_of c)
TellsOne rules requests (Relaxation r) = IsMaximalRelaxation rules requests (bits_of r)

-- the lines tell of all such sets, and of nothing else
abbrev pub TellsAll : List Rule → (requests : ℕ) → List Line → Type 0
TellsAll rules requests lines =
    (s : ℕ) → (Contains lines (conflict s) ↔ IsMinimalConflict rules requests s)
    × (Contains lines (relaxation s) ↔ IsMaximalRelaxation rules requests s)

-- there are 512 lines, and they do not tell of all
abbrev pub IsFull : List Rule → (requests : ℕ) → List Line → Type 0
IsFull rules requests lines =
    (length lines ≡ most_lines) × (TellsAll rules requests lines → ⊥)

-- where two lines are relaxations, the first has more keep weight: the sum of 2 ^ (requests - r)
-- over the requests r of the set
abbrev pub KeepsMore : (requests : ℕ) → Line → Line → Type 0
KeepsMore requests (Conflict c) y = Unit {0}
KeepsMore requests (Relaxation r) (Conflict c) = Unit {0}
KeepsMore requests (Relaxation r) (Relaxation q) =
    keep requests (bits_of q) < keep requests (bits_of r)

-- the relaxations fall in keep weight, in the order of the lines
abbrev pub KeepFalls : (requests : ℕ) → List Line → Type 0
KeepFalls requests lines = AllPairs (KeepsMore requests) lines

-- a maximal relaxation that is not a line has less keep weight than each that is
abbrev pub MissingKeepLess : List Rule → (requests : ℕ) → List Line → Type 0
MissingKeepLess rules requests lines =
    (m r : ℕ) → IsMaximalRelaxation rules requests m → (Contains lines (relaxation m) → ⊥)
    → Contains lines (relaxation r) → keep requests m < keep requests r
