-- What TALLY answers. Assumes nothing.
use Rattle.std.specs.Prelude.{ℕ, List}
use Rattle.listing.specs.Bill.{conflicts, relaxations, sizes, bound}
use Rattle.listing.specs.declared.lines.Line.{Line}

-- how many conflicts are listed, how many relaxations, the sizes of the listed conflicts added up, how many checks were answered to NEXT, and the bound
abbrev pub tally_of : (width : ℕ) → List Line → (checks : ℕ) → ℕ × ℕ × ℕ × ℕ × ℕ
tally_of width lines checks = (conflicts lines, relaxations lines, sizes lines, checks, bound width lines)
