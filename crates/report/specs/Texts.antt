-- The report as text. Assumes nothing.
use Rattle.std.specs.Prelude.{ℕ, suc, cond, List, [], ◌∷◌, ◌++◌, map, codes, decimal, ◌==◌}
use Rattle.std.specs.List.{flat_map}
use Rattle.sets.specs.Members.{none, members}
use Rattle.sets.specs.Sets.{bits_of}
use Rattle.listing.specs.declared.lines.Line.{Line}
use Rattle.listing.specs.declared.lines.Line.TheVariants.{Conflict, Relaxation}
use Rattle.report.specs.declared.texts.Ended.{Ended}
use Rattle.report.specs.declared.texts.Ended.TheVariants.{All, Full, Spent}

-- numbers with commas between them
abbrev pub with_commas : List ℕ → List ℕ
with_commas [] = []
with_commas (n ∷ []) = decimal n
with_commas (n ∷ m ∷ ms) = decimal n ++ (codes "," ++ with_commas (m ∷ ms))

-- the numbers of the requests of a set, rising; request r is the member r - 1
abbrev pub requests_of : ℕ → List ℕ
requests_of s = map suc (members s)

-- a set is its requests, or `-` where there is none
unfoldable pub set_text : ℕ → List ℕ
set_text s = cond (s == none) (codes "-") (with_commas (requests_of s))

-- a line
abbrev pub line_text : Line → List ℕ
line_text (Conflict c) = codes "conflict=" ++ (set_text (bits_of c) ++ codes "\n")
line_text (Relaxation r) = codes "relaxation=" ++ (set_text (bits_of r) ++ codes "\n")

-- all lines
abbrev pub lines_text : List Line → List ℕ
lines_text xs = flat_map line_text xs

-- how the listing ended
abbrev pub ended_text : Ended → List ℕ
ended_text All = codes "all"
ended_text Full = codes "full"
ended_text (Spent label) = codes "spent," ++ decimal label

-- the whole report
abbrev pub report_text : (requests : ℕ) → List Line → (checks bound : ℕ) → Ended → List ℕ
report_text requests lines checks bound ended =
    codes "requests=" ++ (decimal requests ++ (codes "\n" ++ (lines_text lines
    ++ (codes "checks=" ++ (decimal checks ++ (codes "\nbound=" ++ (decimal bound ++ (codes "\nended=" ++ (ended_text ended ++ codes "\n")))))))))
