-- The bound on the checks of a listing, and what each conflict adds to it. Assumes nothing.
use Rattle.std.specs.Prelude.{◌≡◌, ℕ, suc, ◌+◌, ◌*◌, ◌^◌, ◌<◌, ◌≤◌, cond, List, [], ◌∷◌, nat_le}
use Rattle.sets.specs.Members.{size}
use Rattle.sets.specs.Requests.{widest}
use Rattle.sets.specs.Sets.{bits_of}
use Rattle.listing.specs.declared.lines.Line.{Line}
use Rattle.listing.specs.declared.lines.Line.TheVariants.{Conflict, Relaxation}

-- the depth: how many times in a row so many requests are halved until each part has one at most; 0 for 0 or 1, 1 for 2, 2 up to 4, 3 up to 8, 4 up to 16, 5 up to 32
abbrev pub depth : (width : ℕ) → ℕ
depth width = cond (nat_le width 1) 0 (cond (nat_le width 2) 1 (cond (nat_le width 4) 2 (cond (nat_le width 8) 3 (cond (nat_le width 16) 4 5))))

-- how many conflicts are listed
abbrev pub conflicts : List Line → ℕ
conflicts [] = 0
conflicts (Conflict c ∷ xs) = suc (conflicts xs)
conflicts (Relaxation r ∷ xs) = conflicts xs

-- how many relaxations
abbrev pub relaxations : List Line → ℕ
relaxations [] = 0
relaxations (Conflict c ∷ xs) = relaxations xs
relaxations (Relaxation r ∷ xs) = suc (relaxations xs)

-- the sizes of the listed conflicts, added up
abbrev pub sizes : List Line → ℕ
sizes [] = 0
sizes (Conflict c ∷ xs) = size (bits_of c) + sizes xs
sizes (Relaxation r ∷ xs) = sizes xs

-- the bound on the checks: one for the empty set, one for each line, and two at each depth for each request of a listed conflict
abbrev pub bound : (width : ℕ) → List Line → ℕ
bound width lines = 1 + relaxations lines + conflicts lines + 2 * depth width * sizes lines

-- how many checks a halving of a set that is halved so many times in a row may take, where it ends with so many requests
unfoldable pub bill : (depth requests : ℕ) → ℕ
bill depth requests = 2 * depth * requests

-- the bills of the listed conflicts, added up
abbrev pub bills : (depth : ℕ) → List Line → ℕ
bills depth [] = 0
bills depth (Conflict c ∷ xs) = bill depth (size (bits_of c)) + bills depth xs
bills depth (Relaxation r ∷ xs) = bills depth xs

-- the most answers from one line to the next: one for the empty set, one for a seed, and two less than twice its requests for a halving of it
abbrev pub most_answers : ℕ
most_answers = 2 * widest

-- the depth is enough
abbrev pub DepthIsEnough : Type 0
DepthIsEnough = (width : ℕ) → width ≤ widest → width ≤ 2 ^ depth width

-- where a halving ends with any request, its bill has room for two checks and the bills of its two parts, each halved once less
abbrev pub BillSplits : Type 0
BillSplits = (d j k : ℕ) → 0 < j + k → 2 + bill d j + bill d k ≤ bill (suc d) (j + k)

-- all bills together are twice the depth times all sizes
abbrev pub BillsAre : Type 0
BillsAre = (d : ℕ) (lines : List Line) → bills d lines ≡ 2 * d * sizes lines

-- all of these
abbrev pub BillLaws : Type 0
BillLaws = DepthIsEnough × BillSplits × BillsAre
