-- Texts cut at a byte. Assumes nothing.
use Rattle.std.specs.Prelude.{ℕ, cond, List, [], ◌∷◌, Some, None, Option, ◌==◌}
use Rattle.std.specs.List.{slice_split}

-- a cut with one more byte in front
abbrev pub longer : ℕ → Option (List ℕ × List ℕ) → Option (List ℕ × List ℕ)
longer b None = None
longer b (Some p) = Some (b ∷ p.0, p.1)

-- what stands before the first byte `mark`, and what after it; none without such a byte
abbrev pub cut : (mark : ℕ) → List ℕ → Option (List ℕ × List ℕ)
cut mark [] = None
cut mark (b ∷ bs) = cond (b == mark) (Some ([], bs)) (longer b (cut mark bs))

-- what follows the key, where the text begins with it
abbrev pub after : (key : List ℕ) → List ℕ → Option (List ℕ)
after [] bs = Some bs
after (k ∷ ks) [] = None
after (k ∷ ks) (b ∷ bs) = cond (k == b) (after ks bs) None

-- the fields of a value: its parts between the commas, one at least
abbrev pub fields : List ℕ → List (List ℕ)
fields value = slice_split (λ b. b == 44) value
