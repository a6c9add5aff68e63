-- Where a line stands in a text. Lines are counted from 1. Assumes nothing.
use Rattle.std.specs.Prelude.{ℕ, zero, suc, List, [], Some, None, Option}
use Rattle.std.specs.Option.{option_map}
use Rattle.fields.specs.Cuts.{cut}

-- what follows the mark at which a text is cut; nothing where it has none
abbrev pub rest_of : Option (List ℕ × List ℕ) → List ℕ
rest_of None = []
rest_of (Some p) = p.1

-- what follows so many lines; nothing where there are not so many
abbrev pub after_lines : (count : ℕ) → List ℕ → List ℕ
after_lines zero text = text
after_lines (suc count) text = rest_of (cut 10 (after_lines count text))

-- the line with this number, without the byte 10 that ends it; none where the text ends before that
abbrev pub line_at : (line : ℕ) → List ℕ → Option (List ℕ)
line_at zero text = None
line_at (suc before) text = option_map (λ p. p.0) (cut 10 (after_lines before text))
