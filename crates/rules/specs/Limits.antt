-- The limits of a rule. Assumes nothing.
use Rattle.std.specs.Prelude.{ℕ}

-- the last option; options, faces and marks are counted from 0
abbrev pub last_option : ℕ
last_option = 31

-- the last face
abbrev pub last_face : ℕ
last_face = 31

-- the last mark
abbrev pub last_mark : ℕ
last_mark = 15

-- how far from nought the width of a gap may lie
abbrev pub widest_gap : ℕ
widest_gap = 10000

-- the most options or faces of one rule
abbrev pub most_members : ℕ
most_members = 8
