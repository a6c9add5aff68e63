-- Two rings of gaps, one that is fit and one that is not. Assumes nothing.
use Rattle.std.specs.Prelude.{◌≡◌, true, false, List, [], ◌∷◌, pos, negsuc}
use Rattle.rules.specs.Made.{gap_rule}
use Rattle.rules.specs.declared.Rule.{Rule}
use Rattle.gaps.specs.Verdict.{fit}

-- the house: mark 1 lies 30 or more behind mark 0, and mark 2 lies 20 or more behind mark 1; request 1: mark 2 lies at most 50 behind mark 0;
-- request 2: at most 49
abbrev pub ring : List Rule
ring = gap_rule 0 0 1 (negsuc 29) ∷ gap_rule 0 1 2 (negsuc 19) ∷ gap_rule 1 2 0 (pos 50) ∷ gap_rule 2 2 0 (pos 49) ∷ []

-- with request 1 the widths of the ring add up to nought
abbrev pub RingOfNought : Type 0
RingOfNought = fit ring 1 ≡ true

-- with request 2 they add up to 1 less, and so they do with both
abbrev pub RingOfLess : Type 0
RingOfLess = (fit ring 2 ≡ false) × (fit ring 3 ≡ false)
