-- A `Set` as the number that it holds. Assumes nothing.
use Rattle.std.specs.Prelude.{ℕ}
use Rattle.sets.specs.declared.Members.{Members}

-- the number of a set
abbrev pub bits_of : Members 1 → ℕ
bits_of s = s.bits

-- and the set of a number
abbrev pub set_of : ℕ → Members 1
set_of n = record { bits = n }
