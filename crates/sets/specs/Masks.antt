-- A `Mask` as the number that it holds. Assumes nothing.
use Rattle.std.specs.Prelude.{ℕ}
use Rattle.sets.specs.declared.Members.{Members}

-- the number of a mask
abbrev pub number_of : Members 0 → ℕ
number_of m = m.bits

-- and the mask of a number
abbrev pub mask : ℕ → Members 0
mask n = record { bits = n }
