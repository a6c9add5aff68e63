-- Which of several faults comes first. Assumes nothing.
use Rattle.std.specs.Prelude.{ℕ, ◌<◌}

-- of some faults, each with a number and a field, the first: there is none with a smaller number,
-- and none with its number at an earlier field
pub record IsFirst (Has : (number field : ℕ) → Type 0) (number field : ℕ) : Type 0 where
  pub has : Has number field
  pub least : (n f : ℕ) → n < number → Has n f → ⊥
  pub first : (f : ℕ) → f < field → Has number f → ⊥
