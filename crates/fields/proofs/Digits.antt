-- Digits read from the left. Assumes nothing.
use Rattle.std.proofs.Common.{ℕ, ◌^◌, ◌<◌, ◌≤◌, lt_of_lt_of_le, lit<}
use native.Mathlib.Nat.{pow-le-pow_right}

-- a number of at most seven digits
pub at_most_seven : (n i : ℕ) → n < 10 ^ i → i ≤ 7 → n < 10000000
at_most_seven n i h l = lt_of_lt_of_le h (pow-le-pow_right (lit< tt) l)
