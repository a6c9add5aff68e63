-- What lies past the top of a set. Assumes nothing.
use Rattle.std.proofs.Common.{◌≡◌, ℕ, ◌%◌, ◌^◌, ◌<◌, ◌≤◌, false, eqb, ap, lt_of_lt_of_le, pow_mono}
use native.Mathlib.Nat.{div-eq_of_lt}
use Rattle.sets.specs.Members.{has}

-- a set below 2 ^ k has no member from k on
pub has_past : (k n i : ℕ) → n < 2 ^ k → k ≤ i → has n i ≡ false
has_past k n i small far = ap (λ q. eqb (q % 2) 1) (div-eq_of_lt (lt_of_lt_of_le small (pow_mono far)))
