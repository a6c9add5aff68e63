-- The lowest place of a number. Assumes nothing.
use Rattle.std.proofs.Common.{◌≡◌, ℕ, zero, suc, ◌/◌, ◌%◌, ◌^◌, ◌<◌, ◌≤◌, true, refl, ap, ◌∙◌, pow-suc, arith}
use lib.Count.{count_trailing_zeros, under}
use Rattle.std.proofs.lemmas.Nat.{mod_below}
use Rattle.std.proofs.lemmas.Nat.Bits.{bit_at_lowest, bit_at-suc}
use Rattle.std.proofs.lemmas.Bool.{eq-eqb}
use Rattle.sets.specs.Members.{has}
use Rattle.rules.specs.Substitution.{lowest}

pub below_power : (n : ℕ) → n < 2 ^ n
below_power zero = omega arith
below_power (suc n) = omega (arith, pow-suc 2 n, below_power n)

-- at the count of zeros there is a place, by the digit d at the bottom
under_there : (n d t : ℕ) → n % 2 ≡ d → (n % 2 ≡ 0 → n / 2 / 2 ^ t % 2 ≡ 1) → n / 2 ^ under d t % 2 ≡ 1
under_there n zero t low rest = bit_at-suc n t ∙ rest low
under_there n (suc d) t low rest = bit_at_lowest n ∙ omega (arith, mod_below n 2 (omega arith))

trailing_there : (k n : ℕ) → 0 < n → n < 2 ^ k → n / 2 ^ count_trailing_zeros k n % 2 ≡ 1
unfolding count_trailing_zeros
trailing_there zero n some small = absurd (omega arith)
trailing_there (suc k) n some small =
    under_there n (n % 2) (count_trailing_zeros k (n / 2)) refl (λ even. trailing_there k (n / 2) (omega arith) (omega (arith, pow-suc 2 k)))

-- however many places are looked at, if they are enough
same_under : (d s t : ℕ) → (d ≡ 0 → s ≡ t) → under d s ≡ under d t
same_under zero s t same = ap suc (same refl)
same_under (suc d) s t same = refl

pub trailing_same : (j k n : ℕ) → 0 < n → n < 2 ^ j → n < 2 ^ k → count_trailing_zeros j n ≡ count_trailing_zeros k n
unfolding count_trailing_zeros
trailing_same zero k n some low high = absurd (omega arith)
trailing_same (suc j) zero n some low high = absurd (omega arith)
trailing_same (suc j) (suc k) n some low high =
    same_under (n % 2) (count_trailing_zeros j (n / 2)) (count_trailing_zeros k (n / 2))
    (λ even. trailing_same j k (n / 2) (omega arith) (omega (arith, pow-suc 2 j)) (omega (arith, pow-suc 2 k)))

pub lowest_there : (e : ℕ) → 2 ≤ e → has e (lowest e) ≡ true
lowest_there e some =
    eq-eqb (e / 2 ^ lowest e % 2) 1 (bit_at-suc e (count_trailing_zeros e (e / 2)) ∙ trailing_there e (e / 2) (omega arith) (omega (arith, below_power e)))
