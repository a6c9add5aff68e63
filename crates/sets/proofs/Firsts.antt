-- The first request of a set is one more than the place of its lowest bit. Assumes nothing.
use Rattle.std.proofs.Common.{◌≡◌, ◌≢◌, ℕ, ◌+◌, ◌-◌, ◌/◌, ◌%◌, ◌^◌, ◌<◌, ◌≤◌, w32, true, ltb, ap, ◌∙◌, inl, inr, arith}
use lib.Count.{count_trailing_zeros}
use Rattle.std.proofs.lemmas.Bool.{cases_lt, ltb-true, lt-ltb, eq-eqb, eqb-true, and_parts, and_from}
use Rattle.std.proofs.lemmas.Nat.Bits.{bit_at-trailing_zeros}
use Rattle.sets.specs.Members.{has}
use Rattle.sets.specs.Requests.{names}

-- no request comes before it
none_before : (s z q : ℕ) → ((i : ℕ) → i < z → s / 2 ^ i % 2 ≡ 0) → names s q ≡ true → z + 1 ≤ q
none_before s z q low there =
    let both = and_parts (ltb 0 q) (has s (q - 1)) there in
    let some : 0 < q = ltb-true 0 q both.0 in
    elim (cases_lt (q - 1) z) [
      | inl below ↦ absurd (omega (arith, low (q - 1) below, eqb-true (s / 2 ^ (q - 1) % 2) 1 both.1))
      | inr above ↦ omega arith
    ]

pub first_is : (s : ℕ) → s < 2 ^ 32 → (s ≢ 0)
    → (names s (count_trailing_zeros 32 s + 1) ≡ true) × ((q : ℕ) → names s q ≡ true → count_trailing_zeros 32 s + 1 ≤ q)
first_is s small some =
    let z : ℕ = count_trailing_zeros 32 s in
    let lowest = bit_at-trailing_zeros w32 s (omega arith) small in (
      and_from (ltb 0 (z + 1)) (has s (z + 1 - 1)) (lt-ltb 0 (z + 1) (omega arith)) (ap (has s) (omega arith) ∙ eq-eqb (s / 2 ^ z % 2) 1 lowest.1),
      λ q there. none_before s z q lowest.2 there,
    )
