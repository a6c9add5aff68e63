-- A set is known by its members, and the parts of a set are the sets with no member outside of it. Assumes nothing.
use Rattle.std.proofs.Common.{◌≡◌, ℕ, zero, suc, ◌+◌, ◌*◌, ◌/◌, ◌%◌, ◌^◌, ◌<◌, ◌≤◌, Bool, true, false, ◌&&◌, ◌||◌, eqb, ltb, ◌⊎◌, sym, refl, ap, ◌∙◌, ap₂, inl, inr, le_trans, le_of_eq, lt_of_le_of_lt, mod-eq_of_lt, pow-suc, arith, lit<}
use native.Mathlib.Nat.{mod-one}
use lib.Arith.{bin_ind}
use lib.Bits.{bit_and, bit_or, and_shr, and_mod, and_self, and_comm, and_le_r}
use lib.Count.{ones, ones_step}
use Rattle.std.proofs.lemmas.Bool.{cond_both, eqb-true, eq-eqb, and_parts, or_cases, or_left, or_right, true≢false, cases_lt, cases_eq}
use Rattle.sets.specs.Members.{has, added}
use Rattle.sets.specs.Requests.{Part, part}
use Rattle.sets.proofs.Adding.{has_put, has_put_other, added_put}
use Rattle.sets.proofs.Digits.{bit_of_and, bit_of_or, bit_small, low_more}

-- an and, an or and an equation of two bits, as tests
and_bits : (x y : ℕ) → x < 2 → y < 2 → eqb (bit_and x y) 1 ≡ (eqb x 1 && eqb y 1)
and_bits zero y small smaller = refl
and_bits (suc zero) zero small smaller = refl
and_bits (suc zero) (suc zero) small smaller = refl
and_bits (suc zero) (suc (suc y)) small smaller = absurd (omega arith)
and_bits (suc (suc x)) y small smaller = absurd (omega arith)

or_bits : (x y : ℕ) → x < 2 → y < 2 → eqb (bit_or x y) 1 ≡ (eqb x 1 || eqb y 1)
or_bits zero y small smaller = refl
or_bits (suc zero) zero small smaller = refl
or_bits (suc zero) (suc zero) small smaller = refl
or_bits (suc zero) (suc (suc y)) small smaller = absurd (omega arith)
or_bits (suc (suc x)) y small smaller = absurd (omega arith)

same_bits : (x y : ℕ) → x < 2 → y < 2 → eqb x 1 ≡ eqb y 1 → x ≡ y
same_bits zero zero small smaller e = refl
same_bits zero (suc zero) small smaller e = absurd (true≢false (sym e))
same_bits (suc zero) zero small smaller e = absurd (true≢false e)
same_bits (suc zero) (suc zero) small smaller e = refl
same_bits zero (suc (suc y)) small smaller e = absurd (omega arith)
same_bits (suc zero) (suc (suc y)) small smaller e = absurd (omega arith)
same_bits (suc (suc x)) y small smaller e = absurd (omega arith)

-- the members of an and are those of both, the members of an or those of either
pub has_and : (a b i : ℕ) → has (bit_and a b) i ≡ (has a i && has b i)
has_and a b i = ap (λ q. eqb q 1) (bit_of_and a b i) ∙ and_bits (a / 2 ^ i % 2) (b / 2 ^ i % 2) (bit_small a i) (bit_small b i)

pub has_or : (a b i : ℕ) → has (bit_or a b) i ≡ (has a i || has b i)
has_or a b i = ap (λ q. eqb q 1) (bit_of_or a b i) ∙ or_bits (a / 2 ^ i % 2) (b / 2 ^ i % 2) (bit_small a i) (bit_small b i)

-- sets with the same members have the same low bits, however many, and so are the same
same_low : (a b k : ℕ) → ((i : ℕ) → has a i ≡ has b i) → a % 2 ^ k ≡ b % 2 ^ k
same_low a b zero same = mod-one a ∙ sym (mod-one b)
same_low a b (suc k) same =
    low_more a k
    ∙ ap₂ (λ x y. x * 2 ^ k + y) (same_bits (a / 2 ^ k % 2) (b / 2 ^ k % 2) (bit_small a k) (bit_small b k) (same k)) (same_low a b k same)
    ∙ sym (low_more b k)

-- a number has fewer bits than its value
self_below : (n : ℕ) → n < 2 ^ n
self_below zero = lit< tt
self_below (suc n) = omega (arith, self_below n, pow-suc 2 n)

pub same_members : (a b : ℕ) → ((i : ℕ) → has a i ≡ has b i) → a ≡ b
same_members a b same =
    let k : ℕ = a + b in
    let first : a < 2 ^ k = omega (arith, self_below k) in
    let second : b < 2 ^ k = omega (arith, self_below k) in
    sym (mod-eq_of_lt first) ∙ same_low a b k same ∙ mod-eq_of_lt second

-- a part has no member outside of the set, both ways
pub part_has : (t s i : ℕ) → Part t s → has t i ≡ true → has s i ≡ true
part_has t s i p h = (and_parts (has t i) (has s i) (sym (has_and t s i) ∙ ap (λ n. has n i) p ∙ h)).1

and_less : (x y : Bool) → (x ≡ true → y ≡ true) → (x && y) ≡ x
and_less true y f = f refl
and_less false y f = refl

pub has_part : (t s : ℕ) → ((i : ℕ) → has t i ≡ true → has s i ≡ true) → Part t s
has_part t s f = same_members (bit_and t s) t (λ i. has_and t s i ∙ and_less (has t i) (has s i) (f i))

-- parts are ordered
pub part_refl : (s : ℕ) → Part s s
part_refl s = and_self s

pub part_trans : (a b c : ℕ) → Part a b → Part b c → Part a c
part_trans a b c p q = has_part a c (λ i h. part_has b c i q (part_has a b i p h))

pub part_antisym : (a b : ℕ) → Part a b → Part b a → a ≡ b
part_antisym a b p q = sym p ∙ and_comm a b ∙ q

-- an or is the least set of which both are parts
pub part_or_l : (a b : ℕ) → Part a (bit_or a b)
part_or_l a b = has_part a (bit_or a b) (λ i h. has_or a b i ∙ or_left (has a i) (has b i) h)

pub part_or_r : (a b : ℕ) → Part b (bit_or a b)
part_or_r a b = has_part b (bit_or a b) (λ i h. has_or a b i ∙ or_right (has a i) (has b i) h)

pub part_or : (a b c : ℕ) → Part a c → Part b c → Part (bit_or a b) c
part_or a b c p q =
    has_part (bit_or a b) c (λ i h.
    elim (or_cases (has a i) (has b i) (sym (has_or a b i) ∙ h)) [ inl there ↦ part_has a c i p there | inr there ↦ part_has b c i q there ])

-- a part is no greater as a number
pub part_le : (t s : ℕ) → Part t s → t ≤ s
part_le t s p = le_trans (le_of_eq (sym p)) (and_le_r t s)

pub part_below : (width t s : ℕ) → Part t s → s < 2 ^ width → t < 2 ^ width
part_below width t s p small = lt_of_le_of_lt (part_le t s p) small

-- a set with one more is the least set with both
pub part_added : (n i : ℕ) → Part n (added n i)
part_added n i = cond_both (ltb i 32) (bit_or n (2 ^ i)) n (λ m. Part n m) (λ below. part_or_l n (2 ^ i)) (λ above. part_refl n)

put_part : (n i s : ℕ) → Part n s → has s i ≡ true → Part (bit_or n (2 ^ i)) s
put_part n i s p there =
    has_part (bit_or n (2 ^ i)) s (λ j h.
    elim (cases_eq j i) [
      | inl e ↦ ap (λ k. has s k) e ∙ there
      | inr other ↦ part_has n s j p (sym (has_put_other n i j other) ∙ h)
    ])

pub added_part : (n i s : ℕ) → Part n s → has s i ≡ true → Part (added n i) s
added_part n i s p there =
    cond_both (ltb i 32) (bit_or n (2 ^ i)) n (λ m. Part m s) (λ below. put_part n i s p there) (λ above. p)

pub has_added : (n i : ℕ) → i < 32 → has (added n i) i ≡ true
has_added n i below = ap (λ m. has m i) (added_put n i below) ∙ has_put n i

-- the test tells
pub part_true : (t s : ℕ) → part t s ≡ true → Part t s
part_true t s e = eqb-true (bit_and t s) t e

pub true_part : (t s : ℕ) → Part t s → part t s ≡ true
true_part t s p = eq-eqb (bit_and t s) t p

-- a part is the whole or has fewer members: by the lowest bit and the rest
part_halves : (t s : ℕ) → Part t s → Part (t / 2) (s / 2)
part_halves t s p = sym (and_shr t s 1) ∙ ap (λ n. n / 2) p

part_lowest : (t s : ℕ) → Part t s → t % 2 ≤ s % 2
part_lowest t s p = part_le (t % 2) (s % 2) (sym (and_mod t s 1) ∙ ap (λ n. n % 2) p)

fewer : (s t : ℕ) → Part t s → (t ≡ s) ⊎ (ones t < ones s)
fewer =
    bin_ind (λ s. (t : ℕ) → Part t s → (t ≡ s) ⊎ (ones t < ones s))
    (λ t p. inl (omega (arith, part_le t 0 p)))
    (λ s rest t p.
    let low : t % 2 ≤ s % 2 = part_lowest t s p in
    let count_t : ones t ≡ t % 2 + ones (t / 2) = ones_step t in
    let count_s : ones s ≡ s % 2 + ones (s / 2) = ones_step s in
    elim (rest (t / 2) (part_halves t s p)) [
      | inr less ↦ inr (omega arith)
      | inl e ↦ elim (cases_lt (t % 2) (s % 2)) [ inl less ↦ inr (omega (arith, ap ones e)) | inr same ↦ inl (omega arith) ]
    ])

pub part_ones : (t s : ℕ) → Part t s → (t ≡ s → ⊥) → ones t < ones s
part_ones t s p other = elim (fewer s t p) [ inl e ↦ absurd (other e) | inr less ↦ less ]
