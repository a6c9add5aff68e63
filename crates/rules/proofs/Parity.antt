-- Whether the places that two sets have in common are odd in number. Assumes nothing.
use Rattle.std.proofs.Common.{◌≡◌, ℕ, zero, suc, ◌+◌, ◌*◌, ◌/◌, ◌%◌, ◌^◌, ◌<◌, min, sym, refl, ap, ◌∙◌, ap₂, add-zero, zero-mul, one-mul, lt_of_le_of_lt, arith}
use native.Mathlib.Nat.{add-mod-mod, mod-eq_of_lt}
use lib.Arith.{bin_ind}
use lib.Bits.{bit_and, bit_xor, and_comm, and_le_l, and_mod, and_shr, and_step, and_zero_r, xor_shr}
use lib.Count.{ones, ones_step, ones_cat}
use Rattle.std.proofs.lemmas.Nat.{mod_below, pow_pos}
use Rattle.std.proofs.lemmas.Nat.Bits.{bit_at_lowest, bit_at_xor, bit_at-lt, and_pow}

-- 1 where the places in common are odd in number, else 0
abbrev pub parity : (e y : ℕ) → ℕ
parity e y = ones (bit_and e y) % 2

pub parity_small : (e y : ℕ) → parity e y < 2
parity_small e y = mod_below (ones (bit_and e y)) 2 (omega arith)

-- the lowest place, and the others
ones_and : (a b : ℕ) → ones (bit_and a b) ≡ min (a % 2) (b % 2) + ones (bit_and (a / 2) (b / 2))
ones_and a b = ones_step (bit_and a b) ∙ ap₂ (λ x n. x + ones n) (omega (arith, and_step a b)) (and_shr a b 1)

pub parity_halves : (m x b : ℕ) → b < 2 → parity m (x * 2 + b) ≡ (min (m % 2) b + parity (m / 2) x) % 2
parity_halves m x b low =
    let half : (x * 2 + b) / 2 ≡ x = omega arith in
    omega (arith, ones_and m (x * 2 + b), ap (λ n. ones (bit_and (m / 2) n)) half)

-- nothing is in common with the empty set
pub parity_none : (y : ℕ) → parity 0 y ≡ 0
unfolding ones
parity_none y = refl

pub none_parity : (m : ℕ) → parity m 0 ≡ 0
none_parity m = ap (λ n. ones n % 2) (and_comm m 0) ∙ parity_none m

-- the parities of two sets add up to that of their exclusive or
pub parity_xor : (a b y : ℕ) → parity (bit_xor a b) y ≡ (parity a y + parity b y) % 2
parity_xor a =
    bin_ind (λ n. (b y : ℕ) → parity (bit_xor n b) y ≡ (parity n y + parity b y) % 2)
    (λ b y. omega (arith, parity_none y, parity_small b y))
    (λ n ih b y.
    let low : bit_xor n b % 2 ≡ (n % 2 + b % 2) % 2 = sym (bit_at_lowest (bit_xor n b)) ∙ bit_at_xor n b 0 ∙ ap₂ (λ u v. (u + v) % 2) (bit_at_lowest n) (bit_at_lowest b) in
    let high : ones (bit_and (bit_xor n b / 2) (y / 2)) ≡ ones (bit_and (bit_xor (n / 2) (b / 2)) (y / 2)) = ap (λ m. ones (bit_and m (y / 2))) (xor_shr n b 1) in
    omega (arith, low, high, ih (b / 2) (y / 2), ones_and (bit_xor n b) y, ones_and n y, ones_and b y))
    a

-- what a set has in common with a single place, or with none
ones_digit : (x : ℕ) → x < 2 → ones x ≡ x
unfolding ones
ones_digit zero low = refl
ones_digit (suc zero) low = refl
ones_digit (suc (suc x)) low = absurd (omega arith)

ones_place : (q d e : ℕ) → d < 2 → ones (bit_and e (d * 2 ^ q)) ≡ d * (e / 2 ^ q % 2)
unfolding ones
ones_place q zero e low = ap (λ n. ones (bit_and e n)) (zero-mul (2 ^ q)) ∙ ap ones (and_zero_r e) ∙ sym (zero-mul (e / 2 ^ q % 2))
ones_place q (suc zero) e low =
    ap (λ n. ones (bit_and e n)) (one-mul (2 ^ q))
    ∙ ap ones (and_pow e q ∙ sym (add-zero (e / 2 ^ q % 2 * 2 ^ q)))
    ∙ omega (arith, ones_cat q (e / 2 ^ q % 2) 0 (pow_pos q), ones_digit (e / 2 ^ q % 2) (bit_at-lt e q))
ones_place q (suc (suc d)) e low = absurd (omega arith)

pub parity_place : (q y : ℕ) → parity (2 ^ q) y ≡ y / 2 ^ q % 2
parity_place q y =
    ap (λ n. ones n % 2) (and_comm (2 ^ q) y ∙ ap (bit_and y) (sym (one-mul (2 ^ q)))) ∙ omega (arith, ones_place q 1 y (omega arith))

-- place 0 alone
pub parity_one : (x : ℕ) → parity x 1 ≡ x % 2
parity_one x = omega (arith, ones_place 0 1 x (omega arith), bit_at_lowest x)

pub one_parity : (y : ℕ) → parity 1 y ≡ y % 2
one_parity y = ap (λ n. ones n % 2) (and_comm 1 y) ∙ parity_one y

-- a place turned, or left
pub parity_turned : (e y q d : ℕ) → d < 2 → parity e (bit_xor y (d * 2 ^ q)) ≡ (parity e y + d * (e / 2 ^ q % 2)) % 2
parity_turned e y q d low =
    ap (λ n. ones n % 2) (and_comm e (bit_xor y (d * 2 ^ q)))
    ∙ parity_xor y (d * 2 ^ q) e
    ∙ ap₂ (λ m n. (ones m % 2 + ones n % 2) % 2) (and_comm y e) (and_comm (d * 2 ^ q) e)
    ∙ ap (λ n. (parity e y + n % 2) % 2) (ones_place q d e low)
    ∙ add-mod-mod (parity e y) (d * (e / 2 ^ q % 2)) 2

-- places that a set has not count for nothing
pub parity_within : (m x n : ℕ) → m < 2 ^ n → parity m (x % 2 ^ n) ≡ parity m x
parity_within m x n narrow =
    let low : m % 2 ^ n ≡ m = mod-eq_of_lt narrow in
    ap (λ k. ones k % 2)
    (ap (λ k. bit_and k (x % 2 ^ n)) (sym low) ∙ sym (and_mod m x n) ∙ mod-eq_of_lt (lt_of_le_of_lt (and_le_l m x) narrow))
