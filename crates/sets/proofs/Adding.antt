-- What adding a number changes in a set. Assumes nothing.
use Rattle.std.proofs.Common.{◌≡◌, ℕ, zero, suc, ◌+◌, ◌-◌, ◌*◌, ◌/◌, ◌%◌, ◌^◌, ◌<◌, true, ltb, List, [], ◌∷◌, sym, refl, ap, ◌∙◌, inl, inr, arith, pow_pos, pow-add}
use native.Mathlib.Nat.{mul-mod_left, div_self, zero-div, div-eq_of_lt}
use lib.Bits.{bit_or, or_zero_r, or_lt}
use lib.Pow.{pow-lt, field}
use Rattle.std.proofs.lemmas.Nat.{pow_below}
use Rattle.std.proofs.lemmas.Bool.{cond-true, cond_both, ltb-true, lt-ltb, cases_lt}
use Rattle.sets.specs.Members.{has, added, added_all}
use Rattle.sets.proofs.Digits.{bit_of_or, bit_small}

-- the bit worth 2 ^ i of the number 2 ^ x
bit_same : (x : ℕ) → 2 ^ x / 2 ^ x % 2 ≡ 1
bit_same x = ap (λ q. q % 2) (div_self (pow_pos x))

bit_above : (x i : ℕ) → x < i → 2 ^ x / 2 ^ i % 2 ≡ 0
bit_above x i above = ap (λ q. q % 2) (div-eq_of_lt (pow-lt above))

bit_below : (x i : ℕ) → i < x → 2 ^ x / 2 ^ i % 2 ≡ 0
bit_below x i below =
    let split : 2 ^ x ≡ 2 ^ (x - (1 + i)) * 2 ^ (1 + i) = ap (λ e. 2 ^ e) (omega arith) ∙ pow-add 2 (x - (1 + i)) (1 + i) in
    let whole : 2 ^ x % 2 ^ (1 + i) ≡ 0 = ap (λ m. m % 2 ^ (1 + i)) split ∙ mul-mod_left (2 ^ (x - (1 + i))) (2 ^ (1 + i)) in
    sym (field (2 ^ x) 1 i) ∙ ap (λ m. m / 2 ^ i) whole ∙ zero-div (2 ^ i)

bit_other : (x i : ℕ) → (i ≡ x → ⊥) → 2 ^ x / 2 ^ i % 2 ≡ 0
bit_other x i other = elim (cases_lt x i) [ inl above ↦ bit_above x i above | inr below ↦ bit_below x i (omega arith) ]

-- a bit, with 1 put in
or_one : (b : ℕ) → b < 2 → bit_or b 1 ≡ 1
or_one zero small = refl
or_one (suc zero) small = refl
or_one (suc (suc b)) small = absurd (omega arith)

-- to put the bit worth 2 ^ x in makes x a member, and changes nothing else
pub has_put : (n x : ℕ) → has (bit_or n (2 ^ x)) x ≡ true
has_put n x = rw (bit_of_or n (2 ^ x) x, bit_same x, or_one (n / 2 ^ x % 2) (bit_small n x))

pub has_put_other : (n x i : ℕ) → (i ≡ x → ⊥) → has (bit_or n (2 ^ x)) i ≡ has n i
has_put_other n x i other = rw (bit_of_or n (2 ^ x) i, bit_other x i other, or_zero_r (n / 2 ^ i % 2))

-- to add a member below 32 is to put its bit in
pub added_put : (n x : ℕ) → x < 32 → added n x ≡ bit_or n (2 ^ x)
added_put n x small = cond-true (ltb x 32) (bit_or n (2 ^ x)) n (lt-ltb x 32 small)

-- a set below 2 ^ 32 stays so, whatever is added
pub added_all_small : (xs : List ℕ) (n : ℕ) → n < 2 ^ 32 → added_all n xs < 2 ^ 32
added_all_small [] n small = small
added_all_small (x ∷ xs) n small =
    added_all_small xs (added n x) (cond_both (ltb x 32) (bit_or n (2 ^ x)) n (λ m. m < 2 ^ 32) (λ below. or_lt 32 n (2 ^ x) small (pow_below x 32 (ltb-true x 32 below))) (λ above. small))

-- a set below 2 ^ i is below 2 ^ (i + 1), also with i added
pub wider : (i n : ℕ) → n < 2 ^ i → n < 2 ^ suc i
wider i n small = omega (arith, pow_below i (suc i) (omega arith))

pub added_below : (i n : ℕ) → i < 32 → n < 2 ^ i → added n i < 2 ^ suc i
added_below i n below small = rw (added_put n i below) (or_lt (suc i) n (2 ^ i) (wider i n small) (pow_below i (suc i) (omega arith)))
