-- The members of a set, counted by its bits, and as the length of the list of them. Assumes nothing.
use Rattle.std.proofs.Common.{◌≡◌, ℕ, zero, suc, ◌+◌, ◌*◌, ◌/◌, ◌%◌, ◌^◌, ◌<◌, ◌∷◌, length, refl, sym, ap, ◌∙◌, pow-suc, div-one, arith, shr-shr}
use lib.Count.{ones, ones_step, ones-le}
use Rattle.std.proofs.lemmas.Bool.{cond_both, eqb-true, eqb-false}
use Rattle.sets.specs.Members.{has, members_from, members, size_in, size}
use Rattle.sets.proofs.Digits.{bit_small}

half_below : (k n : ℕ) → n < 2 ^ suc k → n / 2 < 2 ^ k
half_below k n small = let e : 2 ^ suc k ≡ 2 ^ k * 2 = pow-suc 2 k in omega (arith, e, small)

ones_size_in : (k n : ℕ) → n < 2 ^ k → ones n ≡ size_in k n
ones_size_in zero n small = omega (arith, ones-le 0 n small)
ones_size_in (suc k) n small = ones_step n ∙ ap (λ m. n % 2 + m) (ones_size_in k (n / 2) (half_below k n small))

pub ones_size : (n : ℕ) → n < 2 ^ 32 → ones n ≡ size n
unfolding size
ones_size n small = ones_size_in 32 n small

-- what is left of the bits from i on without the first
pub rest_half : (n i : ℕ) → n / 2 ^ i / 2 ≡ n / 2 ^ suc i
rest_half n i = shr-shr n i 1 ∙ ap (λ k. n / 2 ^ k) (omega arith)

pub size_members_from : (count i n : ℕ) → size_in count (n / 2 ^ i) ≡ length (members_from count i n)
size_members_from zero i n = refl
size_members_from (suc count) i n =
    let rest : size_in count (n / 2 ^ i / 2) ≡ length (members_from count (suc i) n) = ap (size_in count) (rest_half n i) ∙ size_members_from count (suc i) n in
    cond_both (has n i) (i ∷ members_from count (suc i) n) (members_from count (suc i) n)
    (λ xs. n / 2 ^ i % 2 + size_in count (n / 2 ^ i / 2) ≡ length xs)
    (λ there. omega (arith, rest, eqb-true (n / 2 ^ i % 2) 1 there))
    (λ away. omega (arith, rest, bit_small n i, eqb-false (n / 2 ^ i % 2) 1 away))

pub size_members : (n : ℕ) → size n ≡ length (members n)
unfolding size
size_members n = ap (size_in 32) (sym (div-one n)) ∙ size_members_from 32 0 n
