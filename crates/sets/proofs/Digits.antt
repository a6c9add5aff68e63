-- The bits of a number, one by one. Assumes nothing.
use Rattle.std.proofs.Common.{◌≡◌, ℕ, suc, ◌+◌, ◌*◌, ◌/◌, ◌%◌, ◌^◌, ◌<◌, ap, ◌∙◌, arith}
use lib.Bits.{bit_and, bit_or, and_shr, and_mod, or_shr, or_mod}
use lib.Pow.{mod-pow-add}
use Rattle.std.proofs.lemmas.Nat.{mod_below}

-- the bit worth 2 ^ i of an and, and of an or
pub bit_of_and : (n m i : ℕ) → bit_and n m / 2 ^ i % 2 ≡ bit_and (n / 2 ^ i % 2) (m / 2 ^ i % 2)
bit_of_and n m i = ap (λ q. q % 2) (and_shr n m i) ∙ and_mod (n / 2 ^ i) (m / 2 ^ i) 1

pub bit_of_or : (n m i : ℕ) → bit_or n m / 2 ^ i % 2 ≡ bit_or (n / 2 ^ i % 2) (m / 2 ^ i % 2)
bit_of_or n m i = ap (λ q. q % 2) (or_shr n m i) ∙ or_mod (n / 2 ^ i) (m / 2 ^ i) 1

-- a bit is 0 or 1
pub bit_small : (n i : ℕ) → n / 2 ^ i % 2 < 2
bit_small n i = mod_below (n / 2 ^ i) 2 (omega arith)

-- the low i + 1 bits, from the low i and the next
pub low_more : (n i : ℕ) → n % 2 ^ suc i ≡ n / 2 ^ i % 2 * 2 ^ i + n % 2 ^ i
low_more n i = ap (λ e. n % 2 ^ e) (omega arith) ∙ mod-pow-add n 1 i
