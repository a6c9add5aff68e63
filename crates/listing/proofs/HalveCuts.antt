-- The parts of a set in its two halves, as numbers: the upper one decides, and where it is the same, the lower one. Assumes nothing.
use Rattle.std.proofs.Common.{◌≡◌, ℕ, suc, ◌+◌, ◌*◌, ◌/◌, ◌%◌, ◌^◌, ◌<◌, ◌≤◌, inl, inr, sym, ap, ◌∙◌, ap₂, subst, add-zero, lt_of_le_of_lt, pow_pos, arith}
use Rattle.std.proofs.Math.Nat.{mul-le-mul_right, div-add-mod', mul-mod_left}
use Rattle.std.specs.Prelude.{bit_or, bit_and}
use lib.Bits.{or_shifted_r}
use Rattle.std.proofs.lemmas.Bool.{cases_lt}
use Rattle.std.proofs.lemmas.Nat.{mod_below, and_comm, and_shr, and_mod, and_block}
use Rattle.sets.specs.Members.{lower}
use Rattle.sets.specs.Requests.{Part}
use Rattle.sets.proofs.Parts.{part_le}
use Rattle.sets.proofs.Halves.{upper_cut}
use Rattle.listing.proofs.HalveSteps.{upper}

-- the low bits of a part, and the others
cut_low : (t p k : ℕ) → Part t p → Part (t % 2 ^ k) (p % 2 ^ k)
cut_low t p k e = sym (and_mod t p k) ∙ ap (λ n. n % 2 ^ k) e

shifted_and : (a b k : ℕ) → bit_and (a * 2 ^ k) (b * 2 ^ k) ≡ bit_and a b * 2 ^ k
shifted_and a b k =
    ap₂ bit_and (sym (add-zero (a * 2 ^ k))) (sym (add-zero (b * 2 ^ k))) ∙ and_block k a b 0 0 (pow_pos k) (pow_pos k) ∙ add-zero (bit_and a b * 2 ^ k)

cut_high : (t p k : ℕ) → Part t p → Part (t / 2 ^ k * 2 ^ k) (p / 2 ^ k * 2 ^ k)
cut_high t p k e = shifted_and (t / 2 ^ k) (p / 2 ^ k) k ∙ ap (λ n. n * 2 ^ k) (sym (and_shr t p k) ∙ ap (λ n. n / 2 ^ k) e)

cut_whole : (t k : ℕ) → bit_or (t % 2 ^ k) (t / 2 ^ k * 2 ^ k) ≡ t
cut_whole t k = or_shifted_r (t / 2 ^ k) k (t % 2 ^ k) (mod_below t (2 ^ k) (pow_pos k)) ∙ div-add-mod' t (2 ^ k)

-- a part of the high bits has no low ones
high_only : (r b k : ℕ) → Part r (b * 2 ^ k) → r / 2 ^ k * 2 ^ k ≡ r
high_only r b k e =
    let none_low : r % 2 ^ k ≡ 0 =
    sym (ap (λ n. n % 2 ^ k) e) ∙ and_mod r (b * 2 ^ k) k ∙ ap (bit_and (r % 2 ^ k)) (mul-mod_left b (2 ^ k)) ∙ and_comm (r % 2 ^ k) 0
    in omega (arith, div-add-mod' r (2 ^ k))

-- a part lies in both halves
pub halves_of_part : (p k t : ℕ) → lower p ≡ p % 2 ^ k → Part t p
    → Part (t % 2 ^ k) (lower p) × Part (t / 2 ^ k * 2 ^ k) (upper p) × (bit_or (t % 2 ^ k) (t / 2 ^ k * 2 ^ k) ≡ t)
halves_of_part p k t cut e = (subst (Part (t % 2 ^ k)) (sym cut) (cut_low t p k e), subst (Part (t / 2 ^ k * 2 ^ k)) (sym (upper_cut p k cut)) (cut_high t p k e), cut_whole t k)

-- numbers with a high and a low part, in order
in_order : (m a q b l : ℕ) → q < m → a * m ≤ b * m → (a * m ≡ b * m → q ≤ l) → a * m + q ≤ b * m + l
in_order m a q b l low high same =
    elim (cases_lt a b) [
      | inl less ↦ omega (arith, mul-le-mul_right {m = suc a} {n = b} m less)
      | inr more ↦ let lower : q ≤ l = same (omega (arith, mul-le-mul_right {m = b} {n = a} m more)) in omega arith
    ]

pub least_in_order : (p k q r t : ℕ) → lower p ≡ p % 2 ^ k → Part q (lower p) → Part r (upper p) → r ≤ t / 2 ^ k * 2 ^ k
    → (r ≡ t / 2 ^ k * 2 ^ k → q ≤ t % 2 ^ k) → bit_or q r ≤ t
least_in_order p k q r t cut below above high same =
    let m : ℕ = 2 ^ k in
    let whole : r / m * m ≡ r = high_only r (p / m) k (subst (Part r) (upper_cut p k cut) above) in
    let low : q < m = lt_of_le_of_lt (part_le q (p % m) (subst (Part q) cut below)) (mod_below p m (pow_pos k)) in
    let sum : bit_or q r ≡ r / m * m + q = ap (bit_or q) (sym whole) ∙ or_shifted_r (r / m) k q low in
    let order : r / m * m + q ≤ t / m * m + t % m = in_order m (r / m) q (t / m) (t % m) low (omega arith) (λ e. same (sym whole ∙ e)) in
    omega (arith, div-add-mod' t m)
