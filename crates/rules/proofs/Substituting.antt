-- What sums of free faces tell, and what putting one in makes of that. Assumes nothing.
use Rattle.std.proofs.Common.{◌≡◌, ℕ, zero, suc, ◌+◌, ◌*◌, ◌/◌, ◌%◌, ◌^◌, true, false, eqb, List, [], ◌∷◌, map, sym, refl, ap, ◌∙◌, ap₂, pow-suc, zero-mul, arith, shr-shr}
use Rattle.std.proofs.Math.Arith.{mod-mul}
use Rattle.std.specs.List.{range_with_len}
use lib.Bits.{bit_xor, xor_zero_r}
use Rattle.std.proofs.lemmas.Nat.{pow_pos}
use Rattle.std.proofs.lemmas.Nat.Bits.{bit_at-lt, bit_at-pow_other}
use Rattle.std.proofs.lemmas.Bool.{cond_both, eqb-true, eqb-false}
use Rattle.sets.specs.Members.{has}
use Rattle.rules.specs.Substitution.{free, total, put_in, constants}
use Rattle.rules.proofs.Parity.{parity, parity_small, parity_halves, none_parity, parity_xor, parity_turned, parity_place, parity_one, one_parity}

-- the faces that come out as 1 at y, which has 1 at place 0, and face p at place p + 1
abbrev pub told : List ℕ → (y : ℕ) → ℕ
told [] y = 0
told (x ∷ xs) y = told xs y * 2 + parity x y

bit_off : (x q : ℕ) → has x q ≡ false → x / 2 ^ q % 2 ≡ 0
bit_off x q away = omega (arith, eqb-false (x / 2 ^ q % 2) 1 away, bit_at-lt x q)

-- at the start y tells the faces that it has itself
told_places : (n p y : ℕ) → told (map (λ i. 2 ^ suc i) (range_with_len p n)) y ≡ y / 2 ^ suc p % 2 ^ n
told_places zero p y = omega arith
told_places (suc n) p y =
    let z : ℕ = y / 2 ^ suc p in
    let half : y / 2 ^ suc (p + 1) ≡ z / 2 = ap (λ k. y / 2 ^ k) (omega arith) ∙ sym (shr-shr y (suc p) 1) in
    ap₂ (λ c d. c * 2 + d) (told_places n (p + 1) y ∙ ap (λ k. k % 2 ^ n) half) (parity_place (suc p) y)
    ∙ sym (mod-mul z (pow_pos n) (omega arith))
    ∙ ap (λ k. z % k) (sym (pow-suc 2 n))

pub told_free : (n y : ℕ) → told (free n) y ≡ y / 2 % 2 ^ n
unfolding free
told_free n y = told_places n 0 y

-- where no free face is at the back
pub told_constants : (xs : List ℕ) → told xs 1 ≡ constants xs
told_constants [] = refl
told_constants (x ∷ xs) = ap₂ (λ c d. c * 2 + d) (told_constants xs) (parity_one x)

-- a total comes out as the faces that it adds
pub told_total : (xs : List ℕ) (m e y : ℕ) → parity (total xs m e) y ≡ (parity e y + parity m (told xs y)) % 2
told_total [] m e y = omega (arith, none_parity m, parity_small e y)
told_total (x ∷ xs) m e y =
    let halves = parity_halves m (told xs y) (parity x y) (parity_small x y) in
    cond_both (eqb (m % 2) 1) (bit_xor e x) e (λ v. parity (total xs (m / 2) v) y ≡ (parity e y + parity m (told (x ∷ xs) y)) % 2)
    (λ on. told_total xs (m / 2) (bit_xor e x) y ∙ omega (arith, eqb-true (m % 2) 1 on, parity_xor e x y, parity_small x y, halves))
    (λ off. told_total xs (m / 2) e y ∙ omega (arith, eqb-false (m % 2) 1 off, halves))

-- y with place q turned, if e does not come out as 0
abbrev pub turned : (q e y : ℕ) → ℕ
turned q e y = bit_xor y (parity e y * 2 ^ q)

put_in_parity : (q e x y : ℕ) → parity (put_in q e x) y ≡ parity x (turned q e y)
put_in_parity q e x y =
    cond_both (has x q) (bit_xor x e) x (λ v. parity v y ≡ parity x (turned q e y))
    (λ on. sym (parity_turned x y q (parity e y) (parity_small e y) ∙ rw (eqb-true (x / 2 ^ q % 2) 1 on) (omega (arith, parity_xor x e y))))
    (λ off. sym (parity_turned x y q (parity e y) (parity_small e y) ∙ rw (bit_off x q off) (omega (arith, parity_small x y))))

-- to put e in is to turn y
pub told_put_in : (q e : ℕ) (xs : List ℕ) (y : ℕ) → told (map (put_in q e) xs) y ≡ told xs (turned q e y)
told_put_in q e [] y = refl
told_put_in q e (x ∷ xs) y = ap₂ (λ c d. c * 2 + d) (told_put_in q e xs y) (put_in_parity q e x y)

-- where e has that place, it comes out as 0 then
pub turned_nought : (q e y : ℕ) → has e q ≡ true → parity e (turned q e y) ≡ 0
turned_nought q e y there = parity_turned e y q (parity e y) (parity_small e y) ∙ rw (eqb-true (e / 2 ^ q % 2) 1 there) (omega arith)

-- and place 0 stays
pub turned_odd : (q e y : ℕ) → y % 2 ≡ 1 → turned (suc q) e y % 2 ≡ 1
turned_odd q e y odd =
    let none : 1 / 2 ^ suc q % 2 ≡ 0 = bit_at-pow_other 0 (suc q) (λ same. omega arith) in
    sym (one_parity (turned (suc q) e y))
    ∙ parity_turned 1 y (suc q) (parity e y) (parity_small e y)
    ∙ ap (λ b. (parity 1 y + parity e y * b) % 2) none
    ∙ omega (arith, one_parity y)

pub turned_none : (q e y : ℕ) → parity e y ≡ 0 → turned q e y ≡ y
turned_none q e y none = ap (λ d. bit_xor y (d * 2 ^ q)) none ∙ ap (bit_xor y) (zero-mul (2 ^ q)) ∙ xor_zero_r y
