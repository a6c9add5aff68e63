-- Sums added up a face at a time, and read off from the last face down. Assumes nothing.
use Rattle.std.proofs.Common.{◌≡◌, ℕ, zero, suc, ◌+◌, ◌-◌, ◌*◌, ◌/◌, ◌%◌, ◌^◌, ◌<◌, ◌≤◌, false, cond, eqb, ltb, List, [], ◌∷◌, map, length, get_or, drop, Some, sym, refl, ap, ◌∙◌, ap₂, inl, inr, pow-suc, drop-cons, arith}
use lib.Bits.{bit_and, bit_xor, and_step, and_self}
use lib.Count.{count_trailing_zeros, under}
use Rattle.std.proofs.lemmas.List.{drop_all}
use Rattle.std.proofs.lemmas.Nat.Bits.{bit_at_above}
use Rattle.std.proofs.lemmas.Bool.{cond-false, ne_eqb, le-ltb, eqb-true, cases_lt}
use Rattle.rules.specs.Substitution.{total, constants, lowest, put_in, made_zero}
use Rattle.rules.proofs.Trailing.{below_power, trailing_same, lowest_there}

pub total_none : (xs : List ℕ) (e : ℕ) → total xs 0 e ≡ e
total_none [] e = refl
total_none (x ∷ xs) e = total_none xs e

-- the lowest face of m, by the digit d at the bottom
total_low : (x : ℕ) (xs : List ℕ) (m e d t : ℕ) → 0 < m → m % 2 ≡ d
    → (0 < m / 2 → total xs (bit_and (m / 2) (m / 2 - 1)) (bit_xor e (get_or xs t 0)) ≡ total xs (m / 2) e)
    → total xs (bit_and (m / 2) ((m - 1) / 2)) (bit_xor e (get_or (x ∷ xs) (under d t) 0)) ≡ total xs (m / 2) (cond (eqb d 1) (bit_xor e x) e)
total_low x xs m e zero t some low rest =
    ap (λ k. total xs (bit_and (m / 2) k) (bit_xor e (get_or xs t 0))) (omega arith) ∙ rest (omega arith)
total_low x xs m e (suc zero) t some low rest =
    let same : (m - 1) / 2 ≡ m / 2 = omega arith in
    ap (λ k. total xs k (bit_xor e x)) (ap (bit_and (m / 2)) same ∙ and_self (m / 2))
total_low x xs m e (suc (suc d)) t some low rest = absurd (omega arith)

-- the lowest face of m added
pub total_lowest : (n : ℕ) (xs : List ℕ) (m e : ℕ) → length xs ≡ n → 0 < m → m < 2 ^ n
    → total xs (bit_and m (m - 1)) (bit_xor e (get_or xs (count_trailing_zeros n m) 0)) ≡ total xs m e
unfolding count_trailing_zeros
total_lowest zero xs m e long some small = absurd (omega arith)
total_lowest (suc n) [] m e long some small = absurd (omega arith)
total_lowest (suc n) (x ∷ xs) m e long some small =
    let t : ℕ = count_trailing_zeros n (m / 2) in
    let f : ℕ = bit_xor e (get_or (x ∷ xs) (under (m % 2) t) 0) in
    let rest : ℕ = bit_and m (m - 1) in
    let step : rest ≡ bit_and (m / 2) ((m - 1) / 2) * 2 = omega (arith, and_step m (m - 1)) in
    let half : rest / 2 ≡ bit_and (m / 2) ((m - 1) / 2) = omega arith in
    let away : eqb (rest % 2) 1 ≡ false = ne_eqb (rest % 2) 1 (λ one. omega arith) in
    ap₂ (total xs) half (cond-false (eqb (rest % 2) 1) (bit_xor f x) f away)
    ∙ total_low x xs m e (m % 2) t some refl (λ more. total_lowest n xs (m / 2) e (omega arith) more (omega (arith, pow-suc 2 n)))

pub constants_none : (xs : List ℕ) (n : ℕ) → length xs ≡ n → 0 ≡ constants (drop n xs)
constants_none xs n long = ap constants (sym (drop_all n xs (omega arith)))

-- one face more, from the last down
pub constants_more : (xs : List ℕ) (n p back : ℕ) → length xs ≡ n → 0 < p → p ≤ n → (back ≡ constants (drop p xs)) × (back < 2 ^ (n - p))
    → (back * 2 + get_or xs (p - 1) 0 % 2 ≡ constants (drop (p - 1) xs)) × (back * 2 + get_or xs (p - 1) 0 % 2 < 2 ^ (n - (p - 1)))
constants_more xs n p back long some inside so_far =
    let x : ℕ = get_or xs (p - 1) 0 in
    let next : suc (p - 1) ≡ p = omega arith in
    let same : drop (p - 1) xs ≡ x ∷ drop p xs = drop-cons xs (p - 1) 0 (omega arith) ∙ ap (λ k. x ∷ drop k xs) next in
    let power : 2 ^ (n - (p - 1)) ≡ 2 ^ (n - p) * 2 = ap (λ k. 2 ^ k) (omega arith) ∙ pow-suc 2 (n - p) in
    (ap (λ k. k * 2 + x % 2) so_far.0 ∙ ap constants (sym same), omega (arith, so_far.1, power))

-- the lowest face as code finds it
pub lowest_found : (e : ℕ) → 2 ≤ e → e < 2 ^ 64 → count_trailing_zeros 64 (e / 2) + 1 ≡ lowest e
lowest_found e some small = omega (arith, trailing_same 64 e (e / 2) (omega arith) (omega arith) (omega (arith, below_power e)))

pub lowest_below : (e : ℕ) → 2 ≤ e → e < 2 ^ 64 → lowest e < 64
lowest_below e some small =
    elim (cases_lt (lowest e) 64) [
      | inl low ↦ low
      | inr high ↦ absurd (omega (arith, bit_at_above e 64 (lowest e) small high, eqb-true (e / 2 ^ lowest e % 2) 1 (lowest_there e some)))
    ]

pub put_in_found : (sums after : List ℕ) (e : ℕ) → 2 ≤ e → e < 2 ^ 64 → after ≡ map (put_in (count_trailing_zeros 64 (e / 2) + 1) e) sums → Some after ≡ made_zero sums e
put_in_found sums after e some small same =
    ap Some (same ∙ ap (λ q. map (put_in q e) sums) (lowest_found e some small)) ∙ sym (cond-false (ltb e 2) _ _ (le-ltb e 2 some))
