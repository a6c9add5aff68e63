-- What a set without another has, and the lower half of a set: its members, its size, and the bits that it takes. Assumes nothing.
use Rattle.std.proofs.Common.{◌≡◌, ℕ, zero, suc, ◌+◌, ◌-◌, ◌*◌, ◌/◌, ◌%◌, ◌^◌, ◌<◌, ◌≤◌, Bool, true, false, not, cond, ◌&&◌, ◌||◌, eqb, min, max, List, ◌∷◌, ◌++◌, length, take, sym, refl, ap, ◌∙◌, ap₂, subst, inl, inr, lt_of_le_of_lt, mod-eq_of_lt, one-mul, div-one, pow_pos, arith, lit<}
use native.Mathlib.Nat.{mod-one, mod-le, div-add-mod'}
use lib.Arith.{bin_ind}
use lib.Bits.{bit_and, bit_or, and_step, or_step, and_shr, or_shr, and_zero_l, or_zero_l, and_comm, and_le_l, and_mask, or_lt}
use lib.Count.{ones, ones_step, ones_cat, ones-le}
use lib.Pow.{field, mod-mod-pow}
use Rattle.std.proofs.lemmas.Bool.{and_parts, cases_lt}
use Rattle.std.proofs.lemmas.List.{take_at}
use Rattle.std.proofs.lemmas.Nat.{mod_below, pow_below, zero_from_ones}
use Rattle.sets.specs.Members.{none, has, added_all, members_from, size_in, size, minus, lower}
use Rattle.sets.specs.Requests.{Part}
use Rattle.sets.proofs.Bounds.{has_past}
use Rattle.sets.proofs.Digits.{bit_small, low_more}
use Rattle.sets.proofs.Parts.{has_and, has_or, same_members, part_has, has_part, part_below, part_ones}
use Rattle.sets.proofs.Rising.{added_members_from}
use Rattle.sets.proofs.Sizes.{ones_size, rest_half, size_members_from}

-- the bits of one place more, counted
ones_none : ones 0 ≡ 0
ones_none = omega (arith, ones-le 0 0 (lit< tt))

ones_bit : (b : ℕ) → b < 2 → ones b ≡ b
ones_bit b small = let rest : b / 2 ≡ 0 = omega arith in omega (arith, ones_step b, ap ones rest, ones_none)

pub ones_low_more : (n k : ℕ) → ones (n % 2 ^ suc k) ≡ n / 2 ^ k % 2 + ones (n % 2 ^ k)
ones_low_more n k =
    ap ones (low_more n k)
    ∙ ones_cat k (n / 2 ^ k % 2) (n % 2 ^ k) (mod_below n (2 ^ k) (pow_pos k))
    ∙ ap (λ b. b + ones (n % 2 ^ k)) (ones_bit (n / 2 ^ k % 2) (bit_small n k))

-- the count lowest bits, counted
size_in_low : (count n : ℕ) → size_in count n ≡ ones (n % 2 ^ count)
size_in_low zero n = sym (ap ones (mod-one n) ∙ ones_none)
size_in_low (suc count) n =
    let lowest : n % 2 ^ suc count % 2 ≡ n % 2 = ap (λ e. n % 2 ^ e % 2) (omega arith) ∙ mod-mod-pow n count 1 in
    let rest : n % 2 ^ suc count / 2 ≡ n / 2 % 2 ^ count = ap (λ e. n % 2 ^ e / 2) (omega arith) ∙ field n count 1 in
    omega (arith, ones_step (n % 2 ^ suc count), ap ones rest, lowest, size_in_low count (n / 2))

-- the members among the first k numbers from i on, and those among the j numbers after them
put_split : (b : Bool) (i : ℕ) (xs ys zs : List ℕ) → xs ≡ ys ++ zs → cond b (i ∷ xs) xs ≡ cond b (i ∷ ys) ys ++ zs
put_split true i xs ys zs e = ap (λ l. i ∷ l) e
put_split false i xs ys zs e = e

pub members_split : (k j i n : ℕ) → members_from (k + j) i n ≡ members_from k i n ++ members_from j (i + k) n
members_split zero j i n = ap₂ (λ c f. members_from c f n) (omega arith) (omega arith)
members_split (suc k) j i n =
    let more : suc k + j ≡ suc (k + j) = omega arith in
    let rest : members_from (k + j) (suc i) n ≡ members_from k (suc i) n ++ members_from j (i + suc k) n =
    members_split k j (suc i) n ∙ ap (λ f. members_from k (suc i) n ++ members_from j f n) (omega arith)
    in ap (λ c. members_from c i n) more ∙ put_split (has n i) i (members_from (k + j) (suc i) n) (members_from k (suc i) n) (members_from j (i + suc k) n) rest

-- where the k lowest bits hold half of the members, they are the lower half
length_low : (k n : ℕ) → length (members_from k 0 n) ≡ ones (n % 2 ^ k)
length_low k n = sym (size_members_from k 0 n) ∙ ap (size_in k) (div-one n) ∙ size_in_low k n

lower_low : (count k n half : ℕ) → count ≡ 32 → k ≤ count → ones (n % 2 ^ k) ≡ half → added_all none (take half (members_from count 0 n)) ≡ n % 2 ^ k
lower_low count k n half whole few enough =
    let all : members_from count 0 n ≡ members_from k 0 n ++ members_from (count - k) (0 + k) n =
    ap (λ c. members_from c 0 n) (omega arith) ∙ members_split k (count - k) 0 n
    in ap (λ xs. added_all none (take half xs)) all
    ∙ ap (added_all none) (take_at (members_from k 0 n) (members_from (count - k) (0 + k) n) half (length_low k n ∙ enough))
    ∙ ap (λ m. added_all m (members_from k 0 n)) (sym (mod-one n))
    ∙ added_members_from k 0 k n (omega arith) (omega arith)

pub lower_at : (n k : ℕ) → n < 2 ^ 32 → k ≤ 32 → ones (n % 2 ^ k) ≡ ones n / 2 → lower n ≡ n % 2 ^ k
unfolding lower
lower_at n k small few half = lower_low 32 k n (size n / 2) refl few (half ∙ ap (λ m. m / 2) (ones_size n small))

-- the bits below a place, as a mask takes them
pub mask_low : (n k : ℕ) → k < 32 → bit_and n (1 * 2 ^ k % 2 ^ 32 - 1) ≡ n % 2 ^ k
mask_low n k low =
    let one : 1 * 2 ^ k % 2 ^ 32 ≡ 2 ^ k = ap (λ m. m % 2 ^ 32) (one-mul (2 ^ k)) ∙ mod-eq_of_lt (pow_below k 32 low) in
    ap (λ m. bit_and n (m - 1)) one ∙ and_mask n k

-- a set of which no more than half are among all places is empty, and its own lower half
pub lower_self : (n k : ℕ) → n < 2 ^ 32 → k ≡ 32 → ones (n % 2 ^ k) ≤ ones n / 2 → n ≡ lower n
lower_self n k small whole few =
    let same : n % 2 ^ 32 ≡ n = mod-eq_of_lt small in
    let count : ones (n % 2 ^ 32) ≡ ones n = ap ones same in
    let there : ones (n % 2 ^ k) ≡ ones (n % 2 ^ 32) = ap (λ e. ones (n % 2 ^ e)) whole in
    sym (lower_at n 32 small (omega arith) (omega (arith, count, there, few)) ∙ same)

-- a set without another, bit by bit
minus_half : (n m : ℕ) → minus n m / 2 ≡ minus (n / 2) (m / 2)
minus_half n m = omega (arith, and_step n m, and_le_l (n / 2) (m / 2))

minus_lowest : (n m : ℕ) → minus n m % 2 ≡ n % 2 - min (n % 2) (m % 2)
minus_lowest n m = omega (arith, and_step n m, and_le_l (n / 2) (m / 2))

minus_rest : (n m i : ℕ) → minus n m / 2 ^ i ≡ minus (n / 2 ^ i) (m / 2 ^ i)
minus_rest n m zero = div-one (minus n m) ∙ sym (ap₂ minus (div-one n) (div-one m))
minus_rest n m (suc i) =
    sym (rest_half (minus n m) i)
    ∙ ap (λ q. q / 2) (minus_rest n m i)
    ∙ minus_half (n / 2 ^ i) (m / 2 ^ i)
    ∙ ap₂ minus (rest_half n i) (rest_half m i)

minus_bits : (x y : ℕ) → x < 2 → y < 2 → eqb (x - min x y) 1 ≡ (eqb x 1 && not (eqb y 1))
minus_bits zero zero small smaller = refl
minus_bits zero (suc zero) small smaller = refl
minus_bits (suc zero) zero small smaller = refl
minus_bits (suc zero) (suc zero) small smaller = refl
minus_bits zero (suc (suc y)) small smaller = absurd (omega arith)
minus_bits (suc zero) (suc (suc y)) small smaller = absurd (omega arith)
minus_bits (suc (suc x)) y small smaller = absurd (omega arith)

-- it has what the first has and the second does not
pub has_minus : (n m i : ℕ) → has (minus n m) i ≡ (has n i && not (has m i))
has_minus n m i =
    ap (λ q. eqb (q % 2) 1) (minus_rest n m i)
    ∙ ap (λ b. eqb b 1) (minus_lowest (n / 2 ^ i) (m / 2 ^ i))
    ∙ minus_bits (n / 2 ^ i % 2) (m / 2 ^ i % 2) (bit_small n i) (bit_small m i)

pub minus_part : (n m : ℕ) → Part (minus n m) n
minus_part n m = has_part (minus n m) n (λ i h. (and_parts (has n i) (not (has m i)) (sym (has_minus n m i) ∙ h)).0)

-- and nothing of the second
has_none : (i : ℕ) → has 0 i ≡ false
has_none i = has_past 0 0 i (lit< tt) (omega arith)

apart : (x y : Bool) → (x && (y && not x)) ≡ false
apart true true = refl
apart true false = refl
apart false y = refl

pub minus_apart : (n m : ℕ) → bit_and m (minus n m) ≡ 0
minus_apart n m =
    same_members (bit_and m (minus n m)) 0 (λ i.
    has_and m (minus n m) i ∙ ap (λ b. has m i && b) (has_minus n m i) ∙ apart (has m i) (has n i) ∙ sym (has_none i))

-- a part and the rest make the whole
whole : (x y : Bool) → (x ≡ true → y ≡ true) → (x || (y && not x)) ≡ y
whole true y f = sym (f refl)
whole false true f = refl
whole false false f = refl

pub part_rest : (t s : ℕ) → Part t s → bit_or t (minus s t) ≡ s
part_rest t s p =
    same_members (bit_or t (minus s t)) s (λ i.
    has_or t (minus s t) i ∙ ap (λ b. has t i || b) (has_minus s t i) ∙ whole (has t i) (has s i) (part_has t s i p))

-- the low bits of a set are a part of it, and have its members below their end
pub cut_part : (n k : ℕ) → Part (n % 2 ^ k) n
cut_part n k =
    let held : Part (bit_and n (2 ^ k - 1)) n = has_part (bit_and n (2 ^ k - 1)) n (λ i h. (and_parts (has n i) (has (2 ^ k - 1) i) (sym (has_and n (2 ^ k - 1) i) ∙ h)).0) in
    subst (λ m. Part m n) (and_mask n k) held

pub has_cut : (n k i : ℕ) → i < k → has (n % 2 ^ k) i ≡ has n i
has_cut n k i low =
    let more : ℕ = k - i - 1 in
    ap (λ e. eqb (n % 2 ^ e / 2 ^ i % 2) 1) (omega arith)
    ∙ ap (λ q. eqb (q % 2) 1) (field n (more + 1) i)
    ∙ ap (λ b. eqb b 1) (mod-mod-pow (n / 2 ^ i) more 1)

-- some place has half of the members below it, as their number grows by no more than one from place to place
place_of : (n half k : ℕ) → half ≤ ones (n % 2 ^ k) → (j : ℕ) × (j ≤ k) × (ones (n % 2 ^ j) ≡ half)
place_of n half zero enough =
    let none_low : ones (n % 2 ^ 0) ≡ 0 = ap ones (mod-one n) ∙ ones_none in
    (0, omega arith, omega (arith, none_low, enough))
place_of n half (suc k) enough =
    elim (cases_lt (ones (n % 2 ^ k)) half) [
      | inl fewer ↦ (suc k, omega arith, omega (arith, ones_low_more n k, bit_small n k, enough, fewer))
      | inr more ↦ let p = place_of n half k more in (p.0, omega (arith, p.1), p.2)
    ]

half_place : (n : ℕ) → n < 2 ^ 32 → (k : ℕ) × (k ≤ 32) × (ones (n % 2 ^ k) ≡ ones n / 2)
half_place n small =
    let all : ones (n % 2 ^ 32) ≡ ones n = ap ones (mod-eq_of_lt small) in
    place_of n (ones n / 2) 32 (omega (arith, all))

-- the lower half is cut off at a place
pub lower_cut : (n : ℕ) → n < 2 ^ 32 → (k : ℕ) × (lower n ≡ n % 2 ^ k)
lower_cut n small = let p = half_place n small in (p.0, lower_at n p.0 small p.1 p.2)

pub lower_part : (n : ℕ) → n < 2 ^ 32 → Part (lower n) n
lower_part n small = let p = lower_cut n small in subst (λ m. Part m n) (sym p.1) (cut_part n p.0)

pub size_lower : (n : ℕ) → n < 2 ^ 32 → size (lower n) ≡ size n / 2
size_lower n small =
    let p = half_place n small in
    let low : n % 2 ^ p.0 < 2 ^ 32 = lt_of_le_of_lt (mod-le n (2 ^ p.0)) small in
    ap size (lower_at n p.0 small p.1 p.2) ∙ sym (ones_size (n % 2 ^ p.0) low) ∙ p.2 ∙ ap (λ m. m / 2) (ones_size n small)

-- and the rest begins there
pub upper_cut : (n k : ℕ) → lower n ≡ n % 2 ^ k → minus n (lower n) ≡ n / 2 ^ k * 2 ^ k
upper_cut n k cut =
    let low : bit_and n (lower n) ≡ n % 2 ^ k = ap (bit_and n) cut ∙ and_comm n (n % 2 ^ k) ∙ cut_part n k in
    omega (arith, low, div-add-mod' n (2 ^ k))

pub lower_upper : (n : ℕ) → n < 2 ^ 32 → bit_or (lower n) (minus n (lower n)) ≡ n
lower_upper n small = part_rest (lower n) n (lower_part n small)

-- the members of two sets, counted: those of either, and those of both once more
ones_or_and : (a b : ℕ) → ones (bit_or a b) + ones (bit_and a b) ≡ ones a + ones b
ones_or_and =
    bin_ind (λ a. (b : ℕ) → ones (bit_or a b) + ones (bit_and a b) ≡ ones a + ones b)
    (λ b. omega (arith, ap ones (or_zero_l b), ap ones (and_zero_l b)))
    (λ a rest b.
    let either : ones (bit_or a b) ≡ max (a % 2) (b % 2) + ones (bit_or (a / 2) (b / 2)) =
    let low : bit_or a b % 2 ≡ max (a % 2) (b % 2) = omega (arith, or_step a b) in
    omega (arith, ones_step (bit_or a b), low, ap ones (or_shr a b 1))
    in
    let both : ones (bit_and a b) ≡ min (a % 2) (b % 2) + ones (bit_and (a / 2) (b / 2)) =
    let low : bit_and a b % 2 ≡ min (a % 2) (b % 2) = omega (arith, and_step a b) in
    omega (arith, ones_step (bit_and a b), low, ap ones (and_shr a b 1))
    in omega (arith, either, both, ones_step a, ones_step b, rest (b / 2)))

pub size_or_apart : (a b : ℕ) → a < 2 ^ 32 → b < 2 ^ 32 → bit_and a b ≡ 0 → size (bit_or a b) ≡ size a + size b
size_or_apart a b small smaller none_both =
    omega (
      arith,
      ones_or_and a b,
      ap ones none_both,
      ones_none,
      ones_size (bit_or a b) (or_lt 32 a b small smaller),
      ones_size a small,
      ones_size b smaller,
    )

-- the two halves have all members together
pub size_upper : (n : ℕ) → n < 2 ^ 32 → size (minus n (lower n)) ≡ size n - size n / 2
size_upper n small =
    let low : lower n < 2 ^ 32 = part_below 32 (lower n) n (lower_part n small) small in
    let high : minus n (lower n) < 2 ^ 32 = part_below 32 (minus n (lower n)) n (minus_part n (lower n)) small in
    let together = size_or_apart (lower n) (minus n (lower n)) low high (minus_apart n (lower n)) in
    omega (arith, together, ap size (lower_upper n small), size_lower n small)

-- a set of no members is the empty one, and a proper part has fewer
pub size_none : (n : ℕ) → n < 2 ^ 32 → size n ≡ 0 → n ≡ 0
size_none n small empty = zero_from_ones n (ones_size n small ∙ empty)

pub part_size : (t s : ℕ) → s < 2 ^ 32 → Part t s → (t ≡ s → ⊥) → size t < size s
part_size t s small p other =
    omega (arith, part_ones t s p other, ones_size t (part_below 32 t s p small), ones_size s small)
