-- A set and the rising list of its members say the same. Assumes nothing.
use Rattle.std.proofs.Common.{◌≡◌, ℕ, zero, suc, ◌+◌, ◌*◌, ◌/◌, ◌%◌, ◌^◌, ◌<◌, ◌≤◌, true, false, List, [], ◌∷◌, sym, refl, ap, ◌∙◌, subst, inl, inr, mod-eq_of_lt, one-mul, zero-add, zero-mul, arith, lit<, pow_pos}
use native.Mathlib.Nat.{mod-one}
use lib.Bits.{bit_or, or_shifted_r}
use Rattle.std.proofs.lemmas.Nat.{mod_below}
use Rattle.std.proofs.lemmas.Bool.{cond-true, cond-false, cond_both, eqb-true, eqb-false, cases_lt}
use Rattle.sets.specs.Members.{none, has, added, added_all, members_from, members}
use Rattle.sets.proofs.Bounds.{has_past}
use Rattle.sets.proofs.Adding.{has_put, has_put_other, added_put, added_all_small, wider, added_below}
use Rattle.sets.proofs.Digits.{low_more}

-- strictly rising numbers, from b on, below 32
abbrev pub Rising : (b : ℕ) → List ℕ → Type 0
Rising b [] = Unit {0}
Rising b (x ∷ xs) = (b ≤ x) × (x < 32) × Rising (suc x) xs

-- rising from b on is rising from any lower number on
rising_from : (a b : ℕ) (xs : List ℕ) → a ≤ b → Rising b xs → Rising a xs
rising_from a b [] low r = tt
rising_from a b (x ∷ xs) low r = (omega arith, r.1, r.2)

-- what is added from b on changes nothing below b
has_added_all : (xs : List ℕ) (b n i : ℕ) → Rising b xs → i < b → has (added_all n xs) i ≡ has n i
has_added_all [] b n i r low = refl
has_added_all (x ∷ xs) b n i r low =
    has_added_all xs (suc x) (added n x) i r.2 (omega arith)
    ∙ ap (λ m. has m i) (added_put n x r.1)
    ∙ has_put_other n x i (omega arith)

pub added_small : (xs : List ℕ) → Rising 0 xs → added_all none xs < 2 ^ 32
added_small xs r = added_all_small xs none (lit< tt)

-- a set below 2 ^ i has no members from i on
members_none : (count i n : ℕ) → n < 2 ^ i → members_from count i n ≡ []
members_none zero i n small = refl
members_none (suc count) i n small =
    cond-false (has n i) (i ∷ members_from count (suc i) n) (members_from count (suc i) n) (has_past i n i small (omega arith))
    ∙ members_none count (suc i) n (wider i n small)

-- where i is the first number added, it is the first member from i on
first_here : (count i n : ℕ) (xs : List ℕ) → i < 32 → Rising (suc i) xs → members_from count (suc i) (added_all n (i ∷ xs)) ≡ xs → members_from (suc count) i (added_all n (i ∷ xs)) ≡ i ∷ xs
first_here count i n xs below r later =
    let m : ℕ = added_all n (i ∷ xs) in
    let there : has m i ≡ true = has_added_all xs (suc i) (added n i) i r (omega arith) ∙ ap (λ k. has k i) (added_put n i below) ∙ has_put n i in
    cond-true (has m i) (i ∷ members_from count (suc i) m) (members_from count (suc i) m) there ∙ ap (λ ys. i ∷ ys) later

-- where all that is added lies past i, i is no member
first_later : (count i n : ℕ) (xs : List ℕ) → n < 2 ^ i → Rising (suc i) xs → members_from count (suc i) (added_all n xs) ≡ xs → members_from (suc count) i (added_all n xs) ≡ xs
first_later count i n xs small r later =
    let m : ℕ = added_all n xs in
    let away : has m i ≡ false = has_added_all xs (suc i) n i r (omega arith) ∙ has_past i n i small (omega arith) in
    cond-false (has m i) (i ∷ members_from count (suc i) m) (members_from count (suc i) m) away ∙ later

-- with n below 2 ^ i, the members from i on are what is added from i on
members_added_from : (count i n : ℕ) (xs : List ℕ) → i + count ≡ 32 → n < 2 ^ i → Rising i xs → members_from count i (added_all n xs) ≡ xs
members_added_from zero i n [] end small r = refl
members_added_from zero i n (x ∷ xs) end small r = absurd (omega arith)
members_added_from (suc count) i n [] end small r = members_none (suc count) i n small
members_added_from (suc count) i n (x ∷ xs) end small r =
    elim (cases_lt i x) [
      | inl past ↦ first_later count i n (x ∷ xs) small (past, r.1, r.2) (members_added_from count (suc i) n (x ∷ xs) (omega arith) (wider i n small) (past, r.1, r.2))
      | inr low ↦
          let e : x ≡ i = omega arith in
          let P : ℕ → Type 0 = λ y. Rising (suc y) xs → members_from (suc count) i (added_all n (y ∷ xs)) ≡ y ∷ xs in
          subst P (sym e) (λ later. first_here count i n xs (omega arith) later (members_added_from count (suc i) (added n i) xs (omega arith) (added_below i n (omega arith) small) later)) r.2
    ]

pub members_added : (xs : List ℕ) → Rising 0 xs → members (added_all none xs) ≡ xs
members_added xs r = members_added_from 32 0 none xs refl (lit< tt) r

-- the members from i on rise from i on
members_rising_from : (count i n : ℕ) → i + count ≡ 32 → Rising i (members_from count i n)
members_rising_from zero i n end = tt
members_rising_from (suc count) i n end =
    let rest : Rising (suc i) (members_from count (suc i) n) = members_rising_from count (suc i) n (omega arith) in
    cond_both (has n i) (i ∷ members_from count (suc i) n) (members_from count (suc i) n) (λ xs. Rising i xs)
    (λ there. (omega arith, omega arith, rest))
    (λ away. rising_from i (suc i) (members_from count (suc i) n) (omega arith) rest)

pub members_rising : (n : ℕ) → Rising 0 (members n)
members_rising n = members_rising_from 32 0 n refl

-- a member adds its bit to the bits below it
low_there : (n i : ℕ) → i < 32 → has n i ≡ true → added (n % 2 ^ i) i ≡ n % 2 ^ suc i
low_there n i below there =
    added_put (n % 2 ^ i) i below
    ∙ ap (bit_or (n % 2 ^ i)) (sym (one-mul (2 ^ i)))
    ∙ or_shifted_r 1 i (n % 2 ^ i) (mod_below n (2 ^ i) (pow_pos i))
    ∙ ap (λ b. b * 2 ^ i + n % 2 ^ i) (sym (eqb-true (n / 2 ^ i % 2) 1 there))
    ∙ sym (low_more n i)

-- what is no member adds nothing
low_away : (n i : ℕ) → has n i ≡ false → n % 2 ^ i ≡ n % 2 ^ suc i
low_away n i away =
    let off : n / 2 ^ i % 2 ≡ 0 = omega (arith, eqb-false (n / 2 ^ i % 2) 1 away) in
    sym (zero-add (n % 2 ^ i)) ∙ ap (λ b. b + n % 2 ^ i) (sym (zero-mul (2 ^ i)) ∙ ap (λ b. b * 2 ^ i) (sym off)) ∙ sym (low_more n i)

-- the low bits of n, and the members that follow, are the low bits further up
pub added_members_from : (count i k n : ℕ) → i + count ≡ k → k ≤ 32 → added_all (n % 2 ^ i) (members_from count i n) ≡ n % 2 ^ k
added_members_from zero i k n end top = ap (λ e. n % 2 ^ e) (omega arith)
added_members_from (suc count) i k n end top =
    let later : added_all (n % 2 ^ suc i) (members_from count (suc i) n) ≡ n % 2 ^ k = added_members_from count (suc i) k n (omega arith) top in
    cond_both (has n i) (i ∷ members_from count (suc i) n) (members_from count (suc i) n) (λ xs. added_all (n % 2 ^ i) xs ≡ n % 2 ^ k)
    (λ there. ap (λ m. added_all m (members_from count (suc i) n)) (low_there n i (omega arith) there) ∙ later)
    (λ away. ap (λ m. added_all m (members_from count (suc i) n)) (low_away n i away) ∙ later)

pub added_members : (n : ℕ) → n < 2 ^ 32 → added_all none (members n) ≡ n
added_members n small =
    ap (λ m. added_all m (members n)) (sym (mod-one n)) ∙ added_members_from 32 0 32 n refl (omega arith) ∙ mod-eq_of_lt small
