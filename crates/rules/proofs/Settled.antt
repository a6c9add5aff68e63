-- Counting settled marks, and lowering those that are not. Assumes nothing.
use Rattle.std.proofs.Common.{◌≡◌, ℕ, zero, suc, ◌+◌, ◌-◌, ◌<◌, ◌≤◌, Bool, true, false, cond, ◌⊎◌, List, ℤ, pos, ◌-ℤ◌, ◌<ℤ◌, refl, ap, inl, inr, arith}
use Rattle.std.proofs.lemmas.Int.{ints}
use Rattle.std.proofs.lemmas.Bool.{both_ways, cases_Bool, cases_eq}
use Rattle.rules.specs.Choices.{Every}
use Rattle.rules.specs.Rounds.{marks}
use Rattle.rules.specs.declared.Body.{Body}
use Rattle.rules.proofs.Bodies.{Fair, OfGap, gaps_give}
use Rattle.rules.proofs.Raising.{Serves}
use Rattle.rules.proofs.Saying.{Valid}

abbrev one_if : Bool → ℕ
one_if b = cond b 1 0

-- how many of the first n numbers pass a test
abbrev pub tally : (ℕ → Bool) → ℕ → ℕ
tally f zero = 0
tally f (suc n) = one_if (f n) + tally f n

-- what the first n numbers are given, in all
abbrev pub total : (ℕ → ℕ) → ℕ → ℕ
total z zero = 0
total z (suc n) = z n + total z n

pub tally_most : (f : ℕ → Bool) (n : ℕ) → tally f n ≤ n
tally_most f zero = omega arith
tally_most f (suc n) =
    let most = tally_most f n in
    elim (f n) as (λ v. one_if v + tally f n ≤ suc n) [ true ↦ omega arith | false ↦ omega arith ]

-- if as many pass as there are, each does
pub tally_all : (f : ℕ → Bool) (n : ℕ) → n ≤ tally f n → (i : ℕ) → i < n → f i ≡ true
tally_all f zero h i k = absurd (omega arith)
tally_all f (suc n) h i k =
    elim (cases_Bool (f n)) [
      | inl t ↦ elim (cases_eq i n) [ inl e ↦ rw e t | inr m ↦ tally_all f n (let k : n ≤ tally f n = omega (arith, rw t at h) in k) i (omega arith) ]
      | inr t ↦ absurd (omega (arith, tally_most f n, ap one_if t))
    ]

-- up to n, and at n
up_to : (P : ℕ → Type 0) (n : ℕ) → ((i : ℕ) → i < n → P i) → P n → (i : ℕ) → i < suc n → P i
up_to P n below here i k = elim (cases_eq i n) [ inl e ↦ rw e here | inr m ↦ below i (omega arith) ]

one_more : (f g : ℕ → Bool) (n : ℕ) → (f n ≡ true → g n ≡ true) → one_if (f n) ≤ one_if (g n)
one_more f g n h = elim (cases_Bool (f n)) [ inl t ↦ omega (arith, ap one_if t, ap one_if (h t)) | inr t ↦ omega (arith, ap one_if t) ]

-- more pass another test that is easier, or just those that passed the first
pub tally_more :
    (f g : ℕ → Bool) (n : ℕ) → ((i : ℕ) → i < n → f i ≡ true → g i ≡ true)
    → (tally f n < tally g n) ⊎ ((tally f n ≡ tally g n) × ((i : ℕ) → i < n → g i ≡ true → f i ≡ true))
tally_more f g zero h = inr (refl, λ i k t. absurd (omega arith))
tally_more f g (suc n) h =
    elim (tally_more f g n (λ i k. h i (omega arith))) [
      | inl m ↦ inl (omega (arith, one_more f g n (h n (omega arith))))
      | inr s ↦ elim (cases_Bool (g n)) [
        | inl t ↦ elim (cases_Bool (f n)) [
          | inl u ↦ inr (rw (t, u) (omega (arith, s.0)), up_to (λ i. g i ≡ true → f i ≡ true) n s.1 (λ _. u))
          | inr u ↦ inl (rw (t, u) (omega (arith, s.0)))
        ]
        | inr t ↦
            let same = one_more f g n (h n (omega arith)) in
            inr (omega (arith, s.0, same, ap one_if t), up_to (λ i. g i ≡ true → f i ≡ true) n s.1 (λ u. absurd (both_ways (g n) t u)))
      ]
    ]

-- each number that does not pass the test is given one less
abbrev lowered : (ℕ → ℕ) → (ℕ → Bool) → ℕ → ℕ
lowered z f i = cond (f i) (z i) (z i - 1)

-- those that are lowered have something to lose
abbrev pub Lowers : (ℕ → ℕ) → (ℕ → Bool) → ℕ → Type 0
Lowers z f n = (i : ℕ) → i < n → f i ≡ false → 1 ≤ z i

total_lowered : (z : ℕ → ℕ) (f : ℕ → Bool) (n : ℕ) → Lowers z f n → total (lowered z f) n + n ≡ total z n + tally f n
total_lowered z f zero l = refl
total_lowered z f (suc n) l =
    let r = total_lowered z f n (λ i k. l i (omega arith)) in
    elim (cases_Bool (f n)) [
      | inl t ↦ rw t (omega (arith, r))
      | inr t ↦ rw t (omega (arith, r, l n (omega arith) t))
    ]

-- where mark a passes the test and mark b does not, the gap has room to spare
abbrev pub Spare : (ℕ → ℕ) → (ℕ → Bool) → ℕ → ℕ → ℤ → Type 0
Spare z f a b w = f a ≡ true → f b ≡ false → (pos (z a) -ℤ w) <ℤ pos (z b)

-- places that serve, and are less in all
abbrev pub Less : List Body → (ℕ → ℕ) → Type 0
Less bs z = (y : ℕ → ℕ) × Every (OfGap (Serves y)) bs × (total y marks < total z marks)

serves_lowered :
    (z : ℕ → ℕ) (f : ℕ → Bool) → Lowers z f marks
    → (a b : ℕ) (w : ℤ) → Fair a b w → Serves z a b w → Spare z f a b w → Serves (lowered z f) a b w
serves_lowered z f l a b w p s r =
    elim (cases_Bool (f a)) [
      | inl t ↦ elim (cases_Bool (f b)) [ inl u ↦ rw (t, u) s | inr u ↦ rw (t, u) (omega (arith, ints, r t u)) ]
      | inr t ↦ elim (cases_Bool (f b)) [
        | inl u ↦ rw (t, u) (omega (arith, ints))
        | inr u ↦ rw (t, u) (omega (arith, ints, l a p.0 t, l b p.1 u))
      ]
    ]

-- if some mark does not pass, those that do not can be lowered
pub less_from :
    (bs : List Body) (z : ℕ → ℕ) (f : ℕ → Bool) → Every Valid bs → Every (OfGap (Serves z)) bs → Lowers z f marks
    → Every (OfGap (Spare z f)) bs → tally f marks < marks → Less bs z
less_from bs z f v s l r m =
    (lowered z f, gaps_give (serves_lowered z f l) bs v s r, omega (arith, total_lowered z f marks l))
