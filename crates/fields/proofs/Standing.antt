-- What stands in which field, and the first field of which a thing holds. Assumes nothing.
use Rattle.std.proofs.Common.{◌≡◌, ℕ, suc, ◌-◌, ◌<◌, ◌≤◌, ◌⊎◌, List, [], ◌∷◌, Some, sym, ap, ◌∙◌, inl, inr, arith}
use Rattle.std.proofs.lemmas.Bool.{cases_lt}
use Rattle.std.specs.List.{slice_get}
use Rattle.fields.proofs.Outcomes.{none_no_some, same_some}

-- of things that stand in the fields from i on, x stands in field m
abbrev pub At : {A : Type 0} → (i : ℕ) → List A → (m : ℕ) → A → Type 0
At i xs m x = (i ≤ m) × (slice_get xs (m - i) ≡ Some x)

pub at_nothing : {A : Type 0} (i m : ℕ) (x : A) → At i [] m x → ⊥
at_nothing i m x a = none_no_some x a.1

pub at_here : {A : Type 0} (i m : ℕ) (x y : A) (xs : List A) → m ≡ i → x ≡ y → At i (x ∷ xs) m y
at_here i m x y xs is same =
    let none : m - i ≡ 0 = omega arith in
    (omega arith, ap (slice_get (x ∷ xs)) none ∙ ap Some same)

pub at_later : {A : Type 0} (i m : ℕ) (x y : A) (xs : List A) → At (suc i) xs m y
    → At i (x ∷ xs) m y
at_later i m x y xs a =
    let low : suc i ≤ m = a.0 in
    let more : m - i ≡ suc (m - suc i) = omega arith in
    (omega arith, ap (slice_get (x ∷ xs)) more ∙ a.1)

pub at_cases : {A : Type 0} (i m : ℕ) (x y : A) (xs : List A) → At i (x ∷ xs) m y
    → ((m ≡ i) × (x ≡ y)) ⊎ At (suc i) xs m y
at_cases i m x y xs a = elim (cases_lt i m) [
  | inl above ↦
      let more : m - i ≡ suc (m - suc i) = omega arith in
      inr (omega arith, sym (ap (slice_get (x ∷ xs)) more) ∙ a.1)
  | inr below ↦
      let low : i ≤ m = a.0 in
      let none : m - i ≡ 0 = omega arith in
      inl (omega arith, same_some x y (sym (ap (slice_get (x ∷ xs)) none) ∙ a.1))
]

pub at_behind : {A : Type 0} (i m : ℕ) (x y : A) (xs : List A) → i < m → At i (x ∷ xs) m y
    → At (suc i) xs m y
at_behind i m x y xs above a = elim (at_cases i m x y xs a) [
  | inl same ↦ absurd (omega (arith, same.0))
  | inr later ↦ later
]

pub at_same : {A : Type 0} (i m : ℕ) (x y : A) (xs : List A) → At i xs m x → At i xs m y → x ≡ y
at_same i m x y xs a b = same_some x y (sym a.1 ∙ b.1)

-- P holds of m, and of nothing below
abbrev pub IsFirst : (ℕ → Type 0) → ℕ → Type 0
IsFirst P m = P m × ((f : ℕ) → f < m → P f → ⊥)
