-- ORDER: the first field whose number is not above the one before it. Assumes nothing.
use Rattle.std.proofs.Common.{◌≡◌, ℕ, suc, ◌-◌, ◌<◌, ◌≤◌, Bool, true, false, cond, ltb, List, [], ◌∷◌, drop, Some, None, refl, ap, subst, inl, inr, arith}
use Rattle.std.proofs.lemmas.Bool.{ltb-true, ltb-false}
use Rattle.fields.specs.Formed.{amount, first_unrisen}
use Rattle.fields.specs.declared.value.Value.{Value}
use Rattle.fields.proofs.Outcomes.{none_no_some, same_some, cond_none}
use Rattle.fields.proofs.Standing.{At, at_nothing, at_here, at_later, at_cases, at_behind, IsFirst}

-- of the values from field i on, that of field m is not above the one before it
abbrev pub Unrisen : (i : ℕ) → List Value → (m : ℕ) → Type 0
Unrisen i vs m = (i < m) × (v w : Value) × At i vs (m - 1) v × At i vs m w × (amount w ≤ amount v)

-- behind the first value there is one
unrisen_next : (i : ℕ) (p : Value) (vs : List Value) (m : ℕ) (u : Unrisen i (p ∷ vs) m)
    → At (suc i) vs m u.2
unrisen_next i p vs m u = elim (at_cases i m p u.2 vs u.4) [
  | inl same ↦ absurd (omega (arith, u.0, same.0))
  | inr later ↦ later
]

-- behind a value that is above the first
unrisen_later : (i : ℕ) (p q : Value) (vs : List Value) (m : ℕ) → amount p < amount q
    → Unrisen i (p ∷ q ∷ vs) m → Unrisen (suc i) (q ∷ vs) m
unrisen_later i p q vs m rises u =
    let next = unrisen_next i p (q ∷ vs) m u in
    elim (at_cases i (m - 1) p u.1 (q ∷ vs) u.3) [
      | inl same ↦ elim (at_cases (suc i) m q u.2 vs next) [
        | inl also ↦ absurd (omega (arith, ap amount same.1, ap amount also.1, u.4))
        | inr far ↦ absurd (omega (arith, far.0, same.0))
      ]
      | inr later ↦ (omega (arith, later.0), u.1, u.2, later, next, u.5)
    ]

pub unrisen_none : (i : ℕ) (p : Value) (vs : List Value)
    → first_unrisen (Some (amount p)) (suc i) vs ≡ None → (m : ℕ) → Unrisen i (p ∷ vs) m → ⊥
unrisen_none i p [] e m u = at_nothing (suc i) m u.2 (unrisen_next i p [] m u)
unrisen_none i p (q ∷ vs) e m u =
    let rest = first_unrisen (Some (amount q)) (suc (suc i)) vs in
    let parts = cond_none (ltb (amount p) (amount q)) rest (suc i) e in
    let rises = ltb-true (amount p) (amount q) parts.0 in
    unrisen_none (suc i) q vs parts.1 m (unrisen_later i p q vs m rises u)

pub unrisen_some : (i : ℕ) (p : Value) (vs : List Value) (m : ℕ)
    → first_unrisen (Some (amount p)) (suc i) vs ≡ Some m → IsFirst (Unrisen i (p ∷ vs)) m
unrisen_some i p [] m e = absurd (none_no_some m e)
unrisen_some i p (q ∷ vs) m e =
    go (ltb (amount p) (amount q)) refl (unrisen_some (suc i) q vs m) e
  where
    go : (b : Bool) → ltb (amount p) (amount q) ≡ b
        → (first_unrisen (Some (amount q)) (suc (suc i)) vs ≡ Some m
        → IsFirst (Unrisen (suc i) (q ∷ vs)) m)
        → cond b (first_unrisen (Some (amount q)) (suc (suc i)) vs) (Some (suc i)) ≡ Some m
        → IsFirst (Unrisen i (p ∷ q ∷ vs)) m
    go true rises more f =
        let rest = more f in
        let has : Unrisen (suc i) (q ∷ vs) m = rest.0 in
        let above = ltb-true (amount p) (amount q) rises in
        let one = at_later i (m - 1) p has.1 (q ∷ vs) has.3 in
        let two = at_later i m p has.2 (q ∷ vs) has.4 in
        let later : Unrisen i (p ∷ q ∷ vs) m =
        (omega (arith, has.0), has.1, has.2, one, two, has.5) in
        let first : (k : ℕ) → k < m → Unrisen i (p ∷ q ∷ vs) k → ⊥ = λ k below other.
        rest.1 k below (unrisen_later i p q vs k above other) in
        (later, first)
    go false level more f =
        let one = at_here i (suc i - 1) p p (q ∷ vs) (omega arith) refl in
        let two = at_later i (suc i) p q (q ∷ vs) (at_here (suc i) (suc i) q q vs refl refl) in
        let here : Unrisen i (p ∷ q ∷ vs) (suc i) =
        (omega arith, p, q, one, two, ltb-false (amount p) (amount q) level) in
        let first : (k : ℕ) → k < suc i → Unrisen i (p ∷ q ∷ vs) k → ⊥ = λ k below other.
        omega (arith, other.0) in
        subst (IsFirst (Unrisen i (p ∷ q ∷ vs))) (same_some (suc i) m f) (here, first)

-- the same of the fields behind the second, where those before are told too
abbrev pub LateUnrisen : List Value → (m : ℕ) → Type 0
LateUnrisen vs m = (3 < m) × (v w : Value) × At 1 vs (m - 1) v × At 1 vs m w × (amount w ≤ amount v)

late_third : (a b p : Value) (vs : List Value) (m : ℕ)
    → LateUnrisen (a ∷ b ∷ p ∷ vs) m → Unrisen 3 (p ∷ vs) m
late_third a b p vs m u =
    let far : 3 < m = u.0 in
    let one = at_behind 1 (m - 1) a u.1 (b ∷ p ∷ vs) (omega arith) u.3 in
    let two = at_behind 1 m a u.2 (b ∷ p ∷ vs) (omega arith) u.4 in
    let one' = at_behind 2 (m - 1) b u.1 (p ∷ vs) (omega arith) one in
    let two' = at_behind 2 m b u.2 (p ∷ vs) (omega arith) two in
    (far, u.1, u.2, one', two', u.5)

third_late : (a b p : Value) (vs : List Value) (m : ℕ)
    → Unrisen 3 (p ∷ vs) m → LateUnrisen (a ∷ b ∷ p ∷ vs) m
third_late a b p vs m u =
    let one = at_later 1 (m - 1) a u.1 (b ∷ p ∷ vs) (at_later 2 (m - 1) b u.1 (p ∷ vs) u.3) in
    let two = at_later 1 m a u.2 (b ∷ p ∷ vs) (at_later 2 m b u.2 (p ∷ vs) u.4) in
    (u.0, u.1, u.2, one, two, u.5)

pub late_none : (vs : List Value) → first_unrisen None 3 (drop 2 vs) ≡ None
    → (m : ℕ) → LateUnrisen vs m → ⊥
late_none [] e m u = at_nothing 1 m u.2 u.4
late_none (a ∷ []) e m u = at_nothing 2 m u.2 (at_behind 1 m a u.2 [] (omega (arith, u.0)) u.4)
late_none (a ∷ b ∷ []) e m u =
    let far : 3 < m = u.0 in
    let behind = at_behind 1 m a u.2 (b ∷ []) (omega arith) u.4 in
    at_nothing 3 m u.2 (at_behind 2 m b u.2 [] (omega arith) behind)
late_none (a ∷ b ∷ p ∷ vs) e m u = unrisen_none 3 p vs e m (late_third a b p vs m u)

pub late_some : (vs : List Value) (m : ℕ) → first_unrisen None 3 (drop 2 vs) ≡ Some m
    → IsFirst (LateUnrisen vs) m
late_some [] m e = absurd (none_no_some m e)
late_some (a ∷ []) m e = absurd (none_no_some m e)
late_some (a ∷ b ∷ []) m e = absurd (none_no_some m e)
late_some (a ∷ b ∷ p ∷ vs) m e =
    let first = unrisen_some 3 p vs m e in
    (third_late a b p vs m first.0, λ k below other. first.1 k below (late_third a b p vs k other))
