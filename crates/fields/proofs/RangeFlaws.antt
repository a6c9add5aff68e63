-- RANGE: the first field whose number lies outside its range. Assumes nothing.
use Rattle.std.proofs.Common.{◌≡◌, ℕ, suc, ◌<◌, Bool, true, false, cond, List, [], ◌∷◌, Some, None, sym, refl, ◌∙◌, subst, inl, inr, arith}
use Rattle.std.proofs.lemmas.Bool.{false≢true}
use Rattle.fields.specs.Formed.{first_outside}
use Rattle.fields.specs.Layout.{column, inside}
use Rattle.fields.specs.declared.layout.Sort.{Sort}
use Rattle.fields.specs.declared.value.Value.{Value}
use Rattle.fields.proofs.Outcomes.{none_no_some, same_some, cond_none}
use Rattle.fields.proofs.Standing.{At, at_nothing, at_here, at_later, at_cases, IsFirst}

-- whether v lies in the range of field m
abbrev fits : Sort → (requests m : ℕ) → Value → Bool
fits s requests m v = inside (column s requests m) v

-- of the values from field i on, that of field m lies outside its range
abbrev pub Outside : Sort → (requests i : ℕ) → List Value → (m : ℕ) → Type 0
Outside s requests i vs m = (v : Value) × At i vs m v × (inside (column s requests m) v ≡ false)

-- a value outside its range behind one that is in its range
outside_later : (s : Sort) (requests i : ℕ) (v : Value) (vs : List Value) (m : ℕ)
    → fits s requests i v ≡ true → Outside s requests i (v ∷ vs) m → Outside s requests (suc i) vs m
outside_later s requests i v vs m good out = elim (at_cases i m v out.0 vs out.1) [
  | inl same ↦
      let is : fits s requests m out.0 ≡ fits s requests i v = cc in
      absurd (false≢true (sym out.2 ∙ is ∙ good))
  | inr later ↦ (out.0, later, out.2)
]

pub outside_none : (s : Sort) (requests i : ℕ) (vs : List Value)
    → first_outside s requests i vs ≡ None → (m : ℕ) → Outside s requests i vs m → ⊥
outside_none s requests i [] p m out = at_nothing i m out.0 out.1
outside_none s requests i (v ∷ vs) p m out =
    let parts = cond_none (fits s requests i v) (first_outside s requests (suc i) vs) i p in
    outside_none s requests (suc i) vs parts.1 m (outside_later s requests i v vs m parts.0 out)

pub outside_some : (s : Sort) (requests i : ℕ) (vs : List Value) (m : ℕ)
    → first_outside s requests i vs ≡ Some m → IsFirst (Outside s requests i vs) m
outside_some s requests i [] m p = absurd (none_no_some m p)
outside_some s requests i (v ∷ vs) m p =
    go (fits s requests i v) refl (outside_some s requests (suc i) vs m) p
  where
    go : (b : Bool) → fits s requests i v ≡ b
        → (first_outside s requests (suc i) vs ≡ Some m → IsFirst (Outside s requests (suc i) vs) m)
        → cond b (first_outside s requests (suc i) vs) (Some i) ≡ Some m
        → IsFirst (Outside s requests i (v ∷ vs)) m
    go true good more q =
        let rest = more q in
        let has : Outside s requests (suc i) vs m = rest.0 in
        let first : (k : ℕ) → k < m → Outside s requests i (v ∷ vs) k → ⊥ = λ k below other.
        rest.1 k below (outside_later s requests i v vs k good other) in
        ((has.0, at_later i m v has.0 vs has.1, has.2), first)
    go false bad more q =
        let here : Outside s requests i (v ∷ vs) i = (v, at_here i i v v vs refl refl, bad) in
        let first : (k : ℕ) → k < i → Outside s requests i (v ∷ vs) k → ⊥ = λ k below other.
        omega (arith, other.1.0) in
        subst (IsFirst (Outside s requests i (v ∷ vs))) (same_some i m q) (here, first)
