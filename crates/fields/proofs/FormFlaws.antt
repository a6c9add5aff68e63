-- FORM: the first field that is not written as it has to be. Assumes nothing.
use Rattle.std.proofs.Common.{◌≡◌, ℕ, suc, ◌<◌, List, [], ◌∷◌, length, Some, None, Ok, Err, Option, Result, sym, refl, ap, ◌∙◌, subst, inl, inr, arith}
use Rattle.fields.specs.Faults.{at_field}
use Rattle.fields.specs.Formed.{first_of, formed}
use Rattle.fields.specs.Layout.{column}
use Rattle.fields.specs.Numbers.{said}
use Rattle.fields.specs.declared.fault.FieldFault.{FieldFault}
use Rattle.fields.specs.declared.fault.Flaw.TheVariants.{Form}
use Rattle.fields.specs.declared.layout.Sort.{Sort}
use Rattle.fields.specs.declared.value.Value.{Value}
use Rattle.fields.proofs.Outcomes.{err_no_ok, none_no_some, same_ok, same_some, same_err}
use Rattle.fields.proofs.Placed.{first_of_ok}
use Rattle.fields.proofs.Standing.{At, at_nothing, at_here, at_later, at_cases, IsFirst}

-- what the text of field m says, if it is written as it has to be
abbrev pub told : Sort → (m : ℕ) → List ℕ → Option Value
told s m text = said (column s 0 m).style text

-- of the fields from i on, field m says v
abbrev pub Says : Sort → (i : ℕ) → List (List ℕ) → (m : ℕ) → Value → Type 0
Says s i fs m v = (text : List ℕ) × At i fs m text × (told s m text ≡ Some v)

-- of the fields from i on, field m is not written as it has to be
abbrev pub BadForm : Sort → (i : ℕ) → List (List ℕ) → (m : ℕ) → Type 0
BadForm s i fs m = (text : List ℕ) × At i fs m text × (told s m text ≡ None)

told_same : (s : Sort) (i m : ℕ) (f text : List ℕ) → (m ≡ i) × (f ≡ text)
    → told s m text ≡ told s i f
told_same s i m f text same = cc

-- a fault behind a field that is well written
bad_later : (s : Sort) (i : ℕ) (f : List ℕ) (fs : List (List ℕ)) (v : Value) (m : ℕ)
    → told s i f ≡ Some v → BadForm s i (f ∷ fs) m → BadForm s (suc i) fs m
bad_later s i f fs v m good bad = elim (at_cases i m f bad.0 fs bad.1) [
  | inl same ↦ absurd (none_no_some v (sym bad.2 ∙ told_same s i m f bad.0 same ∙ good))
  | inr later ↦ (bad.0, later, bad.2)
]

-- the fault e is of the first field that is not written as it has to be
abbrev FirstBad : Sort → (line i : ℕ) → List (List ℕ) → FieldFault → Type 0
FirstBad s line i fs e = (m : ℕ) × (e ≡ at_field Form line m) × IsFirst (BadForm s i fs) m

pub formed_err : (s : Sort) (line i : ℕ) (fs : List (List ℕ)) (e : FieldFault)
    → formed s line i fs ≡ Err e → FirstBad s line i fs e
formed_err s line i [] e p = absurd (err_no_ok e [] (sym p))
formed_err s line i (f ∷ fs) e p =
    go (told s i f) refl (formed s line (suc i) fs) (formed_err s line (suc i) fs) p
  where
    go : (o : Option Value) → told s i f ≡ o → (r : Result (List Value) FieldFault)
        → ((d : FieldFault) → r ≡ Err d → FirstBad s line (suc i) fs d)
        → first_of (at_field Form line i) o r ≡ Err e → FirstBad s line i (f ∷ fs) e
    go None bad r more q =
        let here : BadForm s i (f ∷ fs) i = (f, at_here i i f f fs refl refl, bad) in
        let first : (k : ℕ) → k < i → BadForm s i (f ∷ fs) k → ⊥ = λ k below other.
        omega (arith, other.1.0) in
        (i, sym (same_err (at_field Form line i) e q), (here, first))
    go (Some v) good (Ok vs) more q = absurd (err_no_ok e (v ∷ vs) (sym q))
    go (Some v) good (Err d) more q =
        let rest = more d refl in
        let has : BadForm s (suc i) fs rest.0 = rest.2.0 in
        let later : BadForm s i (f ∷ fs) rest.0 =
        (has.0, at_later i rest.0 f has.0 fs has.1, has.2) in
        let first : (k : ℕ) → k < rest.0 → BadForm s i (f ∷ fs) k → ⊥ = λ k below other.
        rest.2.1 k below (bad_later s i f fs v k good other) in
        (rest.0, sym (same_err d e q) ∙ rest.1, (later, first))

-- each field is well written, and the values are what the fields say
pub record Aligned (s : Sort) (i : ℕ) (fs : List (List ℕ)) (vs : List Value) : Type 0 where
  pub fine : (m : ℕ) → BadForm s i fs m → ⊥
  pub forth : (m : ℕ) (v : Value) → Says s i fs m v → At i vs m v
  pub back : (m : ℕ) (v : Value) → At i vs m v → Says s i fs m v
  pub long : length vs ≡ length fs

aligned_more : (s : Sort) (i : ℕ) (f : List ℕ) (fs : List (List ℕ)) (v : Value) (vs : List Value)
    → told s i f ≡ Some v → Aligned s (suc i) fs vs → Aligned s i (f ∷ fs) (v ∷ vs)
aligned_more s i f fs v vs good rest = record {
  fine = λ m bad. rest.fine m (bad_later s i f fs v m good bad);
  forth = λ m w says. elim (at_cases i m f says.0 fs says.1) [
    | inl same ↦
        let is : Some v ≡ Some w = sym good ∙ sym (told_same s i m f says.0 same) ∙ says.2 in
        at_here i m v w vs same.0 (same_some v w is)
    | inr later ↦ at_later i m v w vs (rest.forth m w (says.0, later, says.2))
  ];
  back = λ m w at. elim (at_cases i m v w vs at) [
    | inl same ↦
        let is : told s m f ≡ Some w = told_same s i m f f (same.0, refl) ∙ good ∙ ap Some same.1 in
        (f, at_here i m f f fs same.0 refl, is)
    | inr later ↦
        let says : Says s (suc i) fs m w = rest.back m w later in
        (says.0, at_later i m f says.0 fs says.1, says.2)
  ];
  long = ap suc rest.long;
}

pub formed_ok : (s : Sort) (line i : ℕ) (fs : List (List ℕ)) (vs : List Value)
    → formed s line i fs ≡ Ok vs → Aligned s i fs vs
formed_ok s line i [] vs p =
    subst (Aligned s i []) (same_ok [] vs p) (record {
      fine = λ m bad. at_nothing i m bad.0 bad.1;
      forth = λ m v says. absurd (at_nothing i m says.0 says.1);
      back = λ m v at. absurd (at_nothing i m v at);
      long = refl;
    })
formed_ok s line i (f ∷ fs) vs p =
    let parts = first_of_ok (at_field Form line i) (told s i f) (formed s line (suc i) fs) vs p in
    let rest = formed_ok s line (suc i) fs parts.1 parts.4 in
    subst (Aligned s i (f ∷ fs)) (sym parts.2) (aligned_more s i f fs parts.0 parts.1 parts.3 rest)
