-- First faults: there is one at most, and a line whose step fails has one. Assumes nothing.
use Rattle.std.proofs.Common.{◌≡◌, ℕ, ◌<◌, List, Some, None, Ok, Err, Option, Result, ◌⊎◌, sym, refl, ap, ◌∙◌, subst, inl, inr, arith}
use Rattle.std.specs.Option.{option_map}
use Rattle.fields.specs.Faults.{told_line}
use Rattle.fields.specs.Steps.{◌>>=◌, or_fault}
use Rattle.fields.specs.declared.fault.LineFault.{LineFault}
use Rattle.fields.specs.declared.fault.LineFault.TheVariants.{Cut, Key}
use Rattle.fields.proofs.Outcomes.{none_no_some, some_no_none, same_some, then_ok, or_fault_ok, same_ok}
use Rattle.fields.specs.FirstOf.{IsFirst}

-- faults by number and field
abbrev pub Faults : Type 1
Faults = (number field : ℕ) → Type 0

-- two firsts of the same faults are the same
pub one_first : (Has : Faults) (n f m g : ℕ) → IsFirst Has n f → IsFirst Has m g
    → (n ≡ m) × (f ≡ g)
one_first Has n f m g a b =
    let not_below : n < m → ⊥ = λ lt. b.least n f lt a.has in
    let not_above : m < n → ⊥ = λ lt. a.least m g lt b.has in
    let same : n ≡ m = omega arith in
    let here : Has n g = subst (λ k. Has k g) (sym same) b.has in
    let there : Has m f = subst (λ k. Has k f) same a.has in
    let not_before : f < g → ⊥ = λ lt. b.first f lt there in
    let not_after : g < f → ⊥ = λ lt. a.first g lt here in
    (same, omega arith)

-- what the step of a line says of its faults
abbrev pub Verdict : {C : Type 0} (line : ℕ) (Has : Faults) → Result C LineFault → Type 0
Verdict line Has (Ok c) = (number field : ℕ) → Has number field → ⊥
Verdict line Has (Err e) =
    (number field : ℕ) × (told_line e ≡ (number, line, field)) × IsFirst Has number field

pub verdict_then : {B C : Type 0} (line : ℕ) (Has : Faults) (give : B → C)
    (r : Result B LineFault) → Verdict line Has r → Verdict line Has (r >>= λ b. Ok (give b))
verdict_then line Has give (Ok b) v = v
verdict_then line Has give (Err e) v = v

-- the faults of a line that is told apart by `parse`, and whose value has the faults `Bad`
abbrev pub HasIn : {A : Type 0} (parse : List ℕ → Option A) (Bad : A → Faults)
    → Option (List ℕ) → Faults
HasIn parse Bad o number field =
    ((number ≡ 2) × (field ≡ 0) × (o ≡ None))
    ⊎ ((number ≡ 3) × (field ≡ 0) × (l : List ℕ) × (o ≡ Some l) × (parse l ≡ None))
    ⊎ ((l : List ℕ) × (o ≡ Some l) × ((a : _) × (parse l ≡ Some a) × Bad a number field))

-- CUT, KEY and what the value says
abbrev pub step : {A B C : Type 0} (parse : List ℕ → Option A) (read : A → Result B LineFault)
    (give : B → List ℕ → C) (line : ℕ) → Option (List ℕ × List ℕ) → Result C LineFault
step parse read give line o =
    or_fault (Cut line) o >>= λ p.
    (or_fault (Key line) (parse p.0) >>= read) >>= λ b.
    Ok (give b p.1)

only_value : {A : Type 0} (parse : List ℕ → Option A) (Bad : A → Faults) (l : List ℕ) (a : A)
    → parse l ≡ Some a → (n f : ℕ) → HasIn parse Bad (Some l) n f → Bad a n f
only_value parse Bad l a is n f (inl h) = absurd (some_no_none l h.2)
only_value parse Bad l a is n f (inr (inl h)) =
    absurd (some_no_none a (sym is ∙ ap parse (same_some l h.2 h.3) ∙ h.4))
only_value parse Bad l a is n f (inr (inr h)) =
    let same = sym h.2.1 ∙ sym (ap parse (same_some l h.0 h.1)) ∙ is in
    subst (λ b. Bad b n f) (same_some h.2.0 a same) h.2.2

no_value : {A : Type 0} (parse : List ℕ → Option A) (Bad : A → Faults) (l : List ℕ)
    → parse l ≡ None → (n f : ℕ) → HasIn parse Bad (Some l) n f → n ≡ 3
no_value parse Bad l is n f (inl h) = absurd (some_no_none l h.2)
no_value parse Bad l is n f (inr (inl h)) = h.0
no_value parse Bad l is n f (inr (inr h)) =
    absurd (none_no_some h.2.0 (sym is ∙ ap parse (same_some l h.0 h.1) ∙ h.2.1))

no_line : {A : Type 0} (parse : List ℕ → Option A) (Bad : A → Faults) (n f : ℕ)
    → HasIn parse Bad None n f → n ≡ 2
no_line parse Bad n f (inl h) = h.0
no_line parse Bad n f (inr (inl h)) = absurd (none_no_some h.2 h.3)
no_line parse Bad n f (inr (inr h)) = absurd (none_no_some h.0 h.1)

pub verdict : {A B C : Type 0} (parse : List ℕ → Option A) (Bad : A → Faults)
    (read : A → Result B LineFault) (give : B → List ℕ → C) (line : ℕ)
    → ((a : A) → Verdict line (Bad a) (read a)) → (o : Option (List ℕ × List ℕ))
    → Verdict line (HasIn parse Bad (option_map (λ p. p.0) o)) (step parse read give line o)
verdict parse Bad read give line each None = (
  2,
  0,
  refl,
  record {
    has = inl (refl, refl, refl);
    least = λ n f lt h. let two : n ≡ 2 = no_line parse Bad n f h in omega arith;
    first = λ f lt h. omega arith;
  },
)
verdict parse Bad read give line each (Some p) = by_key (parse p.0) refl
  where
    by_value : (a : _) → parse p.0 ≡ Some a → (r : Result _ LineFault) → Verdict line (Bad a) r
        → Verdict line (HasIn parse Bad (Some p.0)) (r >>= λ b. Ok (give b p.1))
    by_value a is (Ok b) v = λ n f h. v n f (only_value parse Bad p.0 a is n f h)
    by_value a is (Err e) v = (
      v.0,
      v.1,
      v.2,
      record {
        has = inr (inr (p.0, refl, (a, is, v.3.has)));
        least = λ n f lt h. v.3.least n f lt (only_value parse Bad p.0 a is n f h);
        first = λ f lt h. v.3.first f lt (only_value parse Bad p.0 a is v.0 f h);
      },
    )

    by_key : (o : Option _) → parse p.0 ≡ o
        → Verdict line (HasIn parse Bad (Some p.0))
        ((or_fault (Key line) o >>= read) >>= λ b. Ok (give b p.1))
    by_key None is = (
      3,
      0,
      refl,
      record {
        has = inr (inl (refl, refl, p.0, refl, is));
        least = λ n f lt h. let three : n ≡ 3 = no_value parse Bad p.0 is n f h in omega arith;
        first = λ f lt h. omega arith;
      },
    )
    by_key (Some a) is = by_value a is (read a) (each a)

-- where a step goes well, the text goes on behind the line
pub step_rest : {A B C : Type 0} (parse : List ℕ → Option A) (read : A → Result B LineFault)
    (give : B → List ℕ → C) (line : ℕ) (o : Option (List ℕ × List ℕ)) (c : C)
    → step parse read give line o ≡ Ok c
    → (p : List ℕ × List ℕ) × (a : A) × (b : B) × (o ≡ Some p) × (parse p.0 ≡ Some a)
    × (read a ≡ Ok b) × (give b p.1 ≡ c)
step_rest parse read give line o c e =
    let rest = λ (p : List ℕ × List ℕ).
    (or_fault (Key line) (parse p.0) >>= read) >>= λ b. Ok (give b p.1) in
    let cutting = then_ok (or_fault (Cut line) o) rest c e in
    let p = cutting.0 in
    let keyed = or_fault (Key line) (parse p.0) in
    let reading = then_ok (keyed >>= read) (λ b. Ok (give b p.1)) c cutting.2 in
    let b = reading.0 in
    let parsing = then_ok keyed read b reading.1 in
    let a = parsing.0 in
    let is = or_fault_ok (Cut line) o p cutting.1 in
    let says = or_fault_ok (Key line) (parse p.0) a parsing.1 in
    (p, a, b, is, says, parsing.2, same_ok (give b p.1) c reading.2)
