-- What `values_of` refuses has the fault that is told, which is the first; what it takes has none.
-- Assumes nothing.
use Rattle.std.proofs.Common.{◌≡◌, ℕ, suc, ◌-◌, ◌≤◌, Bool, true, false, cond, leb, List, length, drop, Some, None, Ok, Err, Option, sym, refl, ap, ◌∙◌, subst, inl, inr, arith}
use Rattle.std.proofs.lemmas.Bool.{and_parts, and_cases, leb-true, leb-false}
use Rattle.std.specs.List.{slice_get}
use Rattle.fields.specs.Cuts.{fields}
use Rattle.fields.specs.Faults.{flaw_number, told_line, at_field}
use Rattle.fields.specs.Flaws.{HasWrongCount, HasWrongForm, HasWrongRange, HasWrongOrder, HasFlaw, IsFirstFlaw, TellsFirst, IsFaultless, RefusedFirst, TakenFaultless, FlawLaws}
use Rattle.fields.specs.Formed.{formed, first_outside, first_unrisen, without, ranged, ordered, counted}
use Rattle.fields.specs.Layout.{fewest, most, ends_in_set}
use Rattle.fields.specs.Steps.{◌>>=◌}
use Rattle.fields.specs.declared.fault.FieldFault.{FieldFault}
use Rattle.fields.specs.declared.fault.Flaw.{Flaw}
use Rattle.fields.specs.declared.fault.Flaw.TheVariants.{Form, Range, Order}
use Rattle.fields.specs.declared.fault.LineFault.{LineFault}
use Rattle.fields.specs.declared.fault.LineFault.TheVariants.{Count, Field}
use Rattle.fields.specs.declared.layout.Sort.{Sort}
use Rattle.fields.specs.declared.value.Value.{Value}
use Rattle.fields.proofs.FormFlaws.{Aligned, formed_err, formed_ok}
use Rattle.fields.proofs.OrderFlaws.{LateUnrisen, late_none, late_some}
use Rattle.fields.proofs.Outcomes.{err_no_ok, same_err, then_ok, then_err, mapped_ok, mapped_err, cond_ok, cond_err, same_ok}
use Rattle.fields.proofs.RangeFlaws.{Outside, outside_none, outside_some}
use Rattle.fields.proofs.Standing.{IsFirst}
use Rattle.fields.proofs.Valued.{checked, without_ok, ordered_ok}

without_err : (w : Flaw) (line : ℕ) (o : Option ℕ) (e : FieldFault) → without w line o ≡ Err e
    → (m : ℕ) × (o ≡ Some m) × (e ≡ at_field w line m)
without_err w line None e p = absurd (err_no_ok e tt (sym p))
without_err w line (Some m) e p = (m, refl, sym (same_err (at_field w line m) e p))

ordered_err : (b : Bool) (line : ℕ) (o : Option ℕ) (e : FieldFault)
    → cond b (without Order line o) (Ok tt) ≡ Err e
    → (m : ℕ) × (b ≡ true) × (o ≡ Some m) × (e ≡ at_field Order line m)
ordered_err true line o e p =
    let at = without_err Order line o e p in
    (at.0, refl, at.1, at.2)
ordered_err false line o e p = absurd (err_no_ok e tt (sym p))

right_count : (s : Sort) (value : List ℕ) → counted s (length (fields value)) ≡ true
    → HasWrongCount s value → ⊥
right_count s value right wrong =
    let n = length (fields value) in
    let parts = and_parts (leb (fewest s) n) (leb n (most s)) right in
    let low : fewest s ≤ n = leb-true (fewest s) n parts.0 in
    let high : n ≤ most s = leb-true n (most s) parts.1 in
    elim wrong [ inl few ↦ omega arith | inr many ↦ omega arith ]

wrong_count : (s : Sort) (value : List ℕ) → counted s (length (fields value)) ≡ false
    → HasWrongCount s value
wrong_count s value wrong =
    let n = length (fields value) in
    elim (and_cases (leb (fewest s) n) (leb n (most s)) wrong) [
      | inl low ↦ inl (leb-false (fewest s) n low)
      | inr high ↦ inr (leb-false n (most s) high)
    ]

module _ (s : Sort) (requests : ℕ) (value : List ℕ) where
  -- a fault is one of the four
  not_flaw : (n f : ℕ) → (n ≡ 4 → HasWrongCount s value → ⊥)
      → (n ≡ 5 → HasWrongForm s value f → ⊥) → (n ≡ 6 → HasWrongRange s requests value f → ⊥)
      → (n ≡ 7 → HasWrongOrder s value f → ⊥) → HasFlaw s requests value n f → ⊥
  not_flaw n f count form range order flaw = elim flaw [
    | inl c ↦ count c.0 c.2
    | inr (inl c) ↦ form c.0 c.1
    | inr (inr (inl c)) ↦ range c.0 c.1
    | inr (inr (inr c)) ↦ order c.0 c.1
  ]

  count_first : HasWrongCount s value → IsFirstFlaw s requests value 4 0
  count_first wrong = record {
    has = inl (refl, refl, wrong);
    least = λ n f less.
        not_flaw n f (λ e h. omega arith) (λ e h. omega arith) (λ e h. omega arith)
        (λ e h. omega arith);
    first = λ f less flaw. omega arith;
  }

  module _ (right : HasWrongCount s value → ⊥) where
    form_first : (m : ℕ) → IsFirst (HasWrongForm s value) m → IsFirstFlaw s requests value 5 m
    form_first m is = record {
      has = inr (inl (refl, is.0));
      least = λ n f less.
          not_flaw n f (λ e h. right h) (λ e h. omega arith) (λ e h. omega arith)
          (λ e h. omega arith);
      first = λ f less.
          not_flaw 5 f (λ e h. omega arith) (λ e h. is.1 f less h) (λ e h. omega arith)
          (λ e h. omega arith);
    }

    module _ (vs : List Value) (says : Aligned s 1 (fields value) vs) where
      outside : (m : ℕ) → HasWrongRange s requests value m → Outside s requests 1 vs m
      outside m wrong = (wrong.0, says.forth m wrong.0 wrong.1, wrong.2)

      range_first : (m : ℕ) → IsFirst (Outside s requests 1 vs) m
          → IsFirstFlaw s requests value 6 m
      range_first m is =
          let out : Outside s requests 1 vs m = is.0 in
          record {
            has = inr (inr (inl (refl, (out.0, says.back m out.0 out.1, out.2))));
            least = λ n f less.
                not_flaw n f (λ e h. right h) (λ e h. says.fine f h) (λ e h. omega arith)
                (λ e h. omega arith);
            first = λ f less.
                not_flaw 6 f (λ e h. omega arith) (λ e h. omega arith)
                (λ e h. is.1 f less (outside f h)) (λ e h. omega arith);
          }

      unrisen : (m : ℕ) → HasWrongOrder s value m → LateUnrisen vs m
      unrisen m wrong =
          let one = says.forth (m - 1) wrong.2 wrong.4 in
          let two = says.forth m wrong.3 wrong.5 in
          (wrong.1, wrong.2, wrong.3, one, two, wrong.6)

      module _ (inside : (m : ℕ) → Outside s requests 1 vs m → ⊥) where
        order_first : (m : ℕ) → ends_in_set s ≡ true → IsFirst (LateUnrisen vs) m
            → IsFirstFlaw s requests value 7 m
        order_first m set is =
            let late : LateUnrisen vs m = is.0 in
            let one = says.back (m - 1) late.1 late.3 in
            let two = says.back m late.2 late.4 in
            let wrong : HasWrongOrder s value m =
            (set, late.0, late.1, late.2, one, two, late.5) in
            record {
              has = inr (inr (inr (refl, wrong)));
              least = λ n f less.
                  not_flaw n f (λ e h. right h) (λ e h. says.fine f h)
                  (λ e h. inside f (outside f h)) (λ e h. omega arith);
              first = λ f less.
                  not_flaw 7 f (λ e h. omega arith) (λ e h. omega arith) (λ e h. omega arith)
                  (λ e h. is.1 f less (unrisen f h));
            }

        faultless : (ends_in_set s ≡ true → (m : ℕ) → LateUnrisen vs m → ⊥)
            → (n f : ℕ) → HasFlaw s requests value n f → ⊥
        faultless rises n f =
            not_flaw n f (λ e h. right h) (λ e h. says.fine f h)
            (λ e h. inside f (outside f h)) (λ e h. rises h.0 f (unrisen f h))

  -- a fault w at field m, and the first, is told
  tells : (line : ℕ) (e : LineFault) (d : FieldFault) (w : Flaw) (m : ℕ) → e ≡ Field d
      → d ≡ at_field w line m → IsFirstFlaw s requests value (flaw_number w) m
      → TellsFirst s requests line value e
  tells line e d w m whole is first =
      (flaw_number w, m, ap told_line (whole ∙ ap Field is), first)

module _ (s : Sort) (requests line : ℕ) (value : List ℕ) (e : LineFault) (d : FieldFault) where
  -- ORDER, or nothing
  refused_order : (HasWrongCount s value → ⊥) → (vs : List Value) → Aligned s 1 (fields value) vs
      → ((m : ℕ) → Outside s requests 1 vs m → ⊥) → e ≡ Field d
      → (ordered s line vs >>= λ _. Ok vs) ≡ Err d → TellsFirst s requests line value e
  refused_order right vs says inside whole p =
      let late = first_unrisen None 3 (drop 2 vs) in
      elim (then_err (ordered s line vs) (λ _. Ok vs) d p) [
        | inl order ↦
            let at = ordered_err (ends_in_set s) line late d order in
            let first = late_some vs at.0 at.2 in
            tells s requests value line e d Order at.0 whole at.3
            (order_first s requests value right vs says inside at.0 at.1 first)
        | inr good ↦ absurd (err_no_ok d vs (sym good.2))
      ]

  -- RANGE, or later
  refused_range : (HasWrongCount s value → ⊥) → (vs : List Value) → Aligned s 1 (fields value) vs
      → e ≡ Field d
      → (ranged s requests line vs >>= λ _. ordered s line vs >>= λ _. Ok vs) ≡ Err d
      → TellsFirst s requests line value e
  refused_range right vs says whole p =
      let far = first_outside s requests 1 vs in
      elim (then_err (ranged s requests line vs) _ d p) [
        | inl range ↦
            let at = without_err Range line far d range in
            let first = outside_some s requests 1 vs at.0 at.1 in
            tells s requests value line e d Range at.0 whole at.2
            (range_first s requests value right vs says at.0 first)
        | inr fine ↦
            let inside = outside_none s requests 1 vs (without_ok Range line far fine.0 fine.1) in
            refused_order right vs says inside whole fine.2
      ]

  -- FORM, or later
  refused_form : (HasWrongCount s value → ⊥) → e ≡ Field d
      → (formed s line 1 (fields value) >>= checked s requests line) ≡ Err d
      → TellsFirst s requests line value e
  refused_form right whole p =
      let fs = fields value in
      elim (then_err (formed s line 1 fs) (checked s requests line) d p) [
        | inl form ↦
            let bad = formed_err s line 1 fs d form in
            tells s requests value line e d Form bad.0 whole bad.1
            (form_first s requests value right bad.0 bad.2)
        | inr told ↦
            refused_range right told.0 (formed_ok s line 1 fs told.0 told.1) whole told.2
      ]

pub refused_first : RefusedFirst
refused_first s requests line value e p =
    elim (cond_err (counted s (length (fields value))) _ (Count line) e p) [
      | inl count ↦
          let wrong = wrong_count s value count.0 in
          (4, 0, ap told_line count.1, count_first s requests value wrong)
      | inr more ↦
          let d = mapped_err Field _ e more.1 in
          refused_form s requests line value e d.0 (right_count s value more.0) d.2 d.1
    ]

pub taken_faultless : TakenFaultless
taken_faultless s requests line value vs p =
    let fs = fields value in
    let a = cond_ok (counted s (length fs)) _ (Count line) vs p in
    let b = mapped_ok Field _ vs a.1 in
    let c = then_ok (formed s line 1 fs) (checked s requests line) vs b in
    let us = c.0 in
    let d = then_ok (ranged s requests line us) _ vs c.2 in
    let e = then_ok (ordered s line us) _ vs d.2 in
    let says = formed_ok s line 1 fs us c.1 in
    let far = without_ok Range line (first_outside s requests 1 us) d.0 d.1 in
    let late = ordered_ok (ends_in_set s) line (first_unrisen None 3 (drop 2 us)) e.0 e.1 in
    let inside = outside_none s requests 1 us far in
    let rises = λ (set : ends_in_set s ≡ true). late_none us (late set) in
    subst (IsFaultless s requests value) (same_ok us vs e.2) (
      faultless s requests value (right_count s value a.0) us says inside rises,
      λ i v at.
          let same : suc i - 1 ≡ i = omega arith in
          says.back (suc i) v (omega arith, ap (slice_get us) same ∙ at),
      says.long,
    )

pub flaw_laws : FlawLaws
flaw_laws = (refused_first, taken_faultless)
