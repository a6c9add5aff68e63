-- The values of a line, and the text after its key. Assumes nothing.
use Rattle.std.proofs.Common.{◌≡◌, ℕ, ◌≤◌, Bool, true, false, cond, leb, List, [], ◌∷◌, map, length, drop, Some, None, Ok, Err, Option, Result, sym, refl, ap, ◌∙◌, subst, arith}
use Rattle.std.proofs.lemmas.List.{length-map}
use Rattle.std.proofs.lemmas.Bool.{cond-true, and_from, and_parts, le-leb, leb-true, false≢true}
use Rattle.rules.specs.declared.Kind.TheVariants.{Options, Gaps, Faces}
use Rattle.fields.specs.Cuts.{fields}
use Rattle.fields.specs.Faults.{at_field}
use Rattle.fields.specs.Formed.{formed, first_outside, first_unrisen, without, ranged, ordered, counted, in_line, values_of}
use Rattle.fields.specs.Layout.{fewest, most, ends_in_set}
use Rattle.fields.specs.Steps.{◌>>=◌}
use Rattle.fields.specs.declared.fault.FieldFault.{FieldFault}
use Rattle.fields.specs.declared.fault.Flaw.{Flaw}
use Rattle.fields.specs.declared.fault.Flaw.TheVariants.{Range, Order}
use Rattle.fields.specs.declared.fault.LineFault.{LineFault}
use Rattle.fields.specs.declared.fault.LineFault.TheVariants.{Count, Field}
use Rattle.fields.specs.declared.layout.Sort.{Sort}
use Rattle.fields.specs.declared.layout.Sort.TheVariants.{Header, Rule}
use Rattle.fields.specs.declared.value.Value.{Value}
use Rattle.fields.proofs.Commas.{commas, fields_commas, commas_fields}
use Rattle.fields.proofs.Outcomes.{err_no_ok, then_ok, mapped_ok, cond_ok, same_ok}
use Rattle.fields.proofs.Placed.{Placed, formed_spelled, formed_says, placed_inside, placed_free}
use Rattle.fields.proofs.Spelling.{spelled}

-- values of a line that passes COUNT, FORM, RANGE and ORDER
pub record Valued (s : Sort) (requests : ℕ) (vs : List Value) : Type 0 where
  pub count : (fewest s ≤ length vs) × (length vs ≤ most s)
  pub placed : Placed s requests 1 vs
  pub order : ends_in_set s ≡ true → first_unrisen None 3 (drop 2 vs) ≡ None

pub without_ok : (w : Flaw) (line : ℕ) (o : Option ℕ) (u : Unit {0}) → without w line o ≡ Ok u → o ≡ None
without_ok w line None u p = refl
without_ok w line (Some i) u p = absurd (err_no_ok (at_field w line i) u p)

pub ordered_ok : (b : Bool) (line : ℕ) (o : Option ℕ) (u : Unit {0}) → cond b (without Order line o) (Ok tt) ≡ Ok u → b ≡ true → o ≡ None
ordered_ok true line o u p is = without_ok Order line o u p
ordered_ok false line o u p is = absurd (false≢true is)

ordered_when : (b : Bool) (line : ℕ) (o : Option ℕ) → (b ≡ true → o ≡ None) → cond b (without Order line o) (Ok tt) ≡ Ok tt
ordered_when true line o rises = ap (without Order line) (rises refl)
ordered_when false line o rises = refl

-- RANGE and ORDER, after FORM
abbrev pub checked : Sort → (requests line : ℕ) → List Value → Result (List Value) FieldFault
checked s requests line vs = ranged s requests line vs >>= λ _. ordered s line vs >>= λ _. Ok vs

-- `values_of` from the fields on
abbrev values_in : Sort → (requests line : ℕ) → List (List ℕ) → Result (List Value) LineFault
values_in s requests line fs = cond (counted s (length fs)) (in_line (formed s line 1 fs >>= checked s requests line)) (Err (Count line))

fewest_some : (s : Sort) → 1 ≤ fewest s
fewest_some (Header h) = omega arith
fewest_some (Rule Options) = omega arith
fewest_some (Rule Gaps) = omega arith
fewest_some (Rule Faces) = omega arith

fields_spelled : (s : Sort) (requests : ℕ) (vs : List Value) → 1 ≤ length vs → Placed s requests 1 vs → fields (commas (map spelled vs)) ≡ map spelled vs
fields_spelled s requests [] some placed = absurd (omega arith)
fields_spelled s requests (v ∷ vs) some placed = fields_commas (spelled v) (map spelled vs) (placed_free s requests 1 (v ∷ vs) placed).0

-- a line with as many fields as it may have, of which none is at fault
pub without_fault : (s : Sort) (requests line : ℕ) (fs : List (List ℕ)) (vs : List Value) → fewest s ≤ length fs → length fs ≤ most s → formed s line 1 fs ≡ Ok vs → ranged s requests line vs ≡ Ok tt → ordered s line vs ≡ Ok tt → values_in s requests line fs ≡ Ok vs
without_fault s requests line fs vs low high good fine also =
    cond-true _ _ _ (and_from _ _ (le-leb _ _ low) (le-leb _ _ high))
    ∙ ap (λ r. in_line (r >>= checked s requests line)) good
    ∙ ap (λ (r : Result (Unit {0}) FieldFault). in_line (r >>= λ _. ordered s line vs >>= λ _. Ok vs)) fine
    ∙ ap (λ (r : Result (Unit {0}) FieldFault). in_line (r >>= λ _. Ok vs)) also

pub values_of_spelled : (s : Sort) (requests line : ℕ) (vs : List Value) → Valued s requests vs → values_of s requests line (commas (map spelled vs)) ≡ Ok vs
values_of_spelled s requests line vs h =
    let value = commas (map spelled vs) in
    let some : 1 ≤ length vs = omega (arith, h.count.0, fewest_some s) in
    let same : fields value ≡ map spelled vs = fields_spelled s requests vs some h.placed in
    let many : length vs ≡ length (fields value) = sym (ap length same ∙ length-map vs spelled) in
    without_fault s requests line (fields value) vs (subst (λ k. fewest s ≤ k) many h.count.0) (subst (λ k. k ≤ most s) many h.count.1)
    (ap (formed s line 1) same ∙ formed_spelled s requests line 1 vs h.placed)
    (ap (without Range line) (placed_inside s requests 1 vs h.placed))
    (ordered_when (ends_in_set s) line (first_unrisen None 3 (drop 2 vs)) h.order)

-- what passes is spelled by the fields
values_in_ok : (s : Sort) (requests line : ℕ) (fs : List (List ℕ)) (vs : List Value) → values_in s requests line fs ≡ Ok vs → Valued s requests vs × (fs ≡ map spelled vs)
values_in_ok s requests line fs vs p =
    let a = cond_ok (counted s (length fs)) (in_line (formed s line 1 fs >>= checked s requests line)) (Count line) vs p in
    let b = mapped_ok Field (formed s line 1 fs >>= checked s requests line) vs a.1 in
    let c = then_ok (formed s line 1 fs) (checked s requests line) vs b in
    let d = then_ok (ranged s requests line c.0) (λ _. ordered s line c.0 >>= λ _. Ok c.0) vs c.2 in
    let e = then_ok (ordered s line c.0) (λ _. Ok c.0) vs d.2 in
    let same : c.0 ≡ vs = same_ok c.0 vs e.2 in
    let says = formed_says s requests line 1 fs c.0 c.1 (without_ok Range line (first_outside s requests 1 c.0) d.0 d.1) in
    let many : length fs ≡ length c.0 = ap length says.1 ∙ length-map c.0 spelled in
    let count = and_parts (leb (fewest s) (length fs)) (leb (length fs) (most s)) a.0 in
    let low : fewest s ≤ length fs = leb-true (fewest s) (length fs) count.0 in
    let high : length fs ≤ most s = leb-true (length fs) (most s) count.1 in
    subst (λ (us : List Value). Valued s requests us × (fs ≡ map spelled us)) same
    (record { count = (subst (λ k. fewest s ≤ k) many low, subst (λ k. k ≤ most s) many high); placed = says.0; order = ordered_ok (ends_in_set s) line (first_unrisen None 3 (drop 2 c.0)) e.0 e.1 }, says.1)

pub values_of_ok : (s : Sort) (requests line : ℕ) (v : List ℕ) (vs : List Value) → values_of s requests line v ≡ Ok vs → Valued s requests vs × (v ≡ commas (map spelled vs))
values_of_ok s requests line v vs p = let h = values_in_ok s requests line (fields v) vs p in (h.0, sym (commas_fields v) ∙ ap commas h.1)
