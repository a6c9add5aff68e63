-- Values that fit their columns, and the fields that say them. Assumes nothing.
use Rattle.std.proofs.Common.{◌≡◌, ℕ, suc, ◌*◌, ◌≤◌, Bool, true, false, cond, eqb, List, [], ◌∷◌, map, length, Some, None, Ok, Err, Option, Result, sym, refl, ◌∙◌, subst, ap₂, arith, length-append}
use Rattle.std.proofs.lemmas.Bool.{cond-true}
use Rattle.std.specs.List.{AllByRecursion}
use Rattle.fields.specs.Faults.{at_field}
use Rattle.fields.specs.Formed.{first_of, formed, first_outside}
use Rattle.fields.specs.Layout.{rule_column, numbers, column, inside}
use Rattle.fields.specs.Numbers.{said}
use Rattle.fields.specs.declared.fault.FieldFault.{FieldFault}
use Rattle.fields.specs.declared.fault.Flaw.TheVariants.{Form}
use Rattle.fields.specs.declared.layout.Column.{Column}
use Rattle.fields.specs.declared.layout.Sort.{Sort}
use Rattle.fields.specs.declared.layout.Sort.TheVariants.{Header, Rule}
use Rattle.fields.specs.declared.layout.Style.{Style}
use Rattle.fields.specs.declared.value.Value.{Value}
use Rattle.fields.proofs.Commas.{tailed, commas}
use Rattle.fields.proofs.Outcomes.{err_no_ok, cond_none, same_ok}
use Rattle.fields.proofs.Spelling.{spelled, Sayable, said_spelled, spelled_said, spelled_free, spelled_short}
use Rattle.fields.proofs.Splits.{Free}

-- a value that can be said in the style of its column, and lies in its range
abbrev pub Fits : Column → Value → Type 0
Fits c v = Sayable c.style v × (inside c v ≡ true)

-- values that fit the columns of a line from field i on
abbrev pub Placed : Sort → (requests i : ℕ) → List Value → Type 0
Placed s requests i [] = Unit {0}
Placed s requests i (v ∷ vs) = Fits (column s requests i) v × Placed s requests (suc i) vs

-- how a field is written does not depend on the number of requests
pub style_same : (s : Sort) (requests i : ℕ) → (column s requests i).style ≡ (column s 0 i).style
style_same (Header h) requests i = refl
style_same (Rule k) requests i = go (eqb i 1)
  where
    go : (t : Bool) → (cond t (numbers 0 requests) (rule_column k i)).style ≡ (cond t (numbers 0 0) (rule_column k i)).style
    go true = refl
    go false = refl

-- FORM
pub formed_spelled : (s : Sort) (requests line i : ℕ) (vs : List Value) → Placed s requests i vs → formed s line i (map spelled vs) ≡ Ok vs
formed_spelled s requests line i [] placed = refl
formed_spelled s requests line i (v ∷ vs) placed =
    let sayable : Sayable (column s 0 i).style v = subst (λ (t : Style). Sayable t v) (style_same s requests i) placed.0.0 in
    ap₂ (first_of (at_field Form line i)) (said_spelled (column s 0 i).style v sayable) (formed_spelled s requests line (suc i) vs placed.1)

pub first_of_ok : (e : FieldFault) (o : Option Value) (r : Result (List Value) FieldFault) (vs : List Value) → first_of e o r ≡ Ok vs → (v : Value) × (us : List Value) × (vs ≡ v ∷ us) × (o ≡ Some v) × (r ≡ Ok us)
first_of_ok e None r vs p = absurd (err_no_ok e vs p)
first_of_ok e (Some v) (Ok us) vs p = (v, us, sym (same_ok (v ∷ us) vs p), refl, refl)
first_of_ok e (Some v) (Err d) vs p = absurd (err_no_ok d vs p)

-- values in their ranges, which the fields fs say
abbrev Says : Sort → (requests i : ℕ) → List (List ℕ) → List Value → Type 0
Says s requests i fs vs = Placed s requests i vs × (fs ≡ map spelled vs)

pub formed_says : (s : Sort) (requests line i : ℕ) (fs : List (List ℕ)) (vs : List Value) → formed s line i fs ≡ Ok vs → first_outside s requests i vs ≡ None → Says s requests i fs vs
formed_says s requests line i [] vs p q = subst (Says s requests i []) (same_ok [] vs p) (tt, refl)
formed_says s requests line i (f ∷ fs) vs p q =
    let parts = first_of_ok (at_field Form line i) (said (column s 0 i).style f) (formed s line (suc i) fs) vs p in
    go parts.0 parts.1 parts.2 parts.3 (formed_says s requests line (suc i) fs parts.1 parts.4)
  where
    go : (v : Value) (us : List Value) → vs ≡ v ∷ us → said (column s 0 i).style f ≡ Some v → (first_outside s requests (suc i) us ≡ None → Says s requests (suc i) fs us) → Says s requests i (f ∷ fs) vs
    go v us e says more =
        let said-so = spelled_said (column s 0 i).style f v says in
        let ranges = cond_none (inside (column s requests i) v) (first_outside s requests (suc i) us) i (subst (λ (ws : List Value). first_outside s requests i ws ≡ None) e q) in
        let rest = more ranges.1 in
        let sayable : Sayable (column s requests i).style v = subst (λ (t : Style). Sayable t v) (sym (style_same s requests i)) said-so.0 in
        subst (Says s requests i (f ∷ fs)) (sym e) (((sayable, ranges.0), rest.0), ap₂ ◌∷◌ said-so.1 rest.1)

-- RANGE
pub placed_inside : (s : Sort) (requests i : ℕ) (vs : List Value) → Placed s requests i vs → first_outside s requests i vs ≡ None
placed_inside s requests i [] placed = refl
placed_inside s requests i (v ∷ vs) placed = cond-true (inside (column s requests i) v) (first_outside s requests (suc i) vs) (Some i) placed.0.1 ∙ placed_inside s requests (suc i) vs placed.1

-- neither a comma nor an end of line stands in such a field
both_free : (bs : List ℕ) → AllByRecursion (λ b. (b ≡ 44 → ⊥) × (b ≡ 10 → ⊥)) bs → Free 44 bs × Free 10 bs
both_free [] free = (tt, tt)
both_free (b ∷ bs) free = let more = both_free bs free.1 in ((free.0.0, more.0), (free.0.1, more.1))

pub placed_free : (s : Sort) (requests i : ℕ) (vs : List Value) → Placed s requests i vs → AllByRecursion (Free 44) (map spelled vs) × AllByRecursion (Free 10) (map spelled vs)
placed_free s requests i [] placed = (tt, tt)
placed_free s requests i (v ∷ vs) placed =
    let here = both_free (spelled v) (spelled_free (column s requests i).style v placed.0.0) in
    let more = placed_free s requests (suc i) vs placed.1 in
    ((here.0, more.0), (here.1, more.1))

-- at most eight bytes and a comma for each field
tailed_short : (s : Sort) (requests i : ℕ) (vs : List Value) → Placed s requests i vs → length (tailed (map spelled vs)) ≤ 9 * length vs
tailed_short s requests i [] placed = omega arith
tailed_short s requests i (v ∷ vs) placed =
    let here = spelled_short (column s requests i).style v placed.0.0 in
    let more = tailed_short s requests (suc i) vs placed.1 in
    omega (arith, length-append (spelled v) (tailed (map spelled vs)))

pub commas_short : (s : Sort) (requests i : ℕ) (vs : List Value) → Placed s requests i vs → length (commas (map spelled vs)) ≤ 9 * length vs
commas_short s requests i [] placed = omega arith
commas_short s requests i (v ∷ vs) placed =
    let here = spelled_short (column s requests i).style v placed.0.0 in
    let more = tailed_short s requests (suc i) vs placed.1 in
    omega (arith, length-append (spelled v) (tailed (map spelled vs)))
