-- A value and how it is written say the same. Assumes nothing.
use Rattle.std.proofs.Common.{◌≡◌, ℕ, zero, suc, ◌^◌, ◌<◌, ◌≤◌, true, ◌&&◌, eqb, List, [], ◌∷◌, length, get_or, pos, negsuc, nat_abs, Some, None, codes, decimal, Option, sym, refl, ap, ◌∙◌, subst, inl, inr, arith}
use Rattle.std.proofs.lemmas.List.{nil_from_length}
use Rattle.std.proofs.lemmas.Fmt.{decimal_nonempty, decimal-digits_value, digits_decimal, digits_value-decimal}
use Rattle.std.proofs.lemmas.Str.Parse.{tells_all_ascii_digits, not_in_digits, digits_value_short}
use Rattle.std.proofs.lemmas.Bool.{and_left, and_parts, cases_Bool, cond-false, cond-true, eqb-true, ne_eqb}
use Rattle.std.specs.Str.{all_ascii_digits}
use Rattle.std.specs.List.{AllByRecursion}
use Rattle.std.specs.Fmt.{signed_decimal}
use Rattle.fields.specs.declared.layout.Style.{Style}
use Rattle.fields.specs.declared.layout.Style.TheVariants.{Number, Head, Width}
use Rattle.fields.specs.declared.value.Value.{Value}
use Rattle.fields.specs.declared.value.Value.TheVariants.{Dash, Plain, Signed}
use Rattle.fields.specs.Numbers.{number_after, well_written, number, plain, unsigned, negative, head, width, said}
use Rattle.fields.proofs.Outcomes.{none_no_some}
use Rattle.fields.proofs.WellWritten.{own, written_well, number_some, written_decimal}

-- how a value is written
abbrev pub spelled : Value → List ℕ
spelled Dash = codes "-"
spelled (Plain n) = decimal n
spelled (Signed z) = signed_decimal z

-- what a field of this style can say
abbrev pub Sayable : Style → Value → Type 0
Sayable Number Dash = ⊥
Sayable Number (Plain n) = n < 10000000
Sayable Number (Signed z) = ⊥
Sayable Head Dash = Unit {0}
Sayable Head (Plain n) = n < 10000000
Sayable Head (Signed z) = ⊥
Sayable Width Dash = ⊥
Sayable Width (Plain n) = ⊥
Sayable Width (Signed z) = nat_abs z < 10000000

pub number_bound : (ds : List ℕ) (n : ℕ) → number ds ≡ Some n → n < 10000000
number_bound ds n e =
    let w = number_some ds n e in
    omega (arith, digits_value_short own ds 7 w.0.digits w.0.short, w.1)

pub decimal_number : (ds : List ℕ) (n : ℕ) → number ds ≡ Some n → ds ≡ decimal n
decimal_number ds n e =
    let w = number_some ds n e in
    let small : number_after 0 ds < 2 ^ 64 = omega (arith, number_bound ds n e, w.1) in
    sym (decimal-digits_value own ds w.0.digits w.0.some w.0.lead small) ∙ ap decimal w.1

pub number_decimal : (n : ℕ) → n < 10000000 → number (decimal n) ≡ Some n
number_decimal n small =
    cond-true (well_written (decimal n)) (Some (number_after 0 (decimal n))) None (written_well (decimal n) (written_decimal n small))
    ∙ ap Some (digits_value-decimal own n (omega arith))

-- what was read, where a value came of it
plain_some : (o : Option ℕ) (v : Value) → plain o ≡ Some v → (n : ℕ) × (o ≡ Some n) × (Plain n ≡ v)
plain_some None v e = absurd (none_no_some _ e)
plain_some (Some n) v e = (n, refl, cc)

unsigned_some : (o : Option ℕ) (v : Value) → unsigned o ≡ Some v → (n : ℕ) × (o ≡ Some n) × (Signed (pos n) ≡ v)
unsigned_some None v e = absurd (none_no_some _ e)
unsigned_some (Some n) v e = (n, refl, cc)

-- a number but 0 may stand after a `-`
negative_suc : (n : ℕ) → negative (Some (suc n)) ≡ Some (Signed (negsuc n))
negative_suc n = cond-false (eqb (suc n) 0) None (Some (Signed (negsuc n))) (ne_eqb (suc n) 0 (omega arith))

negative_some : (o : Option ℕ) (v : Value) → negative o ≡ Some v → (n : ℕ) × (o ≡ Some (suc n)) × (Signed (negsuc n) ≡ v)
negative_some None v e = absurd (none_no_some _ e)
negative_some (Some zero) v e = absurd (none_no_some _ e)
negative_some (Some (suc n)) v e = (n, refl, cc (negative_suc n))

-- a field that begins with no `-` is read as a number
head_number : (ds : List ℕ) → 0 < length ds → (get_or ds 0 0 ≡ 45 → ⊥) → head ds ≡ plain (number ds)
head_number [] some other = absurd (omega arith)
head_number (b ∷ bs) some other = cond-false (eqb b 45 && eqb (length bs) 0) (Some Dash) (plain (number (b ∷ bs))) (and_left (eqb b 45) (eqb (length bs) 0) (ne_eqb b 45 other))

width_number : (ds : List ℕ) → 0 < length ds → (get_or ds 0 0 ≡ 45 → ⊥) → width ds ≡ unsigned (number ds)
width_number [] some other = absurd (omega arith)
width_number (b ∷ bs) some other = cond-false (eqb b 45) (negative (number bs)) (unsigned (number (b ∷ bs))) (ne_eqb b 45 other)

-- digits begin with no `-`
decimal_no_dash : (n : ℕ) → n < 2 ^ 64 → get_or (decimal n) 0 0 ≡ 45 → ⊥
decimal_no_dash n small = not_in_digits own (decimal n) 45 (digits_decimal own n small) (omega arith) 0 (decimal_nonempty n small)

pub said_spelled : (s : Style) (v : Value) → Sayable s v → said s (spelled v) ≡ Some v
said_spelled Number Dash ok = absurd ok
said_spelled Number (Plain n) ok = ap plain (number_decimal n ok)
said_spelled Number (Signed z) ok = absurd ok
said_spelled Head Dash ok = refl
said_spelled Head (Plain n) ok = head_number (decimal n) (decimal_nonempty n (omega arith)) (decimal_no_dash n (omega arith)) ∙ ap plain (number_decimal n ok)
said_spelled Head (Signed z) ok = absurd ok
said_spelled Width Dash ok = absurd ok
said_spelled Width (Plain n) ok = absurd ok
said_spelled Width (Signed (pos n)) ok = width_number (decimal n) (decimal_nonempty n (omega arith)) (decimal_no_dash n (omega arith)) ∙ ap unsigned (number_decimal n ok)
said_spelled Width (Signed (negsuc n)) ok = ap negative (number_decimal (suc n) ok) ∙ negative_suc n

-- a number that is read can be said, and is written as it was read
said_plain : (s : Style) (f : List ℕ) (v : Value) → ((n : ℕ) → n < 10000000 → Sayable s (Plain n)) → plain (number f) ≡ Some v → Sayable s v × (f ≡ spelled v)
said_plain s f v sayable e =
    let p = plain_some (number f) v e in
    let P : Value → Type 0 = λ u. Sayable s u × (f ≡ spelled u) in
    subst P p.2 (sayable p.0 (number_bound f p.0 p.1), decimal_number f p.0 p.1)

said_head : (f : List ℕ) (v : Value) → head f ≡ Some v → Sayable Head v × (f ≡ spelled v)
said_head [] v e = absurd (none_no_some _ e)
said_head (b ∷ bs) v e = elim (cases_Bool (eqb b 45 && eqb (length bs) 0)) [
  | inl dash ↦
      let tests = and_parts (eqb b 45) (eqb (length bs) 0) dash in
      let is : Some Dash ≡ Some v = sym (cond-true (eqb b 45 && eqb (length bs) 0) (Some Dash) (plain (number (b ∷ bs))) dash) ∙ e in
      let same : Dash ≡ v = cc in
      let dashed : b ≡ 45 = eqb-true b 45 tests.0 in
      let alone : bs ≡ [] = nil_from_length bs (eqb-true (length bs) 0 tests.1) in
      let P : Value → Type 0 = λ u. Sayable Head u × (b ∷ bs ≡ spelled u) in
      subst P same (tt, cc)
  | inr other ↦ said_plain Head (b ∷ bs) v (λ n small. small) (sym (cond-false (eqb b 45 && eqb (length bs) 0) (Some Dash) (plain (number (b ∷ bs))) other) ∙ e)
]

said_width : (f : List ℕ) (v : Value) → width f ≡ Some v → Sayable Width v × (f ≡ spelled v)
said_width [] v e = absurd (none_no_some _ e)
said_width (b ∷ bs) v e =
    let P : Value → Type 0 = λ u. Sayable Width u × (b ∷ bs ≡ spelled u) in
    elim (cases_Bool (eqb b 45)) [
      | inl dash ↦
          let p = negative_some (number bs) v (sym (cond-true (eqb b 45) (negative (number bs)) (unsigned (number (b ∷ bs))) dash) ∙ e) in
          let dashed : b ≡ 45 = eqb-true b 45 dash in
          let digits : bs ≡ decimal (suc p.0) = decimal_number bs (suc p.0) p.1 in
          subst P p.2 (number_bound bs (suc p.0) p.1, cc)
      | inr other ↦
          let p = unsigned_some (number (b ∷ bs)) v (sym (cond-false (eqb b 45) (negative (number bs)) (unsigned (number (b ∷ bs))) other) ∙ e) in
          subst P p.2 (number_bound (b ∷ bs) p.0 p.1, decimal_number (b ∷ bs) p.0 p.1)
    ]

pub spelled_said : (s : Style) (f : List ℕ) (v : Value) → said s f ≡ Some v → Sayable s v × (f ≡ spelled v)
spelled_said Number f v e = said_plain Number f v (λ n small. small) e
spelled_said Head f v e = said_head f v e
spelled_said Width f v e = said_width f v e

-- digits are neither a comma nor byte 10
digits_free : (ds : List ℕ) → all_ascii_digits ds ≡ true → AllByRecursion (λ b. (b ≡ 44 → ⊥) × (b ≡ 10 → ⊥)) ds
digits_free [] all = tt
digits_free (c ∷ cs) all =
    let p = tells_all_ascii_digits.parts c cs all in
    (omega arith, digits_free cs p.1)

decimal_free : (n : ℕ) → n < 10000000 → AllByRecursion (λ b. (b ≡ 44 → ⊥) × (b ≡ 10 → ⊥)) (decimal n)
decimal_free n small = digits_free (decimal n) (written_decimal n small).digits

-- what holds of `-`, of a number and of `-` with a number holds of each value that a field can say
spelled_by : (P : List ℕ → Type 0) → P (codes "-") → ((n : ℕ) → n < 10000000 → P (decimal n)) → ((n : ℕ) → n < 10000000 → P (45 ∷ decimal n)) → (s : Style) (v : Value) → Sayable s v → P (spelled v)
spelled_by P dash digits minus Number Dash ok = absurd ok
spelled_by P dash digits minus Number (Plain n) ok = digits n ok
spelled_by P dash digits minus Number (Signed z) ok = absurd ok
spelled_by P dash digits minus Head Dash ok = dash
spelled_by P dash digits minus Head (Plain n) ok = digits n ok
spelled_by P dash digits minus Head (Signed z) ok = absurd ok
spelled_by P dash digits minus Width Dash ok = absurd ok
spelled_by P dash digits minus Width (Plain n) ok = absurd ok
spelled_by P dash digits minus Width (Signed (pos n)) ok = digits n ok
spelled_by P dash digits minus Width (Signed (negsuc n)) ok = minus (suc n) ok

-- no comma and no byte 10 in a spelled value
pub spelled_free : (s : Style) (v : Value) → Sayable s v → AllByRecursion (λ b. (b ≡ 44 → ⊥) × (b ≡ 10 → ⊥)) (spelled v)
spelled_free = spelled_by (AllByRecursion (λ b. (b ≡ 44 → ⊥) × (b ≡ 10 → ⊥))) (omega arith, tt) decimal_free (λ n small. (omega arith, decimal_free n small))

pub spelled_short : (s : Style) (v : Value) → Sayable s v → length (spelled v) ≤ 8
spelled_short = spelled_by (λ bs. length bs ≤ 8) (omega arith) (λ n small. omega (arith, (written_decimal n small).short)) (λ n small. omega (arith, (written_decimal n small).short))
