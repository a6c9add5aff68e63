-- The values of a line's fields, or the first field at fault. Assumes nothing.
use Rattle.std.specs.Prelude.{ℕ, suc, Bool, true, cond, ◌&&◌, List, [], ◌∷◌, length, drop, Some, None, Ok, Err, Option, Result, nat_le, nat_lt, unsigned_abs}
use Rattle.std.specs.Result.{result_map_both}
use Rattle.fields.specs.Cuts.{fields}
use Rattle.fields.specs.Faults.{at_field}
use Rattle.fields.specs.Layout.{fewest, most, ends_in_set, column, inside}
use Rattle.fields.specs.Numbers.{said}
use Rattle.fields.specs.Steps.{◌>>=◌}
use Rattle.fields.specs.declared.fault.FieldFault.{FieldFault}
use Rattle.fields.specs.declared.fault.Flaw.{Flaw}
use Rattle.fields.specs.declared.fault.Flaw.TheVariants.{Form, Range, Order}
use Rattle.fields.specs.declared.fault.LineFault.{LineFault}
use Rattle.fields.specs.declared.fault.LineFault.TheVariants.{Count, Field}
use Rattle.fields.specs.declared.layout.Sort.{Sort}
use Rattle.fields.specs.declared.value.Value.{Value}
use Rattle.fields.specs.declared.value.Value.TheVariants.{Dash, Plain, Signed}

-- the number that a value has, without its sign; 0 for `-`
abbrev pub amount : Value → ℕ
amount Dash = 0
amount (Plain n) = n
amount (Signed z) = unsigned_abs z

-- what one field says before what the later ones say, or its fault
abbrev pub first_of : FieldFault → Option Value → Result (List Value) FieldFault → Result (List Value) FieldFault
first_of e None rest = Err e
first_of e (Some v) (Ok vs) = Ok (v ∷ vs)
first_of e (Some v) (Err d) = Err d

-- FORM: what the fields say, of which the first is field i, or the first that is not written as its style asks
abbrev pub formed : Sort → (line i : ℕ) → List (List ℕ) → Result (List Value) FieldFault
formed s line i [] = Ok []
formed s line i (f ∷ fs) = first_of (at_field Form line i) (said (column s 0 i).style f) (formed s line (suc i) fs)

-- RANGE: the first field whose number lies outside its range
abbrev pub first_outside : Sort → (requests i : ℕ) → List Value → Option ℕ
first_outside s requests i [] = None
first_outside s requests i (v ∷ vs) = cond (inside (column s requests i) v) (first_outside s requests (suc i) vs) (Some i)

-- whether a number goes above the one before it, if there is one
abbrev pub above : Option ℕ → ℕ → Bool
above None n = true
above (Some m) n = nat_lt m n

-- ORDER: the first field whose number is not above the one before it
abbrev pub first_unrisen : (before : Option ℕ) (i : ℕ) → List Value → Option ℕ
first_unrisen before i [] = None
first_unrisen before i (v ∷ vs) = cond (above before (amount v)) (first_unrisen (Some (amount v)) (suc i) vs) (Some i)

-- a line without such a field, or the fault of that field
abbrev pub without : Flaw → (line : ℕ) → Option ℕ → Result (Unit {0}) FieldFault
without w line None = Ok tt
without w line (Some i) = Err (at_field w line i)

-- RANGE, as a test of a line
abbrev pub ranged : Sort → (requests line : ℕ) → List Value → Result (Unit {0}) FieldFault
ranged s requests line vs = without Range line (first_outside s requests 1 vs)

-- ORDER, as a test of the lines that end in a set
abbrev pub ordered : Sort → (line : ℕ) → List Value → Result (Unit {0}) FieldFault
ordered s line vs = cond (ends_in_set s) (without Order line (first_unrisen None 3 (drop 2 vs))) (Ok tt)

-- COUNT: whether a line may have so many fields
abbrev pub counted : Sort → ℕ → Bool
counted s n = nat_le (fewest s) n && nat_le n (most s)

-- a fault of a field goes whole into its line's
abbrev pub in_line : {A : Type 0} → Result A FieldFault → Result A LineFault
in_line r = result_map_both (λ x. x) Field r

-- COUNT, FORM, RANGE and ORDER, each over the whole line before the next
abbrev pub values_of : Sort → (requests line : ℕ) → List ℕ → Result (List Value) LineFault
values_of s requests line value =
    cond (counted s (length (fields value)))
    (in_line (formed s line 1 (fields value) >>= λ vs. ranged s requests line vs >>= λ _. ordered s line vs >>= λ _. Ok vs))
    (Err (Count line))
