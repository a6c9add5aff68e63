-- The faults that the value of a line can have, each by itself: none is said in terms of another.
-- Fields are counted from 1. Assumes nothing.
use Rattle.std.specs.Prelude.{◌≡◌, ℕ, suc, ◌-◌, ◌<◌, ◌≤◌, true, false, ◌⊎◌, List, length, slice_get, Some, None, Ok, Err}
use Rattle.fields.specs.Cuts.{fields}
use Rattle.fields.specs.Faults.{told_line}
use Rattle.fields.specs.FirstOf.{IsFirst}
use Rattle.fields.specs.Formed.{amount, values_of}
use Rattle.fields.specs.Layout.{fewest, most, ends_in_set, column, inside}
use Rattle.fields.specs.Numbers.{said}
use Rattle.fields.specs.declared.fault.LineFault.{LineFault}
use Rattle.fields.specs.declared.layout.Sort.{Sort}
use Rattle.fields.specs.declared.value.Value.{Value}

-- field i of a value is this text; how it is to be written does not hang on the requests, so 0 serves
-- below
abbrev pub IsField : (value : List ℕ) (i : ℕ) (text : List ℕ) → Type 0
IsField value i text = (1 ≤ i) × (slice_get (fields value) (i - 1) ≡ Some text)

-- field i is written as it has to be, and says this
abbrev pub FieldSays : Sort → (value : List ℕ) (i : ℕ) → Value → Type 0
FieldSays s value i v =
    (text : List ℕ) × IsField value i text × (said (column s 0 i).style text ≡ Some v)

-- COUNT: there are fewer fields than the line may have, or more
abbrev pub HasWrongCount : Sort → (value : List ℕ) → Type 0
HasWrongCount s value = (length (fields value) < fewest s) ⊎ (most s < length (fields value))

-- FORM: field i is not written as it has to be
abbrev pub HasWrongForm : Sort → (value : List ℕ) (i : ℕ) → Type 0
HasWrongForm s value i =
    (text : List ℕ) × IsField value i text × (said (column s 0 i).style text ≡ None)

-- RANGE: field i says a number outside its range, on a ticket of so many requests
abbrev pub HasWrongRange : Sort → (requests : ℕ) (value : List ℕ) (i : ℕ) → Type 0
HasWrongRange s requests value i =
    (v : Value) × FieldSays s value i v × (inside (column s requests i) v ≡ false)

-- ORDER: field i and the one before it are of the set that the line ends in, and its number is not
-- above that one's
abbrev pub HasWrongOrder : Sort → (value : List ℕ) (i : ℕ) → Type 0
HasWrongOrder s value i =
    (ends_in_set s ≡ true) × (3 < i) × (v w : Value) × FieldSays s value (i - 1) v
    × FieldSays s value i w × (amount w ≤ amount v)

-- the fault with this number, at this field, or 0 where none is named
abbrev pub HasFlaw : Sort → (requests : ℕ) (value : List ℕ) (number field : ℕ) → Type 0
HasFlaw s requests value number field =
    ((number ≡ 4) × (field ≡ 0) × HasWrongCount s value)
    ⊎ ((number ≡ 5) × HasWrongForm s value field)
    ⊎ ((number ≡ 6) × HasWrongRange s requests value field)
    ⊎ ((number ≡ 7) × HasWrongOrder s value field)

-- the first fault of the value
abbrev pub IsFirstFlaw : Sort → (requests : ℕ) (value : List ℕ) (number field : ℕ) → Type 0
IsFirstFlaw s requests value number field = IsFirst (HasFlaw s requests value) number field

-- the fault that e tells, of this line, is the first
abbrev pub TellsFirst : Sort → (requests line : ℕ) (value : List ℕ) → LineFault → Type 0
TellsFirst s requests line value e =
    (number field : ℕ) × (told_line e ≡ (number, line, field))
    × IsFirstFlaw s requests value number field

-- the value has no fault; its fields are as many as these values, and each says the one in its place
abbrev pub IsFaultless : Sort → (requests : ℕ) (value : List ℕ) → List Value → Type 0
IsFaultless s requests value vs =
    ((number field : ℕ) → HasFlaw s requests value number field → ⊥)
    × ((i : ℕ) (v : Value) → slice_get vs i ≡ Some v → FieldSays s value (suc i) v)
    × (length vs ≡ length (fields value))

-- what is refused has the fault that is told, and it is the first
abbrev pub RefusedFirst : Type 0
RefusedFirst =
    (s : Sort) (requests line : ℕ) (value : List ℕ) (e : LineFault)
    → values_of s requests line value ≡ Err e → TellsFirst s requests line value e

-- what is taken has no fault, and its fields say what is told
abbrev pub TakenFaultless : Type 0
TakenFaultless =
    (s : Sort) (requests line : ℕ) (value : List ℕ) (vs : List Value)
    → values_of s requests line value ≡ Ok vs → IsFaultless s requests value vs

-- both
abbrev pub FlawLaws : Type 0
FlawLaws = RefusedFirst × TakenFaultless
