-- The faults that a line of a text can have, each by itself: none is said in terms of another.
-- Those of a line's value are in `Flaws` of the crate `fields`. Assumes nothing.
use Rattle.std.specs.Prelude.{◌≡◌, ◌≢◌, ℕ, ◌<◌, ◌⊎◌, List, Some, None, Option, codes}
use Rattle.rules.specs.declared.Kind.{Kind}
use Rattle.fields.specs.Cuts.{after}
use Rattle.fields.specs.Flaws.{HasFlaw}
use Rattle.fields.specs.declared.layout.Sort.TheVariants.{Header, Rule}
use Rattle.ticket.specs.Due.{Due, a_header, a_rule, the_end, due_at, requests_in, rules_in}
use Rattle.ticket.specs.Entries.{key, lettered}
use Rattle.ticket.specs.LineAt.{line_at}

-- KEY: the line does not begin with the key that is due and `=`
abbrev pub HasWrongKey : Due → (line : List ℕ) → Type 0
HasWrongKey (a_header h) line = after (key h) line ≡ None
HasWrongKey a_rule line = lettered line ≡ None
HasWrongKey the_end line = after (codes "end=") line ≡ None

-- COUNT, FORM, RANGE or ORDER: the value that follows the key has the fault with this number at
-- this field. Of a header the range does not hang on the requests, so 0 serves. Any other value of
-- the end than the word `ticket` is FORM at field 1.
abbrev pub HasWrongValue : Due → (requests : ℕ) (line : List ℕ) (number field : ℕ) → Type 0
HasWrongValue (a_header h) requests line number field =
    (value : List ℕ) × (after (key h) line ≡ Some value) × HasFlaw (Header h) 0 value number field
HasWrongValue a_rule requests line number field =
    (q : Kind × List ℕ) × (lettered line ≡ Some q) × HasFlaw (Rule q.0) requests q.1 number field
HasWrongValue the_end requests line number field =
    (value : List ℕ) × (after (codes "end=") line ≡ Some value)
    × ((number ≡ 5) × (field ≡ 1) × (value ≢ codes "ticket"))

-- CUT, where there is no line, or a fault of the line that stands where this is due
abbrev pub HasLineFault :
    Due → (requests : ℕ) (line : Option (List ℕ)) (number field : ℕ) → Type 0
HasLineFault d requests line number field =
    ((number ≡ 2) × (field ≡ 0) × (line ≡ None))
    ⊎ ((number ≡ 3) × (field ≡ 0) × (l : List ℕ) × (line ≡ Some l) × HasWrongKey d l)
    ⊎ ((l : List ℕ) × (line ≡ Some l) × HasWrongValue d requests l number field)

-- TABLE: the list handed over has no room for so many rules as line 4 says
abbrev pub HasNoRoom : (text : List ℕ) (room line number field : ℕ) → Type 0
HasNoRoom text room line number field =
    (number ≡ 8) × (line ≡ 4) × (field ≡ 1) × (room < rules_in text)

-- this line of the text has the fault with this number at this field, or 0 where none is named
abbrev pub HasFault : (text : List ℕ) (room line number field : ℕ) → Type 0
HasFault text room line number field =
    HasLineFault (due_at (rules_in text) line) (requests_in text) (line_at line text) number field
    ⊎ HasNoRoom text room line number field

-- this line has no fault
abbrev pub IsInOrder : (text : List ℕ) (room line : ℕ) → Type 0
IsInOrder text room line = (number field : ℕ) → HasFault text room line number field → ⊥
