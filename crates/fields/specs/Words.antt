-- What the fault of a line means, in words, with its place before it and its name after it.
-- Assumes nothing.
use Rattle.std.specs.Prelude.{ℕ, List, ◌++◌, codes, decimal}
use Rattle.fields.specs.declared.fault.FieldFault.{FieldFault}
use Rattle.fields.specs.declared.fault.Flaw.{Flaw}
use Rattle.fields.specs.declared.fault.Flaw.TheVariants.{Form, Range, Order, Table}
use Rattle.fields.specs.declared.fault.LineFault.{LineFault}
use Rattle.fields.specs.declared.fault.LineFault.TheVariants.{Cut, Key, Count, Field}

-- a line, and what is said of it
abbrev pub of_line : (line : ℕ) → List ℕ → List ℕ
of_line line words = codes "line " ++ (decimal line ++ (codes ": " ++ words))

-- what is wrong with a field
abbrev pub flaw_words : Flaw → List ℕ
flaw_words Form = codes "the field is not written as it must be (FORM)"
flaw_words Range = codes "the number is outside its range (RANGE)"
flaw_words Order = codes "an option or face must be above the one before it (ORDER)"
flaw_words Table = codes "there are more rules than the list has room for (TABLE)"

-- the line and the field, and what is wrong with it
abbrev pub field_words : FieldFault → List ℕ
field_words f =
    codes "line " ++ (decimal f.line ++ (codes ", field " ++ (decimal f.field
    ++ (codes ": " ++ flaw_words f.flaw))))

-- the line, and what is wrong with it; or what is wrong with a field of it
abbrev pub line_words : LineFault → List ℕ
line_words (Cut line) = of_line line (codes "the ticket ends before this line does (CUT)")
line_words (Key line) =
    of_line line (codes "it does not begin with the key that is due and `=` (KEY)")
line_words (Count line) =
    of_line line (codes "it has more or fewer fields than it may have (COUNT)")
line_words (Field f) = field_words f
