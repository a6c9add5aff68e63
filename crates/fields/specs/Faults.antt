-- What the refusal of a line tells: its number, the line, and the field, or 0 where none is named. Assumes nothing.
use Rattle.std.specs.Prelude.{ℕ}
use Rattle.fields.specs.declared.fault.FieldFault.{FieldFault}
use Rattle.fields.specs.declared.fault.Flaw.{Flaw}
use Rattle.fields.specs.declared.fault.Flaw.TheVariants.{Form, Range, Order, Table}
use Rattle.fields.specs.declared.fault.LineFault.{LineFault}
use Rattle.fields.specs.declared.fault.LineFault.TheVariants.{Cut, Key, Count, Field}

-- FORM, RANGE, ORDER and TABLE
abbrev pub flaw_number : Flaw → ℕ
flaw_number Form = 5
flaw_number Range = 6
flaw_number Order = 7
flaw_number Table = 8

-- number, line and field of a fault of a field
abbrev pub told_field : FieldFault → ℕ × ℕ × ℕ
told_field f = (flaw_number f.flaw, f.line, f.field)

-- CUT, KEY, COUNT, or a fault of a field
abbrev pub told_line : LineFault → ℕ × ℕ × ℕ
told_line (Cut line) = (2, line, 0)
told_line (Key line) = (3, line, 0)
told_line (Count line) = (4, line, 0)
told_line (Field f) = told_field f

-- a fault of a field, at its line and field
abbrev pub at_field : Flaw → (line field : ℕ) → FieldFault
at_field w line field = record { flaw = w; line = line; field = field }
