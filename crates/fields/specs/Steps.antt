-- One step of reading after another: go on with what a step gives, or leave with its fault. Assumes nothing.
use Rattle.std.specs.Prelude.{Some, None, Ok, Err, Option, Result}
use Rattle.fields.specs.declared.fault.LineFault.{LineFault}

infixl 20 ◌>>=◌
-- the next step, if this one went well
abbrev pub ◌>>=◌ : {A B E : Type 0} → Result A E → (A → Result B E) → Result B E
Ok x >>= next = next x
Err e >>= next = Err e

-- what was found, or the fault of a line
abbrev pub or_fault : {A : Type 0} → LineFault → Option A → Result A LineFault
or_fault e None = Err e
or_fault e (Some x) = Ok x
