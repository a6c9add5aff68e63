-- The calls of an oracle of the tests: all that is said of them is what they mean. Assumes nothing.
use Rattle.oracle.specs.Asking.{Checked, Granted}
use Rattle.oracle.specs.Calls.{Checks, Grants}
use Rattle.oracle.specs.Meaning.{Meaning}

-- a CHECK
abbrev pub LooseChecks : {O : Type 0} → (O → Meaning) → Checks O
LooseChecks meaning o s r p = Checked (meaning o) s r (meaning p)

-- and a GRANT
abbrev pub LooseGrants : {O : Type 0} → (O → Meaning) → Grants O
LooseGrants meaning o k r p = Granted (meaning o) k r (meaning p)
