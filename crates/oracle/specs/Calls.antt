-- The calls of an oracle as relations: which answer a call gives to which oracle, and which oracle
-- it leaves. Assumes nothing.
use Rattle.std.specs.Prelude.{◌≡◌, ℕ, Result}
use Rattle.oracle.specs.Asking.{AnswersCheck, AnswersGrant, Checked, Granted}
use Rattle.oracle.specs.Meaning.{Meaning}
use Rattle.oracle.specs.declared.CheckRefusal.{CheckRefusal}
use Rattle.oracle.specs.declared.GrantRefusal.{GrantRefusal}
use Rattle.oracle.specs.declared.Verdict.{Verdict}

-- what CHECK answers
abbrev pub CheckAnswer : Type 0
CheckAnswer = Result Verdict CheckRefusal

-- what GRANT answers
abbrev pub GrantAnswer : Type 0
GrantAnswer = Result (Unit {0}) GrantRefusal

-- one CHECK of a set, of the oracles of a type: from the oracle before it to the one after it
abbrev pub Checks : Type 0 → Type 1
Checks O = (before : O) → (set : ℕ) → CheckAnswer → (after : O) → Type 0

-- one GRANT of so many checks
abbrev pub Grants : Type 0 → Type 1
Grants O = (before : O) → (checks : ℕ) → GrantAnswer → (after : O) → Type 0

-- every such CHECK is one of what the oracle means
abbrev pub ChecksMean : {O : Type 0} → (O → Meaning) → Checks O → Type 0
ChecksMean {O} meaning checks =
    (o : O) (s : ℕ) (r : CheckAnswer) (p : O) → checks o s r p → Checked (meaning o) s r (meaning p)

-- and every such GRANT
abbrev pub GrantsMean : {O : Type 0} → (O → Meaning) → Grants O → Type 0
GrantsMean {O} meaning grants =
    (o : O) (k : ℕ) (r : GrantAnswer) (p : O) → grants o k r p → Granted (meaning o) k r (meaning p)

-- CHECK of an oracle that no call changes: it answers what it means, and is itself afterwards
abbrev pub StillChecks : {O : Type 0} → (O → Meaning) → Checks O
StillChecks meaning o s r p = AnswersCheck (meaning o) s r × (p ≡ o)

-- and its GRANT
abbrev pub StillGrants : {O : Type 0} → Grants O
StillGrants o k r p = AnswersGrant k r × (p ≡ o)
