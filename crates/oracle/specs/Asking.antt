-- What the calls of an oracle answer, and what they leave. Assumes nothing.
use Rattle.std.specs.Prelude.{◌≡◌, ℕ, zero, suc, ◌+◌, min, Bool, true, false, ◌⊎◌, [], ◌∷◌, Some, None, Ok, Err, Option, Result, nat_le}
use Rattle.sets.specs.Requests.{within}
use Rattle.oracle.specs.Branching.{If}
use Rattle.oracle.specs.Meaning.{Meaning, limit, Kept, Unchanged}
use Rattle.oracle.specs.Refused.{check_tells, grant_tells, IsRefusedWith}
use Rattle.oracle.specs.declared.CheckRefusal.{CheckRefusal}
use Rattle.oracle.specs.declared.GrantRefusal.{GrantRefusal}
use Rattle.oracle.specs.declared.Verdict.{Verdict}

-- the answer that a set is fit, or not
abbrev pub verdict : Bool → Verdict
verdict fit = record { fit = fit }

-- whether nothing is left
abbrev pub nought : Option ℕ → Bool
nought None = false
nought (Some zero) = true
nought (Some (suc n)) = false

-- a set outside the width is refused with number 10 and no value, whatever else holds
abbrev pub AnswersWidth : (width s : ℕ) → Result (Unit {0}) CheckRefusal → Type 0
AnswersWidth width s r = If (within width s) (r ≡ Ok tt) (IsRefusedWith check_tells r 10 [])

-- a check within the width: refused with number 13 and the label where nothing is left, and
-- otherwise the verdict is answered
abbrev pub AnswersWithin : Meaning → ℕ → Result Verdict CheckRefusal → Type 0
AnswersWithin m s r =
    If (nought m.allowance) (IsRefusedWith check_tells r 13 (m.label ∷ []))
    (r ≡ Ok (verdict (m.fit s)))

-- what CHECK of a set answers: outside the width it is refused with number 10 and no value
abbrev pub AnswersCheck : Meaning → ℕ → Result Verdict CheckRefusal → Type 0
AnswersCheck m s r =
    If (within m.width s) (AnswersWithin m s r) (IsRefusedWith check_tells r 10 [])

-- what a call leaves, whatever it answers: an answered call keeps width and verdict, and changes
-- the allowance so; a refused one leaves the whole meaning
abbrev pub Leaves : {A E : Type 0} → (change : Option ℕ → Option ℕ → Type 0) → Result A E → Meaning
    → Meaning → Type 0
Leaves change (Ok a) m n = Kept m n × change m.allowance n.allowance
Leaves change (Err e) m n = Unchanged m n

-- an allowance after an answered check: endless, or the same, or one less
abbrev pub Taken : (before after : Option ℕ) → Type 0
Taken None None = Unit {0}
Taken None (Some b) = ⊥
Taken (Some a) None = ⊥
Taken (Some a) (Some b) = (b ≡ a) ⊎ (suc b ≡ a)

-- CHECK of a set: the answer, and what the oracle means afterwards
abbrev pub Checked : Meaning → ℕ → Result Verdict CheckRefusal → Meaning → Type 0
Checked m s r n = AnswersCheck m s r × Leaves Taken r m n

-- what GRANT answers: more than the limit is refused with number 11 and no value
abbrev pub AnswersGrant : ℕ → Result (Unit {0}) GrantRefusal → Type 0
AnswersGrant k r = If (nat_le k limit) (r ≡ Ok tt) (IsRefusedWith grant_tells r 11 [])

-- an allowance after a grant, cut at the limit
abbrev pub grown : ℕ → Option ℕ → Option ℕ
grown k None = None
grown k (Some a) = Some (min (a + k) limit)

-- the allowance after an answered grant is the one grown by it
abbrev pub Grown : ℕ → (before after : Option ℕ) → Type 0
Grown k before after = after ≡ grown k before

-- GRANT of k: the answer, and what the oracle means afterwards
abbrev pub Granted : Meaning → ℕ → Result (Unit {0}) GrantRefusal → Meaning → Type 0
Granted m k r n = AnswersGrant k r × Leaves (Grown k) r m n
