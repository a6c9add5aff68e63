-- What the refusals of NEXT tell: each has a number, and values in their order. Assumes nothing.
use Rattle.std.specs.Prelude.{◌≡◌, ℕ, [], ◌∷◌, Some, Err, Result}
use Rattle.oracle.specs.Calls.{Checks}
use Rattle.oracle.specs.Refused.{Telling, check_tells, told}
use Rattle.oracle.specs.declared.CheckRefusal.{CheckRefusal}
use Rattle.explainer.specs.declared.moments.NextRefusal.{NextRefusal}
use Rattle.explainer.specs.declared.moments.NextRefusal.TheVariants.{Outside, Full, Spent}

-- what each refusal of NEXT tells; a line and END are no refusals, and have no number
abbrev pub next_tells : NextRefusal → Telling
next_tells Outside = (10, [])
next_tells Full = (12, [])
next_tells (Spent label) = (13, label ∷ [])

-- NEXT is refused with the number and the values that a CHECK is refused with
abbrev pub TellsTheSame : {A : Type 0} → CheckRefusal → Result A NextRefusal → Type 0
TellsTheSame e r = told next_tells r ≡ Some (check_tells e)

-- one CHECK of a set is refused, and NEXT with it: the refusal is passed on
abbrev pub IsRefusedBy : {A O : Type 0} → Checks O → O → (set : ℕ) → Result A NextRefusal → O
    → Type 0
IsRefusedBy checks o s r p = (e : CheckRefusal) × checks o s (Err e) p × TellsTheSame e r
