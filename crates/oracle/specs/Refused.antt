-- What the refusals tell: each has a number, and values in their order. Assumes nothing.
use Rattle.std.specs.Prelude.{◌≡◌, ℕ, List, [], ◌∷◌, Some, None, Ok, Err, Option, Result}
use Rattle.oracle.specs.declared.CheckRefusal.{CheckRefusal}
use Rattle.oracle.specs.declared.CheckRefusal.TheVariants.{Outside, Spent}
use Rattle.oracle.specs.declared.GrantRefusal.{GrantRefusal}
use Rattle.oracle.specs.declared.GrantRefusal.TheVariants.{Over}

-- a number, and the values that are told with it
abbrev pub Telling : Type 0
Telling = ℕ × List ℕ

-- what each refusal of CHECK tells
abbrev pub check_tells : CheckRefusal → Telling
check_tells Outside = (10, [])
check_tells (Spent label) = (13, label ∷ [])

-- what the refusal of GRANT tells
abbrev pub grant_tells : GrantRefusal → Telling
grant_tells Over = (11, [])

-- what an answer tells, by what its refusals tell; one that is not refused, as a verdict is not, has
-- no number
abbrev pub told : {A E : Type 0} → (E → Telling) → Result A E → Option Telling
told tells (Ok a) = None
told tells (Err e) = Some (tells e)

-- an answer is refused with this number and these values
abbrev pub IsRefusedWith : {A E : Type 0} → (E → Telling) → Result A E → (number : ℕ)
    → (values : List ℕ) → Type 0
IsRefusedWith tells answer number values = told tells answer ≡ Some (number, values)

-- the one value, or no value
abbrev pub at_most_one : Option ℕ → List ℕ
at_most_one None = []
at_most_one (Some value) = value ∷ []
