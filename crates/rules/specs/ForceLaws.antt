-- What holds of the rules in force and of being fit, for all rules and all sets. Assumes nothing.
use Rattle.std.specs.Prelude.{◌≡◌, ℕ, ◌<◌, ◌≤◌, true, false, ◌↔◌, List, Some, None}
use Rattle.sets.specs.Requests.{widest, names, Within, Part}
use Rattle.rules.specs.Choices.{FitBy, Fit}
use Rattle.rules.specs.Force.{body_valid, in_force}
use Rattle.rules.specs.Found.{Decision, fit_by}
use Rattle.rules.specs.declared.Body.{Body}
use Rattle.rules.specs.declared.Kind.{Kind}
use Rattle.rules.specs.declared.Kind.TheVariants.{Options, Gaps, Faces}
use Rattle.rules.specs.declared.Rule.{Rule}

-- a rule that says nothing is in force for no set
abbrev pub SilentNever : Type 0
SilentNever = (s : ℕ) (r : Rule) → r.body ≡ None → in_force s r ≡ None

-- nor is one whose owner is above 32
abbrev pub NobodyNever : Type 0
NobodyNever = (s : ℕ) (r : Rule) → widest < r.owner → in_force s r ≡ None

-- a rule whose owner is above the width is in force for no set within the width
abbrev pub AboveNever : Type 0
AboveNever = (width s : ℕ) (r : Rule) → Within width s → width < r.owner → in_force s r ≡ None

-- what no rule line can say is in force for no set
abbrev pub UnsayableNever : Type 0
UnsayableNever = (s : ℕ) (r : Rule) (b : Body) → r.body ≡ Some b → body_valid b ≡ false → in_force s r ≡ None

-- what the house says is in force for every set, if some rule line can say it
abbrev pub HouseAlways : Type 0
HouseAlways = (s : ℕ) (r : Rule) (b : Body) → r.owner ≡ 0 → r.body ≡ Some b → body_valid b ≡ true → in_force s r ≡ Some b

-- what a request says is in force for the sets that have the request, and for no other, if some rule line can say it
abbrev pub RequestWhere : Type 0
RequestWhere =
    (s : ℕ) (r : Rule) (b : Body) → 0 < r.owner → r.owner ≤ widest → r.body ≡ Some b → body_valid b ≡ true
    → (names s r.owner ≡ true → in_force s r ≡ Some b) × (names s r.owner ≡ false → in_force s r ≡ None)

-- the truth value of the verdict is true exactly where some choice meets every rule of the kind that is in force, however that is decided
abbrev pub FitSays : Type 0
FitSays = (k : Kind) (decide : Decision k) (rules : List Rule) (s : ℕ) → (fit_by k decide rules s ≡ true) ↔ FitBy k rules s

-- a set is fit exactly where it is fit by each kind of rule
abbrev pub FitTogether : Type 0
FitTogether = (rules : List Rule) (s : ℕ) → Fit rules s ↔ (FitBy Options rules s × FitBy Gaps rules s × FitBy Faces rules s)

-- every part of a fit set is fit
abbrev pub FitDownward : Type 0
FitDownward = (rules : List Rule) (t s : ℕ) → Part t s → Fit rules s → Fit rules t

-- all of these
abbrev pub ForceLaws : Type 0
ForceLaws = SilentNever × NobodyNever × AboveNever × UnsayableNever × HouseAlways × RequestWhere × FitSays × FitTogether × FitDownward
