-- A run is its calls. Assumes nothing.
use Rattle.std.specs.Prelude.{◌≡◌, List, [], ◌∷◌}
use Rattle.oracle.specs.Calls.{Checks, Grants}
use Rattle.oracle.specs.Meaning.{Meaning}
use Rattle.explainer.specs.Calls.{IsNew, Does, moment_of}
use Rattle.explainer.specs.Preferring.{Order}
use Rattle.explainer.specs.Stages.{Stage}
use Rattle.explainer.specs.declared.asking.Explainer.{Explainer}
use Rattle.explainer.specs.declared.moments.Moment.{Moment}

-- from one explainer to another by calls, each of which does what it is to do and is recorded, and
-- by nothing else
abbrev pub Leads : {O : Type 0} → Order → (O → Meaning) → Checks O → Grants O → Explainer O
    → List Moment → Explainer O → Type 0
Leads order meaning checks grants a [] b = b ≡ a
Leads {O} order meaning checks grants a (x ∷ xs) b =
    (m : Explainer O) × Does order checks grants a x.made m × (x ≡ moment_of meaning a x.made m)
    × Leads order meaning checks grants m xs b

-- calls of which this is recorded lead a new explainer over an oracle to where one stands
pub record IsLed {O : Type 0} (order : Order) (meaning : O → Meaning) (checks : Checks O)
    (grants : Grants O) (o : O) (past : List Moment) (b : Explainer O) : Type 0 where
  pub first : Explainer O
  pub new : IsNew meaning o first
  pub leads : Leads order meaning checks grants first past b

-- these are the calls that lead from one explainer to another: each does what it is to do from where
-- the one before it left off, and is recorded
abbrev pub IsPath : {O : Type 0} → Order → (O → Meaning) → Checks O → Grants O
    → Explainer O → List (Stage O) → Explainer O → Type 0
IsPath order meaning checks grants a [] b = b ≡ a
IsPath order meaning checks grants a (x ∷ xs) b =
    Does order checks grants a x.moment.made x.stands
    × (x.moment ≡ moment_of meaning a x.moment.made x.stands)
    × IsPath order meaning checks grants x.stands xs b
