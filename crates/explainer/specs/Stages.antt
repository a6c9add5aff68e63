-- A run, call by call: with each moment that is recorded, where the explainer stands after it, and
-- what a NEXT was told. Assumes nothing.
use Rattle.std.specs.Prelude.{ℕ, ◌+◌, List, [], ◌∷◌, length, map}
use Rattle.listing.specs.declared.lines.Line.{Line}
use Rattle.explainer.specs.Chains.{Told}
use Rattle.explainer.specs.Moments.{lines_answered}
use Rattle.explainer.specs.declared.asking.Explainer.{Explainer}
use Rattle.explainer.specs.declared.moments.Moment.{Moment}

-- what is recorded of a call, the explainer after it, and the sets of which checks were answered to
-- it, with the answers, if it is a NEXT; none otherwise
pub record Stage (O : Type 0) : Type 0 where
  pub moment : Moment
  pub stands : Explainer O
  pub told : List Told

-- what is recorded of them
abbrev pub moments : {O : Type 0} → List (Stage O) → List Moment
moments stages = map (λ x. x.moment) stages

-- the oracle after some calls, from the first one
abbrev pub oracle_after : {O : Type 0} → O → List (Stage O) → O
oracle_after o [] = o
oracle_after o (x ∷ xs) = oracle_after x.stands.oracle xs

-- the lines listed by some calls
abbrev pub lines_listed : {O : Type 0} → List (Stage O) → List Line
lines_listed stages = lines_answered (moments stages)

-- how many checks some calls had answered to NEXT
abbrev pub checks_answered : {O : Type 0} → List (Stage O) → ℕ
checks_answered [] = 0
checks_answered (x ∷ xs) = length x.told + checks_answered xs
