-- What holds of the same run by the steps of NEXT, over the width and the verdict alone. Assumes
-- nothing.
use Rattle.std.specs.Prelude.{◌≡◌, ℕ, List, [], ◌∷◌, ◌++◌, replicate}
use Rattle.oracle.specs.Meaning.{Meaning}
use Rattle.listing.specs.Bill.{most_answers}
use Rattle.listing.specs.Steps.{State, start}
use Rattle.listing.specs.Turns.{turn, after}
use Rattle.explainer.specs.AtEach.{AtEach}
use Rattle.explainer.specs.Preferring.{Order}
use Rattle.explainer.specs.Stages.{Stage, lines_listed, checks_answered}

-- the state of the steps after so many NEXTs of which none was refused a check, and so many checks
-- of one more
abbrev pub state_at : Order → Meaning → (nexts checks : ℕ) → State
state_at order m0 nexts checks =
    (turn (order m0.width) m0.width m0.fit checks
    (after (order m0.width) m0.width m0.fit (replicate nexts most_answers) start)).left

-- lines and number of checks are those of the steps, as far as they have come
abbrev pub IsAsFar : {O : Type 0} → Order → Meaning → List (Stage O) → Type 0
IsAsFar order m0 stages =
    (nexts checks : ℕ)
    × (lines_listed stages ≡ (state_at order m0 nexts checks).lines)
    × (checks_answered stages ≡ (state_at order m0 nexts checks).checks)

-- at every moment
abbrev pub StepsOfRun : {O : Type 0} → Order → Meaning → List (Stage O) → Type 0
StepsOfRun order m0 stages = AtEach (λ past x. IsAsFar order m0 (past ++ x ∷ [])) [] stages
