-- Conflicts and relaxations in terms of choices. Assumes nothing.
use Rattle.std.specs.Prelude.{◌≢◌, ℕ, ◌<◌, List}
use Rattle.sets.specs.Requests.{Within, blame}
use Rattle.rules.specs.Choices.{Fit}
use Rattle.rules.specs.declared.Rule.{Rule}
use Rattle.listing.specs.Words.{IsProperPart}

-- no choice of options, positions and faces meets every rule of the house and of the set
abbrev pub Unfit : List Rule → ℕ → Type 0
Unfit rules s = Fit rules s → ⊥

-- a minimal conflict: a set of the ticket's requests for which no choice meets all those rules,
-- while for each proper part some choice does
abbrev pub IsMinimalConflict : List Rule → (requests s : ℕ) → Type 0
IsMinimalConflict rules requests s =
    Within requests s × Unfit rules s × ((t : ℕ) → IsProperPart t s → Fit rules t)

-- a maximal relaxation: one for which some choice does, while for each set of the requests that
-- properly contains it none does
abbrev pub IsMaximalRelaxation : List Rule → (requests s : ℕ) → Type 0
IsMaximalRelaxation rules requests s =
    Within requests s × Fit rules s
    × ((t : ℕ) → Within requests t → IsProperPart s t → Unfit rules t)

-- the preferred conflict: of all sets of the requests for which no choice does, minimal or not, the
-- one of least blame weight
abbrev pub IsPreferredConflict : List Rule → (requests s : ℕ) → Type 0
IsPreferredConflict rules requests s =
    Within requests s × Unfit rules s
    × ((t : ℕ) → Within requests t → Unfit rules t → t ≢ s → blame s < blame t)
