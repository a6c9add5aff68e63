-- A list of rules on options, with two sets that are fit and one that is not. Assumes nothing.
use Rattle.std.specs.Prelude.{◌≡◌, ℕ, ◌+◌, ◌^◌, true, false, List, [], ◌∷◌, Some, None, Option}
use Rattle.sets.specs.Masks.{mask}
use Rattle.rules.specs.Made as made
use Rattle.rules.specs.declared.Rule.{Rule}
use Rattle.options.specs.Verdict.{fit}

-- a rule of options, by the number of its set
abbrev options_rule : (owner : ℕ) → Option ℕ → ℕ → Rule
options_rule owner head s = made.options_rule owner head (mask s)

-- request 1 puts option 0 on, which puts option 1 on, and that option 31; request 2 puts option 3 on; the house bars options 3 and 31 together
abbrev pub chain : List Rule
chain =
    options_rule 0 None (2 ^ 31 + 2 ^ 3) ∷ options_rule 0 (Some 31) 2 ∷ options_rule 0 (Some 1) 1 ∷ options_rule 1 (Some 0) 0 ∷ options_rule 2 (Some 3) 0 ∷ []

-- each request can be met alone: set 1 has request 1, and set 2 has request 2
abbrev pub AloneFits : Type 0
AloneFits = (fit chain 1 ≡ true) × (fit chain 2 ≡ true)

-- both together can not
abbrev pub TogetherUnfit : Type 0
TogetherUnfit = fit chain 3 ≡ false
