-- The verdict over the rules of letter g, and what a search for places finds. Assumes nothing.
use Rattle.std.specs.Prelude.{ℕ, Bool, List, ℤ, Option}
use Rattle.std.specs.Option.{option_map}
use Rattle.oracle.specs.Meaning.{Meaning}
use Rattle.rules.specs.Choices.{placed}
use Rattle.rules.specs.Found.{fit_by, meant_by, FoundBy}
use Rattle.rules.specs.declared.Kind.TheVariants as kind
use Rattle.rules.specs.declared.Rule.{Rule}
use Rattle.rules.proofs.GapsDecided.{gaps_decided}

-- whether some choice meets every gap that is in force for a set of requests
abbrev pub fit : List Rule → ℕ → Bool
fit = fit_by kind.Gaps gaps_decided

-- what the oracle over a list of rules means
abbrev pub meant : (width : ℕ) → List Rule → Meaning
meant = meant_by kind.Gaps gaps_decided

-- places of the marks that meet every gap in force for the set; none where no choice meets them
abbrev pub Found : List Rule → ℕ → Option (List ℤ) → Type 0
Found rules s o = FoundBy kind.Gaps rules s (option_map placed o)
