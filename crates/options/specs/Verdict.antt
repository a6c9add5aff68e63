-- The verdict over the rules of letter h, and what a search for options finds. Assumes nothing.
use Rattle.std.specs.Prelude.{ℕ, Bool, List, Option}
use Rattle.std.specs.Option.{option_map}
use Rattle.sets.specs.Masks.{number_of}
use Rattle.oracle.specs.Meaning.{Meaning}
use Rattle.rules.specs.Choices.{Choice, choice_on}
use Rattle.rules.specs.Found.{fit_by, meant_by, FoundBy}
use Rattle.rules.specs.declared.Kind.TheVariants as kind
use Rattle.rules.specs.declared.OptionSet.{OptionSet}
use Rattle.rules.specs.declared.Rule.{Rule}
use Rattle.rules.proofs.OptionsDecided.{options_decided}

-- whether some choice meets every rule on options that is in force for a set of requests
abbrev pub fit : List Rule → ℕ → Bool
fit = fit_by kind.Options options_decided

-- what the oracle over a list of rules means
abbrev pub meant : (width : ℕ) → List Rule → Meaning
meant = meant_by kind.Options options_decided

-- the number of a set of options
abbrev pub options_of : OptionSet → ℕ
options_of on = number_of on.members

-- the choice that has just these options on
abbrev pub chosen : OptionSet → Choice
chosen on = choice_on (options_of on)

-- options that meet every rule on options in force for the set; none where no choice meets them
abbrev pub Found : List Rule → ℕ → Option OptionSet → Type 0
Found rules s o = FoundBy kind.Options rules s (option_map chosen o)
