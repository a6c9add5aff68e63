-- The search finds what its contract says. Assumes nothing.
use Rattle.std.proofs.Common.{◌≡◌, ℕ, List, Some, None, Option, sym}
use Rattle.std.specs.Option.{option_map}
use Rattle.rules.specs.Force.{said}
use Rattle.rules.specs.Propagation.{least}
use Rattle.rules.specs.declared.OptionSet.{OptionSet}
use Rattle.rules.specs.declared.Rule.{Rule}
use Rattle.rules.proofs.OptionsDecided.{least_serves, least_none}
use Rattle.rules.proofs.Saying.{said_valid}
use Rattle.options.specs.Verdict.{options_of, Found}

pub least_found : (rules : List Rule) (s : ℕ) (o : Option OptionSet) → option_map options_of o ≡ least (said s rules) → Found rules s o
least_found rules s None e = least_none (said s rules) (sym e)
least_found rules s (Some on) e = least_serves (said s rules) (said_valid s rules) (options_of on) (sym e)
