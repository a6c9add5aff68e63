use Rattle.sets.specs.Sets.{bits_of}
use Rattle.rules.specs.declared.Kind.TheVariants as kind
use Rattle.rules.proofs.Fewer.{found_fit}
use Rattle.rules.proofs.OptionsDecided.{options_decided}
use Rattle.options.specs.Verdict.{chosen}
use Rattle.options.proofs.Finding.{least_found}
use Rattle.options.proofs.Options.find.Goals as goal

pub returns : goal.returns
returns c =
    let rules = c.args.self.now.list.rules.now in
    let s = bits_of c.args.set in
    let found = least_found rules s c.least.result (rw c.rules.ensures at c.least.ensures) in
    record { found = found; verdict = found_fit kind.Options options_decided chosen rules s c.least.result found }
