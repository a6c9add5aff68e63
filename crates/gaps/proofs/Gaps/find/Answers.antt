use Rattle.sets.specs.Sets.{bits_of}
use Rattle.rules.specs.Choices.{placed}
use Rattle.rules.specs.declared.Kind.TheVariants as kind
use Rattle.rules.proofs.Fewer.{found_fit}
use Rattle.rules.proofs.GapsDecided.{gaps_decided}
use Rattle.gaps.proofs.Gaps.find.Goals as goal

pub returns-clause-verdict : goal.returns-clause-verdict
returns-clause-verdict c =
    let rules = c.args.self.now.list.rules.now in
    found_fit kind.Gaps gaps_decided placed rules (bits_of c.args.set) c.settle.result (rw c.rules.ensures at c.settle.ensures)
