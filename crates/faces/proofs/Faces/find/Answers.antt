use Rattle.sets.specs.Sets.{bits_of}
use Rattle.rules.specs.declared.Kind.TheVariants as kind
use Rattle.rules.proofs.FacesDecided.{faces_decided}
use Rattle.rules.proofs.Fewer.{found_fit}
use Rattle.faces.specs.Verdict.{chosen}
use Rattle.faces.proofs.Faces.find.Goals as goal

pub returns-clause-verdict : goal.returns-clause-verdict
returns-clause-verdict c =
    let rules = c.args.self.now.list.rules.now in
    found_fit kind.Faces faces_decided chosen rules (bits_of c.args.set) c.back.result (rw c.rules.ensures at c.back.ensures)
