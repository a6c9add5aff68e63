use Rattle.std.proofs.Common.{◌∙◌, rules, tests}
use Rattle.std.proofs.lemmas.Iterator.{YieldsList-from_slice}
use Rattle.std.proofs.lemmas.Iterator.Search.{any_from_yields_List}
use Rattle.sets.specs.Requests.{part}
use Rattle.sets.specs.Sets.{bits_of}
use Rattle.layers.proofs.KeptLists.{any_of_bits}
use Rattle.layers.proofs.kept_sets.KeptSets.has_over.Goals as goal

pub returns : goal.returns
returns c =
    any_from_yields_List (λ k. part c.args.set.bits (bits_of k)) _ _ _ c.any.ensures.ran (YieldsList-from_slice c.args.self.now.sets.items cc) (λ x b q k. search (rules, tests))
    ∙ any_of_bits (λ k. part c.args.set.bits k) c.args.self.now.sets.items
