use Rattle.std.proofs.Common.{◌∙◌, rules, tests}
use Rattle.std.proofs.lemmas.Iterator.{YieldsList-from_slice}
use Rattle.std.proofs.lemmas.Iterator.Search.{any_from_yields_List}
use Rattle.listing.specs.Lines.{explores}
use Rattle.listing.proofs.SeedLists.{any_explores}
use Rattle.listing.proofs.seeds.is_explored.Goals as goal

pub returns : goal.returns
returns c =
    any_from_yields_List (λ line. explores line c.args.set.bits) _ _ _ c.any.ensures.ran (YieldsList-from_slice c.args.lines.now cc) (λ x b q k. search (rules, tests))
    ∙ any_explores c.args.lines.now c.args.set.bits
