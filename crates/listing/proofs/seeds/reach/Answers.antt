use Rattle.std.proofs.Common.{◌^◌, ◌<◌, sym, ◌∙◌, subst, rules}
use Rattle.listing.specs.Settling.{IsBetween}
use Rattle.listing.proofs.SettleBits.{added_same}
use Rattle.listing.proofs.seeds.reach.Goals as goal

pub returns-then-contains : goal.returns-then-contains
returns-then-contains c =
    let n = c.args.best.bits in
    let small : n < 2 ^ 32 = search rules in
    let same = added_same n c.args.request small (sym c.contains.ensures ∙ c.if-contains.true) in
    (subst (IsBetween c.args.kept.bits c.args.free.bits) same c.requires.between, c.requires.unexplored)
