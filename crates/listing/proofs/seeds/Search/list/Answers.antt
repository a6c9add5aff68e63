use Rattle.listing.specs.Orders.{keeps_more, NothingBefore}
use Rattle.listing.specs.Listed.{lines_of}
use Rattle.std.proofs.Common.{sym, subst}
use Rattle.listing.proofs.SeedTop.{nothing_still}
use Rattle.listing.proofs.seeds.Search.list.Goals as goal

pub invariant_of-self-clause-narrow : goal.invariant_of-self-clause-narrow
invariant_of-self-clause-narrow c = c.args.self.now.narrow

pub invariant_of-self-clause-room : goal.invariant_of-self-clause-room
invariant_of-self-clause-room c = c.args.self.now.room

pub invariant_of-self-clause-led : goal.invariant_of-self-clause-led
invariant_of-self-clause-led c =
    let s = c.args.self.now in
    subst (λ lines. NothingBefore (keeps_more s.width) s.width lines s.top.bits) (sym c.list.ensures.lines)
    (nothing_still (keeps_more s.width) s.width (lines_of s.listing) c.args.line s.top.bits s.led)
