use Rattle.std.proofs.Common.{sym, ◌∙◌, arith}
use Rattle.listing.proofs.SeedTop.{nothing_before_seed, seed_foremost}
use Rattle.listing.specs.Listed.{lines_of}
use Rattle.listing.proofs.seeds.Search.seed.Goals as goal

pub invariant_of-self-2-clause-narrow : goal.invariant_of-self-2-clause-narrow
invariant_of-self-2-clause-narrow c = c.args.self.now.narrow

pub invariant_of-self-2-clause-room : goal.invariant_of-self-2-clause-room
invariant_of-self-2-clause-room c = omega (arith, c.args.self.now.room)

pub invariant_of-self-2-clause-led : goal.invariant_of-self-2-clause-led
invariant_of-self-2-clause-led c = nothing_before_seed c.args.self.now.width (lines_of c.args.self.now.listing) c.in_ok-next.next (sym c.in_ok-next.was ∙ c.seed.ensures)

pub invariant_of-self-2-clause-inside : goal.invariant_of-self-2-clause-inside
invariant_of-self-2-clause-inside c =
    let s = c.args.self.now in
    (seed_foremost s.width (lines_of s.listing) c.in_ok-next.next (sym c.in_ok-next.was ∙ c.seed.ensures)).0.0
