use Rattle.std.proofs.Common.{ℕ, ◌≡◌, ◌∙◌, ap, sym, subst, arith}
use Rattle.sets.specs.Requests.{everyone}
use Rattle.listing.specs.Orders.{keeps_more, NothingBefore}
use Rattle.listing.specs.Listed.{lines_of}
use Rattle.listing.proofs.Orders.{order_laws}
use Rattle.listing.proofs.SeedTop.{nothing_at_first}
use Rattle.listing.proofs.seeds.Search.new.Goals as goal

pub invariant_of-result-clause-narrow : goal.invariant_of-result-clause-narrow
invariant_of-result-clause-narrow c = omega (arith, c.min.ensures)

pub invariant_of-result-clause-room : goal.invariant_of-result-clause-room
invariant_of-result-clause-room c = omega (arith, c.args.room.room)

pub invariant_of-result-clause-led : goal.invariant_of-result-clause-led
invariant_of-result-clause-led c =
    let w : ℕ = c.min.result in
    let lines = lines_of c.args.room.listing in
    let all : c.all.result.bits ≡ everyone w = c.all.ensures ∙ ap everyone (sym c.min.ensures) in
    subst (NothingBefore (keeps_more w) w lines) (sym all) (nothing_at_first w (keeps_more w) (order_laws.0 w) lines)
