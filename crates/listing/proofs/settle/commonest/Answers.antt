use Rattle.std.proofs.Common.{◌^◌, ◌<◌, inl, inr, sym, subst, rules}
use Rattle.sets.specs.Members.{none, added_from}
use Rattle.sets.specs.Requests.{Part}
use Rattle.sets.proofs.Halves.{minus_part}
use Rattle.sets.proofs.Parts.{part_trans, part_below}
use Rattle.sets.proofs.Weights.{part_names}
use Rattle.listing.proofs.SettleCases.{less_smaller}
use Rattle.listing.proofs.settle.commonest.Goals as goal

pub loop-request-smaller : goal.loop-request-smaller
loop-request-smaller c =
    let small : c.args.of.bits < 2 ^ 32 = search rules in
    let within : c.loop-request.rest.bits < 2 ^ 32 = part_below 32 c.loop-request.rest.bits c.args.of.bits c.loop-request.invariant.0 small in
    less_smaller c.loop-request.rest.bits c.less_one-rest.result.bits c.in-Some.request within c.in-Some.ensures.0 c.less_one-rest.ensures

pub loop-request-smaller-in-Some : goal.loop-request-smaller-in-Some
loop-request-smaller-in-Some c =
    let small : c.args.of.bits < 2 ^ 32 = search rules in
    let within : c.loop-request.rest.bits < 2 ^ 32 = part_below 32 c.loop-request.rest.bits c.args.of.bits c.loop-request.invariant.0 small in
    less_smaller c.loop-request.rest.bits c.less_one-rest.result.bits c.in-Some.request within c.in-Some.ensures.0 c.less_one-rest.ensures

pub loop-request-preserved : goal.loop-request-preserved
loop-request-preserved c =
    let rest = c.loop-request.rest.bits in
    let less : Part c.less_one-rest.result.bits rest =
    subst (λ n. Part n rest) (sym c.less_one-rest.ensures) (minus_part rest (added_from 1 none c.in-Some.request))
    in (
      part_trans c.less_one-rest.result.bits rest c.args.of.bits less c.loop-request.invariant.0,
      elim c.loop-request.invariant.1 [ inl there ↦ inl there | inr at_first ↦ absurd (c.if-best-eq0.false at_first.0) ],
    )

pub loop-request-preserved-in-Some : goal.loop-request-preserved-in-Some
loop-request-preserved-in-Some c =
    let rest = c.loop-request.rest.bits in
    let less : Part c.less_one-rest.result.bits rest =
    subst (λ n. Part n rest) (sym c.less_one-rest.ensures) (minus_part rest (added_from 1 none c.in-Some.request))
    in (
      part_trans c.less_one-rest.result.bits rest c.args.of.bits less c.loop-request.invariant.0,
      inl (part_names rest c.args.of.bits c.loop-request.invariant.0 c.in-Some.request c.in-Some.ensures.0),
    )
