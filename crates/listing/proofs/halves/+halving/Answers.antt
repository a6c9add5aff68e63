use Rattle.std.proofs.Common.{◌-◌, ◌^◌, ◌<◌, ◌≤◌, length, take, drop, inl, inr, sym, ap, ◌∙◌, arith, rules}
use Rattle.sets.specs.Members.{size}
use Rattle.sets.proofs.Sizes.{ones_size}
use Rattle.listing.specs.Halving.{ends}
use Rattle.listing.proofs.HalveCode.{answer_missing, answer_fit, answer_unfit, ends_whole, upper_asked, lower_asked, both_ended}
use Rattle.listing.proofs.halves.+halving.Goals as goal
use Rattle.listing.proofs.halves.+halving.Goals.{take_apart-then-depth-eq0-via-then-depth-eq0, take_apart-then-depth-eq0-via-else-depth-eq0+then-len-le1}

pub halve-returns-in-empty : goal.halve-returns-in-empty
halve-returns-in-empty t c =
    answer_missing c.args.depth c.args.held.bits c.args.added.bits c.args.part.bits c.args.answers.now (sym c.is_empty.ensures ∙ c.if-is_empty.false) c.in-empty.len_below

pub halve-returns-then-fit : goal.halve-returns-then-fit
halve-returns-then-fit t c =
    let some = sym c.is_empty.ensures ∙ c.if-is_empty.false in
    c.take_apart-then-fit.ensures
    ∙ answer_fit c.args.depth c.args.held.bits c.args.added.bits c.args.part.bits c.args.answers.now some c.in-len1-up.len_at_least c.if-fit.true

pub halve-returns-else-fit : goal.halve-returns-else-fit
halve-returns-else-fit t c =
    let some = sym c.is_empty.ensures ∙ c.if-is_empty.false in
    let answers = c.args.answers.now in
    ap (λ n. ends n (take (length answers - 1) (drop 1 answers))) c.empty.ensures
    ∙ answer_unfit c.args.depth c.args.held.bits c.args.added.bits c.args.part.bits answers some c.in-len1-up.len_at_least c.if-fit.false

pub take_apart-returns-then-depth-eq0 : goal.take_apart-returns-then-depth-eq0
take_apart-returns-then-depth-eq0 t c =
    let p = c.args.part.bits in
    let small : p < 2 ^ 32 = search rules in
    elim c.then-depth-eq0.branch [
      | take_apart-then-depth-eq0-via-then-depth-eq0 w ↦ ends_whole c.args.depth c.args.held.bits p c.args.answers.now (inl w.if-depth-eq0.true)
      | take_apart-then-depth-eq0-via-else-depth-eq0+then-len-le1 w ↦
          let few : size p ≤ 1 = omega (arith, ones_size p small, w.len.ensures, w.if-len-le1.true) in
          ends_whole c.args.depth c.args.held.bits p c.args.answers.now (inr few)
    ]

pub take_apart-returns-in-Asks : goal.take_apart-returns-in-Asks
take_apart-returns-in-Asks t c =
    let p = c.args.part.bits in
    let small : p < 2 ^ 32 = search rules in
    let more : 1 < size p = omega (arith, ones_size p small, c.len.ensures, c.if-len-le1.false) in
    upper_asked c.args.depth c.args.held.bits p c.lower_half-first.result.bits c.minus-second.result.bits c.union.result.bits c.if-depth-eq0.false more c.lower_half-first.ensures c.minus-second.ensures c.union.ensures c.in-Asks.set.bits c.args.answers.now c.in-Asks.ensures

pub take_apart-returns-in-Asks-halve : goal.take_apart-returns-in-Asks-halve
take_apart-returns-in-Asks-halve t c =
    let p = c.args.part.bits in
    let small : p < 2 ^ 32 = search rules in
    let more : 1 < size p = omega (arith, ones_size p small, c.len.ensures, c.if-len-le1.false) in
    lower_asked c.args.depth c.args.held.bits p c.lower_half-first.result.bits c.minus-second.result.bits c.union.result.bits c.if-depth-eq0.false more c.lower_half-first.ensures c.minus-second.ensures c.union.ensures c.in-Ends.upper.bits c.union-in-Ends.result.bits c.in-Asks-halve.set.bits c.args.answers.now c.in-Ends.rest.now c.in-Ends.ensures c.union-in-Ends.ensures c.in-Asks-halve.ensures

pub take_apart-returns-in-Ends-halve : goal.take_apart-returns-in-Ends-halve
take_apart-returns-in-Ends-halve t c =
    let p = c.args.part.bits in
    let small : p < 2 ^ 32 = search rules in
    let more : 1 < size p = omega (arith, ones_size p small, c.len.ensures, c.if-len-le1.false) in
    both_ended c.args.depth c.args.held.bits p c.lower_half-first.result.bits c.minus-second.result.bits c.union.result.bits c.if-depth-eq0.false more c.lower_half-first.ensures c.minus-second.ensures c.union.ensures c.in-Ends.upper.bits c.union-in-Ends.result.bits c.in-Ends-halve.lower.bits c.union-in-Ends-halve.result.bits c.args.answers.now c.in-Ends.rest.now c.in-Ends-halve.rest.now c.in-Ends.ensures c.union-in-Ends.ensures c.in-Ends-halve.ensures c.union-in-Ends-halve.ensures
