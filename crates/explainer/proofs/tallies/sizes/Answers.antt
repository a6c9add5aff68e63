use Rattle.std.proofs.Common.{◌≡◌, ◌+◌, take, get_or, ap, arith}
use Rattle.std.proofs.lemmas.List.{length-take}
use Rattle.listing.specs.declared.lines.Line.{Line}
use Rattle.listing.specs.declared.lines.Line.TheVariants.{Conflict}
use Rattle.sets.specs.Sets.{set_of}
use Rattle.listing.specs.Bill.{sizes as all_sizes}
use Rattle.explainer.proofs.Counting.{size_most, sizes_most, size_of, sizes_more, size_other}
use Rattle.explainer.proofs.tallies.sizes.Goals as goal
use Rattle.explainer.proofs.tallies.sizes.Goals.{in-Conflict, in_default}

pub overflow_add-total : goal.overflow_add-total
overflow_add-total c =
    let i = c.loop-line.line-index in
    let lines = c.args.lines.now in
    let one = size_most c.in-Conflict.conflict.bits in
    omega (arith, c.loop-line.invariant, sizes_most (take i lines), length-take i lines, c.requires, one, c.requests-total.ensures)

pub loop-line-preserved : goal.loop-line-preserved
loop-line-preserved c =
    let lines = c.args.lines.now in
    let i = c.loop-line.line-index in
    let d : Line = Conflict (set_of 0) in
    let more : all_sizes (take (i + 1) lines) ≡ all_sizes (take i lines) + size_of (get_or lines i d) = sizes_more lines i d c.loop-line-test.true in
    elim c.match-line.branch as (λ x. c.match-line.total ≡ all_sizes (take (i + 1) lines)) [
      | in-Conflict w ↦ omega (arith, more, c.loop-line.invariant, w.total-is, w.requests-total.ensures, ap size_of w.in-Conflict.is)
      | in_default w ↦ omega (arith, more, c.loop-line.invariant, w.total-is, size_other (get_or lines i d) w.in_default.not-Conflict)
    ]
