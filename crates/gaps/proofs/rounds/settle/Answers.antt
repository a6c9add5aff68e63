use Rattle.std.proofs.Common.{sym, ◌∙◌}
use Rattle.std.proofs.lemmas.Bool.Decides.{Decides-int_eq, not_from_Decides}
use Rattle.std.proofs.lemmas.Slice.Eq.{slice_eq-Decides}
use Rattle.rules.specs.Force.{said}
use Rattle.sets.specs.Sets.{bits_of}
use Rattle.gaps.proofs.Searching.{searching_starts, searching_more, searching_rests, searching_ends}
use Rattle.gaps.proofs.rounds.settle.Goals as goal

pub loop-init : goal.loop-init
loop-init c = searching_starts (said (bits_of c.args.set) c.args.rules.now)

pub returns-then-eq : goal.returns-then-eq
returns-then-eq c =
    let same = (slice_eq-Decides Decides-int_eq c.lift-next.result c.loop.marks c.eq.result c.eq.ensures).0 c.if-eq.true in
    searching_rests c.loop.counter (bits_of c.args.set) c.args.rules.now c.loop.marks c.loop.invariant c.loop-test.true
    (sym c.lift-next.ensures ∙ same)

pub loop-preserved : goal.loop-preserved
loop-preserved c =
    let other = not_from_Decides _ (slice_eq-Decides Decides-int_eq c.lift-next.result c.loop.marks c.eq.result c.eq.ensures) c.if-eq.false in
    rw c.lift-next.ensures
    (searching_more c.loop.counter (bits_of c.args.set) c.args.rules.now c.loop.marks c.loop.invariant c.loop-test.true
    (λ same. other (c.lift-next.ensures ∙ same)))

pub returns : goal.returns
returns c = searching_ends c.loop.counter (bits_of c.args.set) c.args.rules.now c.loop.marks c.loop.invariant c.loop-test.false
