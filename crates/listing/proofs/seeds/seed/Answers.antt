use Rattle.std.proofs.Common.{sym, ap, ◌∙◌}
use Rattle.listing.specs.Lines.{explored}
use Rattle.listing.specs.Listed.{lines_of}
use Rattle.listing.specs.Seed.{seed_set}
use Rattle.listing.proofs.SeedSteps.{told_none}
use Rattle.listing.proofs.SeedTop.{seed_stays}
use Rattle.listing.proofs.seeds.seed.Goals as goal

pub returns-then-not-is_explored : goal.returns-then-not-is_explored
returns-then-not-is_explored c =
    let lines = lines_of c.args.listing.now in
    let same = c.lines-lines.ensures in
    seed_stays c.args.width lines c.args.top c.requires.inside c.requires.led
    (ap (λ l. explored l c.args.top.bits) (sym same) ∙ sym c.is_explored.ensures ∙ c.if-not-is_explored.true)

pub returns-in_err-decided : goal.returns-in_err-decided
returns-in_err-decided c =
    c.from_residual.ensures ∙ told_none c.args.width c.lines-lines.result.now c.in_err-decided.ensures ∙ ap (seed_set c.args.width) c.lines-lines.ensures
