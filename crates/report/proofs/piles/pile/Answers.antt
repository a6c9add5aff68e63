use Rattle.std.proofs.Common.{◌≡◌, min, sym, ap, ◌∙◌, subst}
use Rattle.oracle.specs.Meaning.{limit}
use Rattle.layers.specs.Layered.{quota}
use Rattle.report.specs.Piles.{below_meaning, pile_meaning, piled, PileOf}
use Rattle.report.proofs.Piled.{piled_is}
use Rattle.report.proofs.piles.pile.Goals as goal

pub returns : goal.returns
returns c =
    let rules = c.args.rules.now in
    let r = c.with_checks.result in
    let is = c.with_checks.ensures in
    let number = min c.args.checks limit in
    let whole : pile_meaning r ≡ piled rules c.args.width c.args.checks =
    ap (λ x. quota x r.label (below_meaning r.below)) is.number
    ∙ ap (λ x. quota number x (below_meaning r.below)) is.label
    ∙ ap (λ x. quota number 1 (below_meaning x)) is.below ∙ ap (quota number 1) c.below.ensures.meant in
    record { meant = whole; exact = subst (PileOf rules c.args.width c.args.checks) (sym whole) (piled_is rules c.args.width c.args.checks) }
