use Rattle.std.proofs.Common.{◌≡◌, List, Some, sym, ap, ◌∙◌}
use Rattle.explainer.specs.Moments.{last_made}
use Rattle.explainer.specs.declared.moments.Moment.{Moment}
use Rattle.report.specs.LastCall.{ended_made}
use Rattle.report.specs.Piles.{below_meaning}
use Rattle.report.proofs.Accepting.{told_as}
use Rattle.report.proofs.explained.accepted.Goals as goal

-- the last call was a NEXT that answered no line
pub unreachable-requires : goal.unreachable-requires
unreachable-requires c =
    let end = c.list_all-explainer.ensures.ended in
    let told : ended_made (last_made c.list_all-explainer.result.moments.items) ≡ c.ended.result =
    ap (λ (l : List Moment). ended_made (last_made l)) (sym c.as_slice.ensures.value) ∙ sym c.ended.ensures in
    c.in_default.not-Some end.ended (sym told ∙ end.told)

-- so the report tells of the listing
pub returns : goal.returns
returns c =
    let t = c.tally-tally.result in
    let ran = c.list_all-explainer.result in
    let last : ended_made (last_made ran.moments.items) ≡ Some c.in-Some.ended =
    ap (λ (l : List Moment). ended_made (last_made l)) (sym c.as_slice.ensures.value) ∙ sym c.ended.ensures ∙ c.in-Some.is in
    told_as below_meaning _ _ c.args.rules.now c.args.header.requests c.args.header.checks c.requires.requests c.requires.checks
    c.below.result c.below.ensures.meant ran.moments.items ran.explainer c.list_all-explainer.ensures.run c.list_all-explainer.ensures.ended
    c.in-Some.ended _ t last c.into_parts-listing.ensures.listing c.tally-tally.ensures
