use Rattle.std.proofs.Common.{sym, ap, ◌∙◌, arith}
use Rattle.explainer.proofs.LastMade.{last_at}
use Rattle.report.specs.LastCall.{ended_next, ended_made}
use Rattle.report.proofs.explained.ended.Goals as goal

pub returns : goal.returns
returns c =
    let item = c.in_ok-last.ensures.item in
    c.ended_next.ensures ∙ ap ended_next c.next_answer.ensures
    ∙ ap ended_made (sym (last_at c.args.moments.now _ c.in_ok-last.field-0.now (omega (arith, item.3.0)) item.1))
