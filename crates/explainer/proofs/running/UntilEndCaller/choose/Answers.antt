use Rattle.std.proofs.Common.{◌∙◌, sym, ap, arith}
use Rattle.explainer.specs.Choosing.{after_line}
use Rattle.explainer.proofs.LastMade.{last_at, until_last}
use Rattle.explainer.proofs.running.UntilEndCaller.choose.Goals as goal

pub returns-in-Some : goal.returns-in-Some
returns-in-Some c =
    let item = c.in-Some.ensures.item in
    let x = c.in-Some.moment.now in
    let last = last_at c.args.moments.now _ x (omega (arith, item.3.0)) item.1 in
    c.after_line.ensures ∙ ap after_line c.next_answer.ensures ∙ sym (until_last c.args.moments.now x.made last)
