use Rattle.std.proofs.Common.{◌∙◌}
use Rattle.streams.proofs.Told.{right}
use Rattle.streams.proofs.replies.reply_to.Goals as goal

pub returns-clause-text : goal.returns-clause-text
returns-clause-text c =
    let told = right c.args.ticket.items c.as_slice.result.now c.explain.result
    c.in_ok-answer.answer c.as_slice.ensures.value c.explain.ensures.answered c.in_ok-answer.was in
    c.in_ok-text.ensures ∙ told.said

pub returns-clause-fault : goal.returns-clause-fault
returns-clause-fault c =
    let told = right c.args.ticket.items c.as_slice.result.now c.explain.result
    c.in_ok-answer.answer c.as_slice.ensures.value c.explain.ensures.answered c.in_ok-answer.was in
    c.fault-fault.ensures ∙ told.fault

pub returns-clause-truly : goal.returns-clause-truly
returns-clause-truly c =
    let told = right c.args.ticket.items c.as_slice.result.now c.explain.result
    c.in_ok-answer.answer c.as_slice.ensures.value c.explain.ensures.answered c.in_ok-answer.was in
    told.truly
