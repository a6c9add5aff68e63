use Rattle.std.proofs.Common.{sym, ap, ◌∙◌}
use Rattle.report.specs.Explained.{accepted_text}
use Rattle.report.proofs.Exact.{as_many, first_read, rules_within, ticket_read, answers_report}
use Rattle.report.proofs.Exact.{text_read, refusal_read}
use Rattle.report.proofs.explained.explain.Goals as goal

-- what was read is a ticket, so its numbers keep to the limits
pub accepted-report-requires-clause-requests : goal.accepted-report-requires-clause-requests
accepted-report-requires-clause-requests c =
    (ticket_read c.args.text.now c.read.ensures.exact c.in-Ok.header
    (sym c.in-Ok.is ∙ c.read.ensures.answer)).requests

pub accepted-report-requires-clause-checks : goal.accepted-report-requires-clause-checks
accepted-report-requires-clause-checks c =
    (ticket_read c.args.text.now c.read.ensures.exact c.in-Ok.header
    (sym c.in-Ok.is ∙ c.read.ensures.answer)).checks

-- the report of the ticket that was read
pub returns-clause-answered : goal.returns-clause-answered
returns-clause-answered c =
    let text = c.args.text.now in
    let header = c.in-Ok.header in
    let ok = sym c.in-Ok.is ∙ c.read.ensures.answer in
    answers_report text c.read.ensures.exact header ok c.accepted-report.result
    (c.accepted-report.ensures
    ∙ ap (accepted_text header)
    (first_read text c.read.new.rules c.read.ensures.exact header ok c.read.ensures.list))

pub returns-clause-text : goal.returns-clause-text
returns-clause-text c =
    let text = c.args.text.now in
    let header = c.in-Ok.header in
    let ok = sym c.in-Ok.is ∙ c.read.ensures.answer in
    c.accepted-report.ensures
    ∙ ap (accepted_text header)
    (first_read text c.read.new.rules c.read.ensures.exact header ok c.read.ensures.list)
    ∙ text_read text header ok

-- and its refusal
pub returns-in-Err-clause-text : goal.returns-in-Err-clause-text
returns-in-Err-clause-text c =
    refusal_read c.args.text.now c.in-Err.fault (sym c.in-Err.is ∙ c.read.ensures.answer)

-- the list has as many rules as the header says, so these can be handed on
pub slice_bounds-rules-end : goal.slice_bounds-rules-end
slice_bounds-rules-end c =
    rules_within c.args.text.now c.read.new.rules c.read.ensures.exact c.in-Ok.header
    (sym c.in-Ok.is ∙ c.read.ensures.answer) c.read.ensures.list

pub slice_bounds-accepted-end : goal.slice_bounds-accepted-end
slice_bounds-accepted-end c =
    as_many c.args.text.now c.read.new.rules c.read.ensures.exact c.in-Ok.header
    (sym c.in-Ok.is ∙ c.read.ensures.answer) c.read.ensures.list
