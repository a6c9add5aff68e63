use Rattle.std.proofs.lemmas.Result.{err_from_is_err_and}
use Rattle.ticket.proofs.HeaderLines.{headers_last}
use Rattle.ticket.proofs.reader.headers.Goals as goal

pub returns-in_err-rules-clause-value : goal.returns-in_err-rules-clause-value
returns-in_err-rules-clause-value c =
    let q = err_from_is_err_and c.from_residual-in_err-rules.result c.from_residual-in_err-rules.ensures.1 in
    let last = headers_last c.args.room c.args.text.now _ _ _ _ _ _ c.in_ok-header.ensures c.in_ok-requests.ensures c.in_ok-checks.ensures in
    rw (q.1, q.2, last, c.in_err-rules.ensures)

pub returns-in_err-check_room-clause-value : goal.returns-in_err-check_room-clause-value
returns-in_err-check_room-clause-value c =
    let q = err_from_is_err_and c.from_residual-in_err-check_room.result c.from_residual-in_err-check_room.ensures.1 in
    let last = headers_last c.args.room c.args.text.now _ _ _ _ _ _ c.in_ok-header.ensures c.in_ok-requests.ensures c.in_ok-checks.ensures in
    rw (q.1, q.2, last, c.in_ok-rules.ensures.0, ← c.in_err-check_room.ensures)

pub returns-clause-value : goal.returns-clause-value
returns-clause-value c =
    let last = headers_last c.args.room c.args.text.now _ _ _ _ _ _ c.in_ok-header.ensures c.in_ok-requests.ensures c.in_ok-checks.ensures in
    rw (last, c.in_ok-rules.ensures.0, ← c.in_ok-check_room.ensures)
