use Rattle.std.proofs.Common.{◌≡◌, ℕ, ◌+◌, ◌-◌, List, length, take, Ok, Err, Result, sym, ap, ◌∙◌, arith}
use native.Mathlib.Nat.{sub-zero}
use Rattle.std.proofs.lemmas.List.{length-take-le}
use Rattle.std.proofs.lemmas.Result.{err_from_is_err_and}
use Rattle.rules.specs.declared.Rule.{Rule}
use Rattle.ticket.specs.Lines.{rule_lines, end_line}
use Rattle.ticket.specs.Reading.{headers, lines}
use Rattle.fields.specs.Steps.{◌>>=◌}
use Rattle.fields.specs.declared.fault.LineFault.{LineFault}
use Rattle.ticket.specs.declared.reader.Header.{Header}
use Rattle.ticket.proofs.reader.lines.Goals as goal

-- the last line is at fault
last_fault : (room : ℕ) (text : List ℕ) (h : Header) (rest : List ℕ) (p : List Rule × List ℕ) (e : LineFault) → headers room text ≡ Ok (h, rest) → rule_lines h.rules h.requests 5 rest ≡ Ok p → end_line (h.rules + 5) p.1 ≡ Err e → lines room text ≡ Err e
last_fault room text h rest p e first second third =
    ap (λ (r : Result (Header × List ℕ) LineFault). r >>= λ k. rule_lines k.0.rules k.0.requests 5 k.1 >>= λ q. end_line (k.0.rules + 5) q.1 >>= λ left. Ok (k.0, q.0, left)) first
    ∙ ap (λ (r : Result (List Rule × List ℕ) LineFault). r >>= λ q. end_line (h.rules + 5) q.1 >>= λ left. Ok (h, q.0, left)) second
    ∙ ap (λ (r : Result (List ℕ) LineFault). r >>= λ left. Ok (h, p.0, left)) third

pub returns-in_err-end : goal.returns-in_err-end
returns-in_err-end c =
    let q = err_from_is_err_and c.from_residual-in_err-end.result c.from_residual-in_err-end.ensures.1 in
    let h = c.in_ok-header.header in
    let rest = c.in_ok-header.rest in
    let n = h.rules in
    let long : length (take (n - 0) c.args.rules.now) ≡ n = ap (λ k. length (take k c.args.rules.now)) (sub-zero n) ∙ length-take-le n c.args.rules.now c.in_ok-header.ensures.few in
    let rules : rule_lines n h.requests 5 rest.text.now ≡ Ok (c.rule_lines.new.rules, c.rule_lines.new.rest.text.now) = cc (long, c.in_ok-header.ensures.next, c.in_ok-rule_lines.ensures.0) in
    let line : n + 5 ≡ c.rule_lines.new.rest.line = omega (arith, long, c.in_ok-header.ensures.next, c.in_ok-rule_lines.ensures.1) in
    let end : end_line (n + 5) c.rule_lines.new.rest.text.now ≡ Err c.in_err-end.field-0.0 = ap (λ l. end_line l c.rule_lines.new.rest.text.now) line ∙ c.in_err-end.ensures in
    rw (q.1, q.2) (last_fault (length c.args.rules.now) c.args.text.now h rest.text.now (c.rule_lines.new.rules, c.rule_lines.new.rest.text.now) c.in_err-end.field-0.0 (sym c.in_ok-header.ensures.value) rules end)
