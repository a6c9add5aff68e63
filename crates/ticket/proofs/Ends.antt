-- The last line, and how long a ticket is. Assumes nothing.
use Rattle.std.proofs.Common.{◌≡◌, ℕ, ◌*◌, ◌≤◌, List, [], ◌∷◌, ◌++◌, length, Some, None, Ok, codes, decimal, Option, Result, sym, refl, ap, ◌∙◌, subst, arith, length-append}
use Rattle.std.specs.Str.{bytes_eq as same_text}
use Rattle.std.specs.List.{flat_map, AllByRecursion}
use Rattle.std.specs.Cmp.Lexicographic.{bytes_decides}
use Rattle.rules.specs.declared.Body.{Body}
use Rattle.rules.specs.declared.Kind.{Kind}
use Rattle.rules.specs.declared.Kind.TheVariants.{Options, Gaps, Faces}
use Rattle.rules.specs.declared.Rule.{Rule as RuleRecord}
use Rattle.fields.specs.Limits.{most_requests, most_checks, most_rules}
use Rattle.fields.specs.Cuts.{cut, after}
use Rattle.fields.specs.Faults.{at_field}
use Rattle.fields.specs.Layout.{most}
use Rattle.ticket.specs.Lines.{next_line, end_value, end_entry, end_line}
use Rattle.fields.specs.Steps.{◌>>=◌, or_fault}
use Rattle.ticket.specs.Text.{rule_text, line_text, header_text}
use Rattle.ticket.specs.Tickets.{SomeInRange, RuleInRange}
use Rattle.ticket.specs.declared.reader.Header.{Header}
use Rattle.fields.specs.declared.fault.Flaw.TheVariants.{Form}
use Rattle.fields.specs.declared.fault.LineFault.{LineFault}
use Rattle.fields.specs.declared.fault.LineFault.TheVariants.{Cut, Key, Field}
use Rattle.fields.specs.declared.layout.Sort.TheVariants.{Rule}
use Rattle.fields.specs.declared.layout.Style.TheVariants.{Number}
use Rattle.fields.specs.declared.value.Value.TheVariants.{Plain}
use Rattle.ticket.proofs.Bodies.{kind, written}
use Rattle.fields.proofs.Outcomes.{then_ok, or_fault_ok, cond_ok, same_ok}
use Rattle.fields.proofs.Placed.{commas_short}
use Rattle.fields.proofs.Spelling.{spelled_short}
use Rattle.fields.proofs.Splits.{cut_whole, after_whole}

pub end_line_said : (line : ℕ) (rest : List ℕ) → end_line line (codes "end=ticket\n" ++ rest) ≡ Ok rest
end_line_said line rest = refl

-- the steps after CUT
abbrev end_rest : (line : ℕ) → List ℕ × List ℕ → Result (List ℕ) LineFault
end_rest line p = end_entry line p.0 >>= λ _. Ok p.1

pub end_line_ok : (line : ℕ) (text rest : List ℕ) → end_line line text ≡ Ok rest → text ≡ codes "end=ticket\n" ++ rest
end_line_ok line text rest e =
    let a = then_ok (next_line line text) (end_rest line) rest e in
    let d = then_ok (end_entry line a.0.0) (λ _. Ok a.0.1) rest a.2 in
    let b = then_ok (or_fault (Key line) (after (codes "end=") a.0.0)) (λ value. end_value line value) d.0 d.1 in
    let whole = cut_whole 10 text a.0 (or_fault_ok (Cut line) (cut 10 text) a.0 a.1) in
    let begins = after_whole (codes "end=") a.0.0 b.0 (or_fault_ok (Key line) (after (codes "end=") a.0.0) b.0 b.1) in
    let test = cond_ok (same_text b.0 (codes "ticket")) (Ok tt) (Field (at_field Form line 1)) d.0 b.2 in
    from_parts a.0.0 a.0.1 b.0 whole begins ((bytes_decides b.0 (codes "ticket")).0 test.0) (same_ok a.0.1 rest d.2)
  where
    from_parts : (front left v : List ℕ) → text ≡ front ++ (10 ∷ left) → front ≡ codes "end=" ++ v → v ≡ codes "ticket" → left ≡ rest → text ≡ codes "end=ticket\n" ++ rest
    from_parts front left v whole begins value same = whole ∙ ap (λ (t : List ℕ). t ++ (10 ∷ left)) (begins ∙ ap (λ (t : List ℕ). codes "end=" ++ t) value) ∙ ap (λ (t : List ℕ). codes "end=ticket\n" ++ t) same

-- LENGTHS

most_fields : (k : Kind) → most (Rule k) ≤ 10
most_fields Options = omega arith
most_fields Gaps = omega arith
most_fields Faces = omega arith

body_short : (requests owner : ℕ) (o : Option Body) → requests ≤ most_requests → owner ≤ requests → SomeInRange o → length (rule_text owner o) ≤ 92
body_short requests owner None small low range = absurd range
body_short requests owner (Some b) small low range =
    let w = written requests owner small low b range in
    let short = commas_short (Rule (kind b)) requests 1 w.values w.valued.placed in
    let fields : length w.values ≤ 10 = omega (arith, w.valued.count.1, most_fields (kind b)) in
    subst (λ (t : List ℕ). length t ≤ 92) (sym w.text) (omega arith)

line_short : (requests : ℕ) (r : RuleRecord) → requests ≤ most_requests → RuleInRange requests r → length (line_text r) ≤ 93
line_short requests r small range = omega (arith, length-append (rule_text r.owner r.body) (codes "\n"), body_short requests r.owner r.body small range.0 range.1)

pub rules_short : (requests : ℕ) (rs : List RuleRecord) → requests ≤ most_requests → AllByRecursion (RuleInRange requests) rs → length (flat_map line_text rs) ≤ 93 * length rs
rules_short requests [] small ranges = omega arith
rules_short requests (r ∷ rs) small ranges =
    let here = line_short requests r small ranges.0 in
    let more = rules_short requests rs small ranges.1 in
    omega (arith, length-append (line_text r) (flat_map line_text rs))

decimal_short : (n : ℕ) → n ≤ most_checks → length (decimal n) ≤ 8
decimal_short n small = spelled_short Number (Plain n) (omega arith)

pub header_short : (h : Header) → h.requests ≤ most_requests → h.checks ≤ most_checks → h.rules ≤ most_rules → length (header_text h) ≤ 100
header_short h requests checks rules =
    let a = decimal_short h.requests (omega arith) in
    let b = decimal_short h.checks checks in
    let c = decimal_short h.rules (omega arith) in
    simp length-append (omega arith)
