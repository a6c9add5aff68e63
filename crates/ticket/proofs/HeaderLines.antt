-- The four header lines together. Assumes nothing.
use Rattle.std.proofs.Common.{◌≡◌, ℕ, ◌+◌, ◌≤◌, leb, List, ◌∷◌, ◌++◌, Ok, codes, decimal, Result, sym, ap, ◌∙◌, subst, ap₂, append_assoc, arith}
use Rattle.std.proofs.lemmas.Fmt.{decimal_digit}
use Rattle.std.proofs.lemmas.Bool.{leb-true}
use Rattle.fields.specs.Limits.{most_requests, most_checks, most_rules}
use Rattle.fields.specs.Faults.{at_field}
use Rattle.ticket.specs.Lines.{header_line}
use Rattle.ticket.specs.Reading.{has_room, headers}
use Rattle.fields.specs.Steps.{◌>>=◌}
use Rattle.ticket.specs.Text.{header_text}
use Rattle.ticket.specs.declared.reader.Header.{Header}
use Rattle.fields.specs.declared.fault.Flaw.TheVariants.{Table}
use Rattle.fields.specs.declared.fault.LineFault.{LineFault}
use Rattle.fields.specs.declared.fault.LineFault.TheVariants.{Field}
use Rattle.fields.specs.declared.layout.Heading.TheVariants.{Ticket, Requests, Checks, Rules}
use Rattle.ticket.proofs.Headings.{Headed, header_said, header_line_said, header_line_ok}
use Rattle.fields.proofs.Outcomes.{then_ok, cond_ok, same_ok}

-- numbers in range
pub record Numbered (h : Header) : Type 0 where
  pub requests : h.requests ≤ most_requests
  pub checks : h.checks ≤ most_checks
  pub few : h.rules ≤ most_rules

-- the header lines, one after another
abbrev requests_said : Header → (rest : List ℕ) → List ℕ
requests_said h rest = header_said Requests h.requests (header_said Checks h.checks (header_said Rules h.rules rest))

header_text_said : (h : Header) (rest : List ℕ) → header_text h ++ rest ≡ header_said Ticket 1 (requests_said h rest)
header_text_said h rest =
    let last : List ℕ = decimal h.rules ++ codes "\n" in
    let third : List ℕ = decimal h.checks ++ (codes "\nrules=" ++ last) in
    let fourth = append_assoc (decimal h.rules) (codes "\n") rest in
    ap (λ (t : List ℕ). codes "ticket=1\nrequests=" ++ t)
    (append_assoc (decimal h.requests) (codes "\nchecks=" ++ third) rest
    ∙ ap (λ (t : List ℕ). decimal h.requests ++ (codes "\nchecks=" ++ t)) (append_assoc (decimal h.checks) (codes "\nrules=" ++ last) rest ∙ ap (λ (t : List ℕ). decimal h.checks ++ (codes "\nrules=" ++ t)) fourth))
    ∙ ap (λ (t : List ℕ). codes "ticket=" ++ (t ++ (10 ∷ requests_said h rest))) (sym (decimal_digit 1 (omega arith)))

-- the steps after each line
abbrev pub after_rules : (room n k : ℕ) → ℕ × List ℕ → Result (Header × List ℕ) LineFault
after_rules room n k r = has_room r.0 room >>= λ _. Ok (record { requests = n; checks = k; rules = r.0 }, r.1)

abbrev pub after_checks : (room n : ℕ) → ℕ × List ℕ → Result (Header × List ℕ) LineFault
after_checks room n k = header_line Rules 4 k.1 >>= after_rules room n k.0

abbrev pub after_requests : (room : ℕ) → ℕ × List ℕ → Result (Header × List ℕ) LineFault
after_requests room n = header_line Checks 3 n.1 >>= after_checks room n.0

abbrev pub after_ticket : (room : ℕ) → ℕ × List ℕ → Result (Header × List ℕ) LineFault
after_ticket room a = header_line Requests 2 a.1 >>= after_requests room

-- TABLE is all that can stop the text of headers in range
pub headers_said : (room : ℕ) (h : Header) (rest : List ℕ) → Numbered h → headers room (header_text h ++ rest) ≡ (has_room h.rules room >>= λ _. Ok (h, rest))
headers_said room h rest range =
    let end : List ℕ = header_said Rules h.rules rest in
    let later : List ℕ = header_said Checks h.checks end in
    ap (headers room) (header_text_said h rest)
    ∙ ap (λ (r : Result (ℕ × List ℕ) LineFault). r >>= after_ticket room) (header_line_said Ticket 1 1 (requests_said h rest) (omega arith, omega arith))
    ∙ ap (λ (r : Result (ℕ × List ℕ) LineFault). r >>= after_requests room) (header_line_said Requests 2 h.requests later (omega arith, range.requests))
    ∙ ap (λ (r : Result (ℕ × List ℕ) LineFault). r >>= after_checks room h.requests) (header_line_said Checks 3 h.checks end (omega arith, range.checks))
    ∙ ap (λ (r : Result (ℕ × List ℕ) LineFault). r >>= after_rules room h.requests h.checks) (header_line_said Rules 4 h.rules rest (omega arith, range.few))

-- what headers say: numbers in range, with room for the rules, and their text
abbrev pub Headers : (room : ℕ) → List ℕ → Header × List ℕ → Type 0
Headers room text q = (text ≡ header_text q.0 ++ q.1) × Numbered q.0 × (q.0.rules ≤ room)

pub headers_ok : (room : ℕ) (text : List ℕ) (q : Header × List ℕ) → headers room text ≡ Ok q → Headers room text q
headers_ok room text q e =
    let a = then_ok (header_line Ticket 1 text) (after_ticket room) q e in
    let b = then_ok (header_line Requests 2 a.0.1) (after_requests room) q a.2 in
    let c = then_ok (header_line Checks 3 b.0.1) (after_checks room b.0.0) q b.2 in
    let d = then_ok (header_line Rules 4 c.0.1) (after_rules room b.0.0 c.0.0) q c.2 in
    let f = then_ok (has_room d.0.0 room) (λ _. Ok (record { requests = b.0.0; checks = c.0.0; rules = d.0.0 }, d.0.1)) q d.2 in
    from_parts a.0 b.0 c.0 d.0 (header_line_ok Ticket 1 text a.0 a.1) (header_line_ok Requests 2 a.0.1 b.0 b.1) (header_line_ok Checks 3 b.0.1 c.0 c.1) (header_line_ok Rules 4 c.0.1 d.0 d.1)
    (leb-true d.0.0 room (cond_ok (leb d.0.0 room) (Ok tt) (Field (at_field Table 4 1)) f.0 f.1).0) (same_ok (record { requests = b.0.0; checks = c.0.0; rules = d.0.0 }, d.0.1) q f.2)
  where
    from_parts :
        (a b c d : ℕ × List ℕ)
        → (text ≡ header_said Ticket a.0 a.1) × Headed Ticket a.0
        → (a.1 ≡ header_said Requests b.0 b.1) × Headed Requests b.0
        → (b.1 ≡ header_said Checks c.0 c.1) × Headed Checks c.0
        → (c.1 ≡ header_said Rules d.0 d.1) × Headed Rules d.0
        → d.0 ≤ room → (record { requests = b.0; checks = c.0; rules = d.0 }, d.1) ≡ q → Headers room text q
    from_parts a b c d first second third fourth fits same =
        let h : Header = record { requests = b.0; checks = c.0; rules = d.0 } in
        let one : a.0 ≡ 1 = omega arith in
        let rest : a.1 ≡ requests_said h d.1 = second.0 ∙ ap (header_said Requests b.0) (third.0 ∙ ap (header_said Checks c.0) fourth.0) in
        let whole : text ≡ header_said Ticket 1 (requests_said h d.1) = first.0 ∙ ap₂ (header_said Ticket) one rest in
        subst (Headers room text) same (whole ∙ sym (header_text_said h d.1), record { requests = second.1.1; checks = third.1.1; few = fourth.1.1 }, fits)

-- the headers from their last line, where the first three give numbers
pub headers_last :
    (room : ℕ) (text : List ℕ) (i j l : ℕ) (a n k : ℕ × List ℕ)
    → (header_line Ticket 1 text ≡ Ok a) × (i ≡ 1 + 1) → (header_line Requests i a.1 ≡ Ok n) × (j ≡ i + 1) → (header_line Checks j n.1 ≡ Ok k) × (l ≡ j + 1)
    → headers room text ≡ (header_line Rules l k.1 >>= after_rules room n.0 k.0)
headers_last room text i j l a n k first second third =
    let two : 2 ≡ i = omega arith in
    let three : 3 ≡ j = omega arith in
    let four : 4 ≡ l = omega arith in
    ap (λ (o : Result (ℕ × List ℕ) LineFault). o >>= after_ticket room) first.0
    ∙ ap (λ (o : Result (ℕ × List ℕ) LineFault). o >>= after_requests room) (ap (λ line. header_line Requests line a.1) two ∙ second.0)
    ∙ ap (λ (o : Result (ℕ × List ℕ) LineFault). o >>= after_checks room n.0) (ap (λ line. header_line Checks line n.1) three ∙ third.0)
    ∙ ap (λ line. header_line Rules line k.1 >>= after_rules room n.0 k.0) four
