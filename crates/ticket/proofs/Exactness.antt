-- The reader accepts the texts of tickets, and no other. Assumes nothing.
use Rattle.std.proofs.Common.{◌≡◌, ℕ, ◌+◌, ◌<◌, ◌≤◌, leb, List, [], ◌∷◌, ◌++◌, length, Ok, Err, codes, Result, refl, ap, ◌∙◌, subst, arith, length-append}
use Rattle.std.proofs.lemmas.Bool.{cond-true, cond-false, le-leb, lt-leb}
use Rattle.std.specs.List.{flat_map}
use Rattle.rules.specs.declared.Rule.{Rule}
use Rattle.fields.specs.Limits.{most_rules}
use Rattle.fields.specs.Faults.{at_field}
use Rattle.ticket.specs.Lines.{rule_lines, end_line}
use Rattle.ticket.specs.Reading.{longest, has_room, headers, lines, in_ticket, closed, reading}
use Rattle.fields.specs.Steps.{◌>>=◌}
use Rattle.ticket.specs.Text.{line_text, header_text, text_of}
use Rattle.ticket.specs.Tickets.{Ticket, Exact}
use Rattle.ticket.specs.declared.reader.Header.{Header}
use Rattle.fields.specs.declared.fault.Flaw.TheVariants.{Table}
use Rattle.fields.specs.declared.fault.LineFault.{LineFault}
use Rattle.fields.specs.declared.fault.LineFault.TheVariants.{Field}
use Rattle.ticket.specs.declared.fault.TicketFault.{TicketFault}
use Rattle.ticket.specs.declared.fault.TicketFault.TheVariants.{Long, Line, Tail}
use Rattle.ticket.proofs.Ends.{end_line_said, end_line_ok, rules_short, header_short}
use Rattle.ticket.proofs.HeaderLines.{Numbered, Headers, headers_said, headers_ok}
use Rattle.fields.proofs.Outcomes.{err_no_ok, then_ok, mapped_ok, cond_ok, same_ok}
use Rattle.ticket.proofs.RuleLines.{RuledAll, rule_lines_said, rule_lines_ok}

-- the steps after the headers, and after the rules
abbrev after_rules : Header × List ℕ → List Rule × List ℕ → Result (Header × List Rule × List ℕ) LineFault
after_rules h p = end_line (h.0.rules + 5) p.1 >>= λ rest. Ok (h.0, p.0, rest)

abbrev after_headers : Header × List ℕ → Result (Header × List Rule × List ℕ) LineFault
after_headers h = rule_lines h.0.rules h.0.requests 5 h.1 >>= after_rules h

abbrev pub close : Header × List Rule × List ℕ → Result (Header × List Rule) TicketFault
close p = closed p.0 p.1 p.2

-- the text of a ticket after its headers
abbrev body : List Rule → List ℕ
body rs = flat_map line_text rs ++ codes "end=ticket\n"

-- LONG: no ticket is
text_short : (h : Header) (rs : List Rule) → Ticket h rs → length (text_of h rs) ≤ longest
text_short h rs t =
    let front = header_short h t.requests t.checks t.few in
    let rules = rules_short h.requests rs t.requests t.each in
    let few : length rs ≤ most_rules = subst (λ (n : ℕ). n ≤ most_rules) t.rules t.few in
    omega (arith, length-append (header_text h) (body rs), length-append (flat_map line_text rs) (codes "end=ticket\n"))

pub numbered : (h : Header) (rs : List Rule) → Ticket h rs → Numbered h
numbered h rs t = record { requests = t.requests; checks = t.checks; few = t.few }

lines_said : (room : ℕ) (h : Header) (rs : List Rule) → Ticket h rs → lines room (text_of h rs) ≡ ((has_room h.rules room >>= λ _. Ok (h, body rs)) >>= after_headers)
lines_said room h rs t = ap (λ (r : Result (Header × List ℕ) LineFault). r >>= after_headers) (headers_said room h (body rs) (numbered h rs t))

rules_said : (h : Header) (rs : List Rule) → Ticket h rs → after_headers (h, body rs) ≡ Ok (h, rs, [])
rules_said h rs t =
    ap (λ (n : ℕ). rule_lines n h.requests 5 (body rs) >>= after_rules (h, body rs)) t.rules
    ∙ ap (λ (r : Result (List Rule × List ℕ) LineFault). r >>= after_rules (h, body rs)) (rule_lines_said h.requests 5 rs (codes "end=ticket\n") t.requests t.each)
    ∙ ap (λ (r : Result (List ℕ) LineFault). r >>= λ rest. Ok (h, rs, rest)) (end_line_said (h.rules + 5) [])

-- what the reader makes of the text of a ticket, from what its lines give
reading_said : (room : ℕ) (h : Header) (rs : List Rule) → Ticket h rs → (r : Result (Header × List Rule × List ℕ) LineFault) → lines room (text_of h rs) ≡ r → reading (text_of h rs) room ≡ (in_ticket r >>= close)
reading_said room h rs t r e =
    cond-true (leb (length (text_of h rs)) longest) (in_ticket (lines room (text_of h rs)) >>= close) (Err Long) (le-leb (length (text_of h rs)) longest (text_short h rs t))
    ∙ ap (λ (o : Result (Header × List Rule × List ℕ) LineFault). in_ticket o >>= close) e

accepted : (room : ℕ) (h : Header) (rs : List Rule) → Ticket h rs → h.rules ≤ room → reading (text_of h rs) room ≡ Ok (h, rs)
accepted room h rs t fits =
    let has : has_room h.rules room ≡ Ok tt = cond-true (leb h.rules room) (Ok tt) (Err (Field (at_field Table 4 1))) (le-leb h.rules room fits) in
    reading_said room h rs t (Ok (h, rs, [])) (lines_said room h rs t ∙ ap (λ (r : Result (Unit {0}) LineFault). (r >>= λ _. Ok (h, body rs)) >>= after_headers) has ∙ rules_said h rs t)

refused : (room : ℕ) (h : Header) (rs : List Rule) → Ticket h rs → room < h.rules → reading (text_of h rs) room ≡ Err (Line (Field (at_field Table 4 1)))
refused room h rs t short =
    let lacks : has_room h.rules room ≡ Err (Field (at_field Table 4 1)) = cond-false (leb h.rules room) (Ok tt) (Err (Field (at_field Table 4 1))) (lt-leb h.rules room short) in
    reading_said room h rs t (Err (Field (at_field Table 4 1))) (lines_said room h rs t ∙ ap (λ (r : Result (Unit {0}) LineFault). (r >>= λ _. Ok (h, body rs)) >>= after_headers) lacks)

closed_ok : (h : Header) (rs : List Rule) (rest : List ℕ) (q : Header × List Rule) → closed h rs rest ≡ Ok q → (rest ≡ []) × ((h, rs) ≡ q)
closed_ok h rs [] q e = (refl, same_ok (h, rs) q e)
closed_ok h rs (b ∷ bs) q e = absurd (err_no_ok (Tail (h.rules + 6)) q e)

-- what the lines say: a ticket, with room for its rules, and its text before what is left
abbrev pub LinesOf : (room : ℕ) → List ℕ → Header × List Rule × List ℕ → Type 0
LinesOf room text p = Ticket p.0 p.1 × (text ≡ header_text p.0 ++ (flat_map line_text p.1 ++ (codes "end=ticket\n" ++ p.2))) × (p.0.rules ≤ room)

pub lines_ok : (text : List ℕ) (room : ℕ) (q : Header × List Rule × List ℕ) → lines room text ≡ Ok q → LinesOf room text q
lines_ok text room q e =
    let a = then_ok (headers room text) after_headers q e in
    let b = then_ok (rule_lines a.0.0.rules a.0.0.requests 5 a.0.1) (after_rules a.0) q a.2 in
    let c = then_ok (end_line (a.0.0.rules + 5) b.0.1) (λ rest. Ok (a.0.0, b.0.0, rest)) q b.2 in
    from_parts a.0.0 a.0.1 b.0 c.0 (headers_ok room text a.0 a.1) (rule_lines_ok a.0.0.rules a.0.0.requests 5 a.0.1 b.0 b.1) (end_line_ok (a.0.0.rules + 5) b.0.1 c.0 c.1)
    (same_ok (a.0.0, b.0.0, c.0) q c.2)
  where
    from_parts : (h : Header) (rest : List ℕ) (p : List Rule × List ℕ) (left : List ℕ) → Headers room text (h, rest) → RuledAll h.rules h.requests rest p → p.1 ≡ codes "end=ticket\n" ++ left → (h, p.0, left) ≡ q → LinesOf room text q
    from_parts h rest p left head rules end same =
        let ticket : Ticket h p.0 = record { requests = head.1.requests; checks = head.1.checks; few = head.1.few; rules = rules.1; each = rules.2 } in
        let rest_is : rest ≡ flat_map line_text p.0 ++ (codes "end=ticket\n" ++ left) = rules.0 ∙ ap (λ (t : List ℕ). flat_map line_text p.0 ++ t) end in
        subst (LinesOf room text) same (ticket, head.0 ∙ ap (λ (t : List ℕ). header_text h ++ t) rest_is, head.2)

-- the text is that of a ticket, and there is room for its rules
abbrev Taken : (room : ℕ) → List ℕ → Header × List Rule → Type 0
Taken room text q = Ticket q.0 q.1 × (text ≡ text_of q.0 q.1) × (q.0.rules ≤ room)

taken : (text : List ℕ) (room : ℕ) (q : Header × List Rule) → reading text room ≡ Ok q → Taken room text q
taken text room q e =
    let a = cond_ok (leb (length text) longest) (in_ticket (lines room text) >>= close) Long q e in
    let b = then_ok (in_ticket (lines room text)) close q a.1 in
    from_parts b.0 (lines_ok text room b.0 (mapped_ok Line (lines room text) b.0 b.1)) (closed_ok b.0.0 b.0.1 b.0.2 q b.2)
  where
    from_parts : (p : Header × List Rule × List ℕ) → LinesOf room text p → (p.2 ≡ []) × ((p.0, p.1) ≡ q) → Taken room text q
    from_parts p said last = subst (Taken room text) last.1 (said.0, said.1 ∙ ap (λ (t : List ℕ). header_text p.0 ++ (flat_map line_text p.1 ++ (codes "end=ticket\n" ++ t))) last.0, said.2)

pub exact : (text : List ℕ) (room : ℕ) → Exact text room
exact text room =
    record {
      only = λ h rs e. taken text room (h, rs) e;
      all = λ h rs t same fits. ap (λ (x : List ℕ). reading x room) same ∙ accepted room h rs t fits;
      short = λ h rs t same short. ap (λ (x : List ℕ). reading x room) same ∙ refused room h rs t short;
    }
