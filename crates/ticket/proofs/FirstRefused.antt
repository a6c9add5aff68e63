-- One answer is true of each text, and the reader gives it. Assumes nothing.
use Rattle.std.proofs.Common.{◌≡◌, ℕ, ◌+◌, ◌<◌, ◌≤◌, Bool, true, false, cond, leb, List, [], ◌∷◌, ◌++◌, length, Ok, Err, codes, Result, sym, refl, ap, ◌∙◌, subst, inl, inr, append_assoc, arith}
use Rattle.std.proofs.lemmas.Bool.{le-leb, lt-leb, leb-true, leb-false}
use Rattle.std.specs.List.{flat_map}
use Rattle.rules.specs.declared.Rule.{Rule}
use Rattle.fields.specs.Faults.{at_field}
use Rattle.fields.specs.Flaws.{FlawLaws}
use Rattle.fields.specs.Steps.{◌>>=◌}
use Rattle.fields.specs.declared.fault.Flaw.TheVariants.{Table}
use Rattle.fields.specs.declared.fault.LineFault.{LineFault}
use Rattle.fields.specs.declared.fault.LineFault.TheVariants.{Field}
use Rattle.fields.specs.FirstOf.{IsFirst}
use Rattle.ticket.specs.FirstFault.{IsFirstFault}
use Rattle.ticket.specs.FirstRefusal.{HasTail, IsRefused, IsAccepted}
use Rattle.ticket.specs.Refuses.{Refuses}
use Rattle.ticket.specs.LineFaults.{HasFault}
use Rattle.ticket.specs.Lines.{rule_lines}
use Rattle.ticket.specs.Reading.{longest, lines, in_ticket, closed, reading, answer}
use Rattle.ticket.specs.RefusalLaws.{Outcome, refused, accepted, IsTrueOf, ReadByFirst, OneOutcome, RefusalLaws}
use Rattle.ticket.specs.Refusals.{told}
use Rattle.ticket.specs.Text.{line_text, header_text, text_of}
use Rattle.ticket.specs.Tickets.{Ticket}
use Rattle.ticket.specs.declared.fault.TicketFault.{TicketFault}
use Rattle.ticket.specs.declared.fault.TicketFault.TheVariants.{Long, Line, Tail}
use Rattle.ticket.specs.declared.reader.Header.{Header}
use Rattle.ticket.proofs.Ends.{end_line_said}
use Rattle.ticket.proofs.Exactness.{close, LinesOf, lines_ok, numbered, exact}
use Rattle.ticket.proofs.Firsts.{one_first}
use Rattle.ticket.proofs.HeaderLines.{headers_said}
use Rattle.ticket.proofs.RuleLines.{rule_lines_said}
use Rattle.ticket.proofs.TextVerdicts.{Whole, TextVerdict, end_of, rules_of, text_verdict}

-- two first faults of a text are the same
one_fault : (text : List ℕ) (room n l f m k g : ℕ) → IsFirstFault text room n l f
    → IsFirstFault text room m k g → (n ≡ m) × (l ≡ k) × (f ≡ g)
one_fault text room n l f m k g a b =
    let not_above : l < k → ⊥ = λ lt. b.earlier l a.there.0 lt n f a.fault.has in
    let not_below : k < l → ⊥ = λ lt. a.earlier k b.there.0 lt m g b.fault.has in
    let same : l ≡ k = omega arith in
    let here = subst (λ i. IsFirst (HasFault text room i) m g) (sym same) b.fault in
    let both = one_first (HasFault text room l) n f m g a.fault here in
    (both.0, same, both.1)

-- the text of a ticket, with more behind it, by its parts
parts : (h : Header) (rs : List Rule) (more : List ℕ)
    → text_of h rs ++ more
    ≡ header_text h ++ (flat_map line_text rs ++ (codes "end=ticket\n" ++ more))
parts h rs more =
    append_assoc (header_text h) (flat_map line_text rs ++ codes "end=ticket\n") more
    ∙ ap (λ (t : List ℕ). header_text h ++ t)
    (append_assoc (flat_map line_text rs) (codes "end=ticket\n") more)

-- TABLE, by its test
abbrev room_if : Bool → Result (Unit {0}) LineFault
room_if b = cond b (Ok tt) (Err (Field (at_field Table 4 1)))

-- the lines of a ticket are read, whatever follows
lines_before : (room : ℕ) (h : Header) (rs : List Rule) (more : List ℕ) → Ticket h rs
    → h.rules ≤ room → lines room (text_of h rs ++ more) ≡ Ok (h, rs, more)
lines_before room h rs more t fits =
    ap (lines room) (parts h rs more)
    ∙ ap (λ (r : Result (Header × List ℕ) LineFault). r >>= rules_of)
    (headers_said room h left (numbered h rs t))
    ∙ ap (λ b. (room_if b >>= λ _. Ok (h, left)) >>= rules_of) (le-leb h.rules room fits)
    ∙ ap (λ (n : ℕ). rule_lines n h.requests 5 left >>= end_of h) t.rules
    ∙ ap (λ (r : Result (List Rule × List ℕ) LineFault). r >>= end_of h)
    (rule_lines_said h.requests 5 rs (codes "end=ticket\n" ++ more) t.requests t.each)
    ∙ ap (λ (r : Result (List ℕ) LineFault). r >>= λ rest. Ok (h, rs, rest))
    (end_line_said (h.rules + 5) more)
  where
    left : List ℕ
    left = flat_map line_text rs ++ (codes "end=ticket\n" ++ more)

-- what is read
abbrev Reading : Type 0
Reading = Result (Header × List Rule) TicketFault

-- it is true of the text
abbrev ReadVerdict : (text : List ℕ) (room : ℕ) → Reading → Type 0
ReadVerdict text room (Ok q) = IsAccepted text room q.0 q.1
ReadVerdict text room (Err e) =
    (n : ℕ) × (l : ℕ) × (f : ℕ) × (told e ≡ (n, l, f)) × IsRefused text room n l f

outcome_of : Reading → Outcome
outcome_of (Ok q) = accepted q.0 q.1
outcome_of (Err e) = refused (told e).0 (told e).1 (told e).2

module _ (laws : FlawLaws) (text : List ℕ) (room : ℕ) where
  -- a refusal, by what it tells
  abbrev IsTold : ℕ × ℕ × ℕ → Type 0
  IsTold p = IsRefused text room p.0 p.1 p.2

  -- LONG, by its test
  abbrev read_if : Bool → Reading
  read_if b = cond b (in_ticket (lines room text) >>= close) (Err Long)

  close_verdict : length text ≤ longest → (h : Header) (rs : List Rule) (rest : List ℕ)
      → LinesOf room text (h, rs, rest) → ReadVerdict text room (closed h rs rest)
  close_verdict short h rs [] t = (t.0, t.1, t.2)
  close_verdict short h rs (b ∷ more) t =
      let whole = t.1 ∙ sym (parts h rs (b ∷ more)) in
      let tail : HasTail text room (h.rules + 6) = (h, rs, b, more, t.0, t.2, whole, refl) in
      (9, h.rules + 6, 0, refl, inr (inr (short, refl, refl, tail)))

  read_verdict : ReadVerdict text room (reading text room)
  read_verdict = by_length (leb (length text) longest) refl
    where
      by_lines : length text ≤ longest → (r : Result Whole LineFault) → lines room text ≡ r
          → TextVerdict text room r → ReadVerdict text room (in_ticket r >>= close)
      by_lines short (Ok p) e v = close_verdict short p.0 p.1 p.2 (lines_ok text room p e)
      by_lines short (Err d) e v = (v.0, v.1, v.2, v.3, inr (inl (short, v.4)))

      by_length : (b : Bool) → leb (length text) longest ≡ b → ReadVerdict text room (read_if b)
      by_length true e =
          let short = leb-true (length text) longest e in
          by_lines short (lines room text) refl (text_verdict laws text room)
      by_length false e =
          let long = leb-false (length text) longest e in
          (1, 0, 0, refl, inl (refl, refl, refl, long))

  -- a text that is not long is read by its lines
  by_lines : length text ≤ longest → (r : Result Whole LineFault) → lines room text ≡ r
      → reading text room ≡ (in_ticket r >>= close)
  by_lines short r e =
      ap read_if (le-leb (length text) longest short)
      ∙ ap (λ (o : Result Whole LineFault). in_ticket o >>= close) e

  -- the text is refused and this is told
  abbrev Read : (n l f : ℕ) → Type 0
  Read n l f = (e : TicketFault) × (reading text room ≡ Err e) × (told e ≡ (n, l, f))

  -- what is true of the text is read
  refused_reads : (n l f : ℕ) → IsRefused text room n l f → Read n l f
  refused_reads n l f (inl h) =
      let long = ap read_if (lt-leb (length text) longest h.3) in
      (Long, long, λ i. (sym h.0 i, sym h.1 i, sym h.2 i))
  refused_reads n l f (inr (inl h)) = go (lines room text) refl (text_verdict laws text room)
    where
      go : (r : Result Whole LineFault) → lines room text ≡ r → TextVerdict text room r
          → Read n l f
      go (Ok p) e v =
          absurd (v.1 l h.1.there.0 (omega (arith, h.1.there.1)) n f h.1.fault.has)
      go (Err d) e v =
          let same = one_fault text room v.0 v.1 v.2 n l f v.4 h.1 in
          (Line d, by_lines h.0 (Err d) e, v.3 ∙ λ i. (same.0 i, same.1 i, same.2 i))
  refused_reads n l f (inr (inr h)) =
      let t = h.3 in
      let left : List ℕ = t.2 ∷ t.3 in
      let read = ap (lines room) t.6 ∙ lines_before room t.0 t.1 left t.4 t.5 in
      let line = t.0.rules + 6 in
      (Tail line, by_lines h.0 (Ok (t.0, t.1, left)) read, λ i. (sym h.1 i, sym t.7 i, sym h.2 i))

  true_is_read : (o : Outcome) → IsTrueOf text room o → outcome_of (reading text room) ≡ o
  unfolding outcome_of
  true_is_read (refused n l f) t =
      let r = refused_reads n l f t in
      ap outcome_of r.1 ∙ ap (λ (p : ℕ × ℕ × ℕ). refused p.0 p.1 p.2) r.2
  true_is_read (accepted h rs) t = ap outcome_of ((exact text room).all h rs t.0 t.1 t.2)

  read_is_true : (r : Reading) → ReadVerdict text room r → IsTrueOf text room (outcome_of r)
  unfolding outcome_of
  read_is_true (Ok q) v = v
  read_is_true (Err e) v = subst IsTold (sym v.3) v.4

  only_refused : (n l f : ℕ) (r : Reading) → ReadVerdict text room r → Refuses (answer r) n l f
      → IsRefused text room n l f
  only_refused n l f (Ok q) v refuses = absurd refuses
  only_refused n l f (Err e) v refuses = subst IsTold (sym v.3 ∙ refuses) v.4

  all_refused : (n l f : ℕ) → IsRefused text room n l f
      → Refuses (answer (reading text room)) n l f
  all_refused n l f t =
      let r = refused_reads n l f t in
      subst (λ (o : Reading). Refuses (answer o) n l f) (sym r.1) r.2

module _ (laws : FlawLaws) where
  pub read_by_first : ReadByFirst
  read_by_first text room = (
    λ n l f.
        let only = only_refused laws text room n l f (reading text room) in
        (only (read_verdict laws text room), all_refused laws text room n l f),
    λ h rs. ((exact text room).only h rs, λ t. (exact text room).all h rs t.0 t.1 t.2),
  )

  one_outcome : OneOutcome
  one_outcome text room =
      let is = read_is_true laws text room (reading text room) (read_verdict laws text room) in
      (outcome_of (reading text room), is, λ p t. sym (true_is_read laws text room p t))

  pub refusal_laws : RefusalLaws
  refusal_laws = (read_by_first, one_outcome)
