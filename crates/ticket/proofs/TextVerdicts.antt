-- What all the lines together say of the faults that they have. Assumes nothing.
use Rattle.std.proofs.Common.{◌≡◌, ℕ, zero, suc, ◌+◌, ◌<◌, ◌≤◌, Bool, true, false, cond, eqb, leb, List, [], ◌∷◌, Ok, Err, Result, sym, refl, ◌∙◌, subst, inl, inr, arith}
use Rattle.std.proofs.lemmas.Bool.{cond-true, cond-false, cases_lt, le-leb, lt-leb, leb-true, leb-false, ne_eqb}
use Rattle.rules.specs.declared.Rule.{Rule}
use Rattle.fields.specs.Faults.{at_field, told_line}
use Rattle.fields.specs.Flaws.{HasFlaw, FlawLaws}
use Rattle.fields.specs.Steps.{◌>>=◌}
use Rattle.fields.specs.declared.fault.Flaw.TheVariants.{Table}
use Rattle.fields.specs.declared.fault.LineFault.{LineFault}
use Rattle.fields.specs.declared.fault.LineFault.TheVariants.{Field}
use Rattle.fields.specs.declared.layout.Heading.{Heading}
use Rattle.fields.specs.declared.layout.Heading.TheVariants.{Ticket, Requests, Checks, Rules}
use Rattle.fields.specs.declared.layout.Sort.{Sort}
use Rattle.fields.specs.declared.layout.Sort.TheVariants.{Header as Headed, Rule as Ruled}
use Rattle.ticket.specs.Due.{Due, a_header, a_rule, the_end, due_at, number_in, requests_in, rules_in}
use Rattle.ticket.specs.FirstFault.{IsFirstFault}
use Rattle.ticket.specs.LineAt.{after_lines, line_at}
use Rattle.ticket.specs.LineFaults.{HasLineFault, HasFault, IsInOrder}
use Rattle.ticket.specs.Lines.{header_line, rule_line, rule_lines, end_line}
use Rattle.ticket.specs.Reading.{has_room, lines}
use Rattle.ticket.specs.declared.reader.Header.{Header}
use Rattle.ticket.proofs.Firsts.{Faults, Verdict}
use Rattle.ticket.proofs.HeaderLines.{after_rules, after_checks, after_requests, after_ticket}
use Rattle.ticket.proofs.LineVerdicts.{end_verdict, header_verdict, rule_verdict, rule_rest, header_rest}

-- all lines before this one are in order
abbrev pub Before : (text : List ℕ) (room line : ℕ) → Type 0
Before text room line = (k : ℕ) → 1 ≤ k → k < line → IsInOrder text room k

before_more : (text : List ℕ) (room line : ℕ) → Before text room line
    → IsInOrder text room line → Before text room (suc line)
before_more text room line before here k one lt =
    elim (cases_lt k line) [
      | inl lower ↦ before k one lower
      | inr upper ↦
          let same : line ≡ k = omega arith in
          subst (IsInOrder text room) same here
    ]

-- what the lines give
abbrev pub Whole : Type 0
Whole = Header × List Rule × List ℕ

-- a fault of a line, and that it is the first of the text
abbrev pub FirstTold : (text : List ℕ) (room : ℕ) → LineFault → Type 0
FirstTold text room e =
    (number : ℕ) × (line : ℕ) × (field : ℕ) × (told_line e ≡ (number, line, field))
    × IsFirstFault text room number line field

-- what the steps say: every line is in order, or one is at fault
abbrev pub TextVerdict : (text : List ℕ) (room : ℕ) → Result Whole LineFault → Type 0
TextVerdict text room (Ok p) =
    (rules_in text ≡ p.0.rules) × Before text room (rules_in text + 6)
TextVerdict text room (Err e) = FirstTold text room e

-- NUMBERS

-- no fault but TABLE has the number 8
flaw_small : (s : Sort) (requests : ℕ) (value : List ℕ) (n f : ℕ)
    → HasFlaw s requests value n f → n ≤ 7
flaw_small s requests value n f (inl h) = let four : n ≡ 4 = h.0 in omega arith
flaw_small s requests value n f (inr (inl h)) = let five : n ≡ 5 = h.0 in omega arith
flaw_small s requests value n f (inr (inr (inl h))) = let six : n ≡ 6 = h.0 in omega arith
flaw_small s requests value n f (inr (inr (inr h))) = let seven : n ≡ 7 = h.0 in omega arith

line_small : (d : Due) (requests : ℕ) (o : _) (n f : ℕ) → HasLineFault d requests o n f → n ≤ 7
line_small d requests o n f (inl h) = let two : n ≡ 2 = h.0 in omega arith
line_small d requests o n f (inr (inl h)) = let three : n ≡ 3 = h.0 in omega arith
line_small (a_header g) requests o n f (inr (inr h)) =
    flaw_small (Headed g) 0 h.2.0 n f h.2.2
line_small a_rule requests o n f (inr (inr h)) =
    flaw_small (Ruled h.2.0.0) requests h.2.0.1 n f h.2.2
line_small the_end requests o n f (inr (inr h)) = let five : n ≡ 5 = h.2.2.0 in omega arith

-- DUE

-- what is due at a line after the headers
due_late : (rules line : ℕ) → 5 ≤ line
    → due_at rules line ≡ cond (leb line (rules + 4)) a_rule the_end
due_late rules line late =
    cond-false (eqb line 1) _ _ (ne_eqb line 1 (omega arith))
    ∙ cond-false (eqb line 2) _ _ (ne_eqb line 2 (omega arith))
    ∙ cond-false (eqb line 3) _ _ (ne_eqb line 3 (omega arith))
    ∙ cond-false (eqb line 4) _ _ (ne_eqb line 4 (omega arith))

due_rule : (rules line : ℕ) → 5 ≤ line → line ≤ rules + 4 → due_at rules line ≡ a_rule
due_rule rules line late low =
    due_late rules line late
    ∙ cond-true (leb line (rules + 4)) a_rule the_end (le-leb line (rules + 4) low)

due_end : (rules line : ℕ) → line ≡ rules + 5 → due_at rules line ≡ the_end
due_end rules line last =
    let high = lt-leb line (rules + 4) (omega arith) in
    due_late rules line (omega arith)
    ∙ cond-false (leb line (rules + 4)) a_rule the_end high

-- STEPS

then_assoc : {A B C E : Type 0} (r : Result A E) (f : A → B) (g : B → Result C E)
    → ((r >>= λ a. Ok (f a)) >>= g) ≡ (r >>= λ a. g (f a))
then_assoc (Ok a) f g = refl
then_assoc (Err e) f g = refl

-- the steps after the rules, and after the headers
abbrev pub end_of : Header → List Rule × List ℕ → Result Whole LineFault
end_of h p = end_line (h.rules + 5) p.1 >>= λ rest. Ok (h, p.0, rest)

abbrev pub rules_of : Header × List ℕ → Result Whole LineFault
rules_of h = rule_lines h.0.rules h.0.requests 5 h.1 >>= end_of h.0

-- TABLE, by its test
abbrev room_if : Bool → Result (Unit {0}) LineFault
room_if b = cond b (Ok tt) (Err (Field (at_field Table 4 1)))

module _ (laws : FlawLaws) (text : List ℕ) (room : ℕ) where
  -- the faults of a line where this is due, but for TABLE
  abbrev DueFaults : Due → (line : ℕ) → Faults
  DueFaults d line = HasLineFault d (requests_in text) (line_at line text)

  abbrev LineFaults : (line : ℕ) → Faults
  LineFaults line = DueFaults (due_at (rules_in text) line) line

  abbrev Faultless : (line : ℕ) → Type 0
  Faultless line = (n f : ℕ) → LineFaults line n f → ⊥

  abbrev Passes : Result Whole LineFault → Type 0
  Passes r = TextVerdict text room r

  abbrev Upto : (line : ℕ) → Type 0
  Upto line = Before text room line

  first_told : (line : ℕ) (e : LineFault) → 1 ≤ line → line ≤ rules_in text + 5 → Upto line
      → Verdict {C = Whole} line (LineFaults line) (Err e) → FirstTold text room e
  first_told line e one last before v =
      let d = due_at (rules_in text) line in
      let o = line_at line text in
      let small : v.0 ≤ 7 = line_small d (requests_in text) o v.0 v.1 v.3.has in (
        v.0,
        line,
        v.1,
        v.2,
        record {
          there = (one, last);
          earlier = before;
          fault = record { has = inl v.3.has; least = least small; first = first small };
        },
      )
    where
      least : v.0 ≤ 7 → (n f : ℕ) → n < v.0 → HasFault text room line n f → ⊥
      least small n f lt (inl h) = v.3.least n f lt h
      least small n f lt (inr h) = let eight : n ≡ 8 = h.0 in omega arith

      first : v.0 ≤ 7 → (f : ℕ) → f < v.1 → HasFault text room line v.0 f → ⊥
      first small f lt (inl h) = v.3.first f lt h
      first small f lt (inr h) = let eight : v.0 ≡ 8 = h.0 in omega arith

  -- one line, where this is due; `wrap` is what its step is wrapped in
  at_line : {C : Type 0} (line : ℕ) → 1 ≤ line → line ≤ rules_in text + 5 → Upto line
      → (d : Due) → d ≡ due_at (rules_in text) line
      → (wrap : Result C LineFault → Result Whole LineFault)
      → ((e : LineFault) → wrap (Err e) ≡ Err e)
      → (r : Result C LineFault) → Verdict line (DueFaults d line) r
      → ((c : C) → r ≡ Ok c → Faultless line → Passes (wrap (Ok c)))
      → Passes (wrap r)
  at_line line one last before d is wrap leaves r verdict next =
      go r (subst (λ k. Verdict line (DueFaults k line) r) is verdict) next
    where
      go : (r : Result _ LineFault) → Verdict line (LineFaults line) r
          → ((c : _) → r ≡ Ok c → Faultless line → Passes (wrap (Ok c))) → Passes (wrap r)
      go (Ok c) v next = next c refl v
      go (Err e) v next = subst Passes (sym (leaves e)) (first_told line e one last before v)

  -- a line that is not the fourth cannot lack room
  in_order : (line : ℕ) → (line ≡ 4 → ⊥) → Faultless line → IsInOrder text room line
  in_order line other none n f (inl h) = none n f h
  in_order line other none n f (inr h) = other h.1

  more : (line : ℕ) → (line ≡ 4 → ⊥) → Upto line → Faultless line → Upto (suc line)
  more line other before none = before_more text room line before (in_order line other none)

  -- THE END

  end_stage : (h : Header) (rs : List Rule) → h.rules ≡ rules_in text → Upto (rules_in text + 5)
      → Passes (end_of h (rs, after_lines (rules_in text + 4) text))
  end_stage h rs same before =
      subst (λ l. Passes (end_line l left >>= λ rest. Ok (h, rs, rest))) number
      (at_line (suc n) (omega arith) (omega arith) upto the_end (sym is) (λ r. r >>= give)
      (λ e. refl) (end_line (suc n) left) (end_verdict (requests_in text) (suc n) left) last)
    where
      n : ℕ
      n = rules_in text + 4

      left : List ℕ
      left = after_lines n text

      give : List ℕ → Result Whole LineFault
      give rest = Ok (h, rs, rest)

      number : suc n ≡ h.rules + 5
      number = omega arith

      upto : Upto (suc n)
      upto k one lt = before k one (omega arith)

      is : due_at (rules_in text) (suc n) ≡ the_end
      is = due_end (rules_in text) (suc n) (omega arith)

      last : (c : List ℕ) → end_line (suc n) left ≡ Ok c → Faultless (suc n) → Passes (give c)
      last c e none =
          (sym same, λ k one lt. more (suc n) (λ four. omega arith) upto none k one (omega arith))

  -- RULES

  -- so many rule lines, behind so many lines, and then the end
  abbrev RulesPass : (count n : ℕ) → (List Rule × List ℕ → Result Whole LineFault) → Type 0
  RulesPass count n next =
      ((rs : List Rule) → Upto (rules_in text + 5)
      → Passes (next (rs, after_lines (rules_in text + 4) text)))
      → Passes (rule_lines count (requests_in text) (suc n) (after_lines n text) >>= next)

  rules_stage : (count n : ℕ) → n + count ≡ rules_in text + 4 → 4 ≤ n → Upto (suc n)
      → (next : List Rule × List ℕ → Result Whole LineFault) → RulesPass count n next
  rules_stage zero n all late before next last =
      let same : rules_in text + 4 ≡ n = omega arith in
      subst (λ m. Passes (next ([], after_lines m text))) same
      (last [] (λ k one lt. before k one (omega arith)))
  rules_stage (suc count) n all late before next last =
      at_line (suc n) (omega arith) (omega arith) before a_rule (sym is)
      (λ r. (r >>= rest) >>= next) (λ e. refl) (rule_line req (suc n) left)
      (rule_verdict laws req (suc n) left)
      (go (rules_stage count (suc n) (omega arith) (omega arith)))
    where
      req : ℕ
      req = requests_in text

      left : List ℕ
      left = after_lines n text

      rest : Rule × List ℕ → Result (List Rule × List ℕ) LineFault
      rest p = rule_lines count req (suc (suc n)) p.1 >>= λ q. Ok (p.0 ∷ q.0, q.1)

      is : due_at (rules_in text) (suc n) ≡ a_rule
      is = due_rule (rules_in text) (suc n) (omega arith) (omega arith)

      Later : Type 0
      Later =
          Upto (suc (suc n)) → (then : List Rule × List ℕ → Result Whole LineFault)
          → RulesPass count (suc n) then

      go : Later → (p : Rule × List ℕ) → rule_line req (suc n) left ≡ Ok p → Faultless (suc n)
          → Passes (rest p >>= next)
      go later p e none =
          let then : List Rule × List ℕ → Result Whole LineFault = λ q. next (p.0 ∷ q.0, q.1) in
          let upto = more (suc n) (λ four. omega arith) before none in
          let lines = rule_lines count req (suc (suc n)) p.1 in
          subst Passes (sym (then_assoc lines (λ q. (p.0 ∷ q.0, q.1)) next))
          (subst (λ t. Passes (rule_lines count req (suc (suc n)) t >>= then))
          (sym (rule_rest laws req (suc n) left p e))
          (later upto then (λ rs. last (p.0 ∷ rs))))

  -- TABLE

  after_headers : (h : Header) → h.rules ≡ rules_in text → h.requests ≡ requests_in text → Upto 5
      → Passes (rules_of (h, after_lines 4 text))
  after_headers h rules requests before =
      subst (λ m. Passes (rule_lines h.rules m 5 (after_lines 4 text) >>= end_of h)) (sym requests)
      (rules_stage h.rules 4 (omega arith) (omega arith) before (end_of h)
      (λ rs. end_stage h rs rules))

  no_room : room < rules_in text → Upto 4 → Faultless 4
      → FirstTold text room (Field (at_field Table 4 1))
  no_room short before none = (
    8,
    4,
    1,
    refl,
    record {
      there = (omega arith, omega arith);
      earlier = before;
      fault = record { has = inr (refl, refl, refl, short); least = least; first = first };
    },
  )
    where
      least : (n f : ℕ) → n < 8 → HasFault text room 4 n f → ⊥
      least n f lt (inl h) = none n f h
      least n f lt (inr h) = let eight : n ≡ 8 = h.0 in omega arith

      first : (f : ℕ) → f < 1 → HasFault text room 4 8 f → ⊥
      first f lt (inl h) = none 8 f h
      first f lt (inr h) = let one : f ≡ 1 = h.2 in omega arith

  table_stage : (h : Header) → h.rules ≡ rules_in text → h.requests ≡ requests_in text → Upto 4
      → Faultless 4
      → Passes ((has_room h.rules room >>= λ _. Ok (h, after_lines 4 text)) >>= rules_of)
  table_stage h rules requests before none = go (leb h.rules room) refl
    where
      fourth : h.rules ≤ room → IsInOrder text room 4
      fourth fits n f (inl q) = none n f q
      fourth fits n f (inr q) = let over : room < rules_in text = q.3 in omega arith

      go : (b : Bool) → leb h.rules room ≡ b
          → Passes ((room_if b >>= λ _. Ok (h, after_lines 4 text)) >>= rules_of)
      go true fits =
          let here = fourth (leb-true h.rules room fits) in
          after_headers h rules requests (before_more text room 4 before here)
      go false over =
          let less : room < h.rules = leb-false h.rules room over in
          no_room (omega arith) before none

  -- HEADERS

  header_stage : (g : Heading) (n : ℕ) → a_header g ≡ due_at (rules_in text) (suc n)
      → suc n ≤ rules_in text + 5 → Upto (suc n)
      → (next : ℕ × List ℕ → Result (Header × List ℕ) LineFault)
      → ((c : ℕ) → c ≡ number_in g (line_at (suc n) text) → Faultless (suc n)
      → Passes (next (c, after_lines (suc n) text) >>= rules_of))
      → Passes ((header_line g (suc n) (after_lines n text) >>= next) >>= rules_of)
  header_stage g n is last before next later =
      at_line (suc n) (omega arith) last before (a_header g) is (λ r. (r >>= next) >>= rules_of)
      (λ e. refl) (header_line g (suc n) left)
      (header_verdict laws g (requests_in text) (suc n) left) go
    where
      left : List ℕ
      left = after_lines n text

      go : (c : ℕ × List ℕ) → header_line g (suc n) left ≡ Ok c → Faultless (suc n)
          → Passes (next c >>= rules_of)
      go c e none =
          let q = header_rest laws g (suc n) left c e in
          subst (λ t. Passes (next (c.0, t) >>= rules_of)) (sym q.1) (later c.0 q.0 none)

  rules_header : (n k : ℕ) → n ≡ requests_in text → Upto 4
      → Passes ((header_line Rules 4 (after_lines 3 text) >>= after_rules room n k) >>= rules_of)
  rules_header n k requests before =
      header_stage Rules 3 refl (omega arith) before (after_rules room n k)
      (λ c same none.
      table_stage (record { requests = n; checks = k; rules = c }) same requests before none)

  checks_header : (n : ℕ) → n ≡ requests_in text → Upto 3
      → Passes ((header_line Checks 3 (after_lines 2 text) >>= after_checks room n) >>= rules_of)
  checks_header n requests before =
      header_stage Checks 2 refl (omega arith) before (after_checks room n)
      (λ c same none. rules_header n c requests (more 3 (λ four. omega arith) before none))

  requests_header : Upto 2
      → Passes ((header_line Requests 2 (after_lines 1 text) >>= after_requests room) >>= rules_of)
  requests_header before =
      header_stage Requests 1 refl (omega arith) before (after_requests room)
      (λ c same none. checks_header c same (more 2 (λ four. omega arith) before none))

  pub text_verdict : Passes (lines room text)
  text_verdict =
      header_stage Ticket 0 refl (omega arith) before (after_ticket room)
      (λ c same none. requests_header (more 1 (λ four. omega arith) before none))
    where
      before : Upto 1
      before k one lt = absurd (omega arith)
