-- What the step of each line says of the faults that the line has. Assumes nothing.
use Rattle.std.proofs.Common.{◌≡◌, ◌≢◌, ℕ, ◌≤◌, Bool, true, false, cond, List, [], ◌∷◌, length, get_or, Some, Ok, Err, codes, Option, Result, sym, refl, ap, ◌∙◌, arith}
use Rattle.std.proofs.lemmas.Bool.{false≢true}
use Rattle.std.specs.List.{slice_get}
use Rattle.std.specs.Option.{option_map, option_and_then, option_map_or}
use Rattle.std.specs.Str.{bytes_eq as same_text}
use Rattle.std.specs.Cmp.Lexicographic.{bytes_decides}
use Rattle.rules.specs.declared.Kind.{Kind}
use Rattle.rules.specs.declared.Rule.{Rule as RuleRecord}
use Rattle.fields.specs.Cuts.{cut, after, fields}
use Rattle.fields.specs.Faults.{at_field}
use Rattle.fields.specs.Flaws.{HasFlaw, FieldSays, FlawLaws}
use Rattle.fields.specs.Formed.{amount, values_of}
use Rattle.fields.specs.Layout.{header_column}
use Rattle.fields.specs.Numbers.{said}
use Rattle.fields.specs.Steps.{◌>>=◌}
use Rattle.fields.specs.declared.fault.Flaw.TheVariants.{Form}
use Rattle.fields.specs.declared.fault.LineFault.{LineFault}
use Rattle.fields.specs.declared.fault.LineFault.TheVariants.{Field}
use Rattle.fields.specs.declared.layout.Heading.{Heading}
use Rattle.fields.specs.declared.layout.Heading.TheVariants.{Ticket, Requests, Checks, Rules}
use Rattle.fields.specs.declared.layout.Sort.{Sort}
use Rattle.fields.specs.declared.layout.Sort.TheVariants.{Header, Rule}
use Rattle.fields.specs.declared.layout.Style.TheVariants.{Number}
use Rattle.fields.specs.declared.value.Value.{Value}
use Rattle.fields.specs.declared.value.Value.TheVariants.{Dash}
use Rattle.fields.proofs.Outcomes.{then_ok, same_ok}
use Rattle.fields.proofs.Valued.{values_of_ok}
use Rattle.ticket.specs.Due.{a_header, a_rule, the_end, number_in}
use Rattle.ticket.specs.Entries.{key, lettered}
use Rattle.ticket.specs.LineAt.{rest_of}
use Rattle.ticket.specs.LineFaults.{HasLineFault}
use Rattle.ticket.specs.Lines.{header_line, rule_line, end_value, end_line}
use Rattle.ticket.specs.Ruled.{rule_of}
use Rattle.ticket.proofs.Firsts.{Faults, Verdict, verdict_then, verdict, step_rest}

-- the line itself
abbrev pub front : List ℕ → Option (List ℕ)
front text = option_map (λ p. p.0) (cut 10 text)

-- what is made of a value
abbrev number_of : List Value → ℕ
number_of vs = amount (get_or vs 0 Dash)

abbrev header_read : Heading → (line : ℕ) → List ℕ → Result ℕ LineFault
header_read h line value = values_of (Header h) 0 line value >>= λ vs. Ok (number_of vs)

abbrev rule_read : (requests line : ℕ) → Kind × List ℕ → Result RuleRecord LineFault
rule_read requests line q =
    values_of (Rule q.0) requests line q.1 >>= λ vs. Ok (rule_of q.0 vs)

abbrev with_rest : {A : Type 0} → A → List ℕ → A × List ℕ
with_rest a rest = (a, rest)

-- THE END

abbrev OtherWord : (value : List ℕ) → Faults
OtherWord value number field = (number ≡ 5) × (field ≡ 1) × (value ≢ codes "ticket")

-- FORM of the end, by its test
abbrev word_if : (line : ℕ) → Bool → Result (Unit {0}) LineFault
word_if line b = cond b (Ok tt) (Err (Field (at_field Form line 1)))

word_verdict : (line : ℕ) (value : List ℕ) → Verdict line (OtherWord value) (end_value line value)
word_verdict line value = go (same_text value (codes "ticket")) refl
  where
    go : (b : Bool) → same_text value (codes "ticket") ≡ b
        → Verdict line (OtherWord value) (word_if line b)
    go true same = λ n f h. h.2 ((bytes_decides value (codes "ticket")).0 same)
    go false other =
        let test = bytes_decides value (codes "ticket") in (
          5,
          1,
          refl,
          record {
            has = (refl, refl, λ same. false≢true (sym other ∙ test.1 same));
            least = λ n f lt h. let five : n ≡ 5 = h.0 in omega arith;
            first = λ f lt h. let one : f ≡ 1 = h.1 in omega arith;
          },
        )

pub end_verdict : (requests line : ℕ) (text : List ℕ)
    → Verdict line (HasLineFault the_end requests (front text)) (end_line line text)
end_verdict requests line text =
    verdict (after (codes "end=")) OtherWord (end_value line) (λ u rest. rest) line
    (word_verdict line) (cut 10 text)

-- HEADERS AND RULES

header_style : (h : Heading) → (header_column h).style ≡ Number
header_style Ticket = refl
header_style Requests = refl
header_style Checks = refl
header_style Rules = refl

-- what a header line says is the number of its field 1
said_number : (h : Heading) (o : Option (List ℕ)) (l value : List ℕ) (v : Value) → o ≡ Some l
    → after (key h) l ≡ Some value → FieldSays (Header h) value 1 v → number_in h o ≡ amount v
said_number h o l value v there keyed says =
    ap (number_in h) there
    ∙ ap (λ q. of_said (option_and_then (said Number) (option_and_then field_1 q))) keyed
    ∙ ap (λ q. of_said (option_and_then (said Number) q)) says.1.1
    ∙ ap of_said (ap (λ s. said s says.0) (sym (header_style h)) ∙ says.2)
  where
    of_said : Option Value → ℕ
    of_said q = option_map_or amount q 0

    field_1 : List ℕ → Option (List ℕ)
    field_1 w = slice_get (fields w) 0

module _ (laws : FlawLaws) where
  value_verdict : (s : Sort) (requests line : ℕ) (value : List ℕ)
      → Verdict line (HasFlaw s requests value) (values_of s requests line value)
  value_verdict s requests line value = go (values_of s requests line value) refl
    where
      go : (r : Result (List Value) LineFault) → values_of s requests line value ≡ r
          → Verdict line (HasFlaw s requests value) r
      go (Ok vs) e = (laws.1 s requests line value vs e).0
      go (Err d) e =
          let p = laws.0 s requests line value d e in
          let is = p.3 in
          (p.0, p.1, p.2, record { has = is.has; least = is.least; first = is.first })

  pub header_verdict : (h : Heading) (requests line : ℕ) (text : List ℕ)
      → Verdict line (HasLineFault (a_header h) requests (front text)) (header_line h line text)
  header_verdict h requests line text =
      verdict (after (key h)) (λ v. HasFlaw (Header h) 0 v) (header_read h line) with_rest line
      (λ v.
      verdict_then line (HasFlaw (Header h) 0 v) number_of (values_of (Header h) 0 line v)
      (value_verdict (Header h) 0 line v))
      (cut 10 text)

  pub rule_verdict : (requests line : ℕ) (text : List ℕ)
      → Verdict line (HasLineFault a_rule requests (front text)) (rule_line requests line text)
  rule_verdict requests line text =
      verdict lettered (λ q. HasFlaw (Rule q.0) requests q.1) (rule_read requests line) with_rest
      line
      (λ q.
      let s : Sort = Rule q.0 in
      verdict_then line (HasFlaw s requests q.1) (rule_of q.0) (values_of s requests line q.1)
      (value_verdict s requests line q.1))
      (cut 10 text)

  -- where the text goes on behind a rule
  pub rule_rest : (requests line : ℕ) (text : List ℕ) (q : RuleRecord × List ℕ)
      → rule_line requests line text ≡ Ok q → q.1 ≡ rest_of (cut 10 text)
  rule_rest requests line text q e =
      let s = step_rest lettered (rule_read requests line) with_rest line (cut 10 text) q e in
      sym (ap rest_of s.3 ∙ ap (λ (p : RuleRecord × List ℕ). p.1) s.6)

  one_said : (h : Heading) (line : ℕ) (value : List ℕ) (n : ℕ) → header_read h line value ≡ Ok n
      → (v : Value) × (amount v ≡ n) × FieldSays (Header h) value 1 v
  one_said h line value n e =
      let a = then_ok (values_of (Header h) 0 line value) (λ vs. Ok (number_of vs)) n e in
      let valued = (values_of_ok (Header h) 0 line value a.0 a.1).0 in
      let says = (laws.1 (Header h) 0 line value a.0 a.1).1 in
      go a.0 valued.count.0 (same_ok (number_of a.0) n a.2) (says 0)
    where
      go : (vs : List Value) → 1 ≤ length vs → number_of vs ≡ n
          → ((v : Value) → slice_get vs 0 ≡ Some v → FieldSays (Header h) value 1 v)
          → (v : Value) × (amount v ≡ n) × FieldSays (Header h) value 1 v
      go [] some same says = absurd (omega arith)
      go (v ∷ vs) some same says = (v, same, says v refl)

  -- the number that a header line gives, and where the text goes on behind it
  pub header_rest : (h : Heading) (line : ℕ) (text : List ℕ) (q : ℕ × List ℕ)
      → header_line h line text ≡ Ok q
      → (q.0 ≡ number_in h (front text)) × (q.1 ≡ rest_of (cut 10 text))
  header_rest h line text q e =
      let s = step_rest (after (key h)) (header_read h line) with_rest line (cut 10 text) q e in
      let one = one_said h line s.1 s.2 s.5 in
      let there = ap (option_map (λ p. p.0)) s.3 in
      let number = said_number h (front text) s.0.0 s.1 one.0 there s.4 one.2 in (
        sym (number ∙ one.1 ∙ ap (λ (p : ℕ × List ℕ). p.0) s.6),
        sym (ap rest_of s.3 ∙ ap (λ (p : ℕ × List ℕ). p.1) s.6),
      )
