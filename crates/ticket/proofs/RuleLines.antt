-- The rule lines: what each says, and its text. Assumes nothing.
use Rattle.std.proofs.Common.{◌≡◌, ℕ, zero, suc, ◌≤◌, List, [], ◌∷◌, ◌++◌, map, length, Some, None, Ok, codes, Option, Result, sym, refl, ap, ◌∙◌, subst, ap₂, append_assoc, arith}
use Rattle.std.specs.List.{flat_map, AllByRecursion}
use Rattle.rules.specs.declared.Body.{Body}
use Rattle.rules.specs.declared.Kind.{Kind}
use Rattle.rules.specs.declared.Kind.TheVariants.{Options, Gaps, Faces}
use Rattle.rules.specs.declared.Rule.{Rule as RuleRecord}
use Rattle.fields.specs.Limits.{most_requests}
use Rattle.fields.specs.Cuts.{cut}
use Rattle.ticket.specs.Entries.{lettered}
use Rattle.fields.specs.Formed.{values_of}
use Rattle.ticket.specs.Lines.{next_line, rule_value, rule_line, rule_lines}
use Rattle.ticket.specs.Ruled.{rule_of, body_of}
use Rattle.fields.specs.Steps.{◌>>=◌, or_fault}
use Rattle.ticket.specs.Text.{body_text, rule_text, line_text}
use Rattle.ticket.specs.Tickets.{SomeInRange, RuleInRange}
use Rattle.fields.specs.declared.fault.LineFault.{LineFault}
use Rattle.fields.specs.declared.fault.LineFault.TheVariants.{Cut, Key}
use Rattle.fields.specs.declared.layout.Sort.TheVariants.{Rule}
use Rattle.fields.specs.declared.value.Value.{Value}
use Rattle.ticket.proofs.Bodies.{owner_of, spelled_line, known, kind, written}
use Rattle.fields.proofs.Commas.{commas, commas_free}
use Rattle.fields.proofs.Outcomes.{then_ok, or_fault_ok, same_ok}
use Rattle.fields.proofs.Placed.{Placed, placed_free}
use Rattle.fields.proofs.Spelling.{spelled}
use Rattle.fields.proofs.Splits.{Free, cut_at, cut_whole}
use Rattle.ticket.proofs.Letters.{letter, lettered_key, lettered_whole}
use Rattle.fields.proofs.Valued.{Valued, values_of_spelled, values_of_ok}

letter_free : (k : Kind) → letter k ≡ 10 → ⊥
letter_free Options = omega arith
letter_free Gaps = omega arith
letter_free Faces = omega arith

line_free : (k : Kind) (requests : ℕ) (vs : List Value) → Placed (Rule k) requests 1 vs → Free 10 (spelled_line k vs)
line_free k requests vs placed = (letter_free k, (omega arith, commas_free 10 (omega arith) (map spelled vs) (placed_free (Rule k) requests 1 vs placed).1))

-- the steps of a rule line, after CUT and after KEY
abbrev rule_said : (requests line : ℕ) → Kind × List ℕ → Result RuleRecord LineFault
rule_said requests line q = values_of (Rule q.0) requests line q.1 >>= λ vs. Ok (rule_of q.0 vs)

abbrev rule_rest : (requests line : ℕ) → List ℕ × List ℕ → Result (RuleRecord × List ℕ) LineFault
rule_rest requests line p = rule_value requests line p.0 >>= λ r. Ok (r, p.1)

spelled_line_read : (k : Kind) (requests line : ℕ) (vs : List Value) (rest : List ℕ) → Valued (Rule k) requests vs → rule_line requests line (spelled_line k vs ++ (10 ∷ rest)) ≡ Ok (rule_of k vs, rest)
spelled_line_read k requests line vs rest valued =
    ap (λ (o : Option (List ℕ × List ℕ)). or_fault (Cut line) o >>= rule_rest requests line) (cut_at 10 (spelled_line k vs) rest (line_free k requests vs valued.placed))
    ∙ ap (λ (o : Option (Kind × List ℕ)). (or_fault (Key line) o >>= rule_said requests line) >>= λ r. Ok (r, rest)) (lettered_key k (commas (map spelled vs)))
    ∙ ap (λ (o : Result (List Value) LineFault). (o >>= λ us. Ok (rule_of k us)) >>= λ r. Ok (r, rest)) (values_of_spelled (Rule k) requests line vs valued)

body_read : (requests line owner : ℕ) (o : Option Body) (rest : List ℕ) → requests ≤ most_requests → owner ≤ requests → SomeInRange o → rule_line requests line ((rule_text owner o ++ codes "\n") ++ rest) ≡ Ok (record { owner = owner; body = o }, rest)
body_read requests line owner None rest small low range = absurd range
body_read requests line owner (Some b) rest small low range =
    let w = written requests owner small low b range in
    ap (rule_line requests line) (append_assoc (body_text owner b) (codes "\n") rest ∙ ap (λ (t : List ℕ). t ++ (10 ∷ rest)) w.text)
    ∙ spelled_line_read (kind b) requests line w.values rest w.valued
    ∙ ap₂ (λ (n : ℕ) (c : Body). Ok (record { owner = n; body = Some c }, rest)) w.owned w.says

pub rule_line_said : (requests line : ℕ) (r : RuleRecord) (rest : List ℕ) → requests ≤ most_requests → RuleInRange requests r → rule_line requests line (line_text r ++ rest) ≡ Ok (r, rest)
rule_line_said requests line r rest small range = body_read requests line r.owner r.body rest small range.0 range.1

-- what one line says is a rule in range, and the line is its text
abbrev Ruled : (requests : ℕ) → List ℕ → RuleRecord × List ℕ → Type 0
Ruled requests text q = (text ≡ line_text q.0 ++ q.1) × RuleInRange requests q.0

spelled_line_ruled : (k : Kind) (requests : ℕ) (vs : List Value) (rest : List ℕ) → Valued (Rule k) requests vs → Ruled requests (spelled_line k vs ++ (10 ∷ rest)) (rule_of k vs, rest)
spelled_line_ruled k requests vs rest valued =
    let h = known k requests vs valued in
    (ap (λ (t : List ℕ). t ++ (10 ∷ rest)) (sym h.text) ∙ sym (append_assoc (body_text (owner_of vs) (body_of k vs)) (codes "\n") rest), (h.owner, h.range))

pub rule_line_ok : (requests line : ℕ) (text : List ℕ) (q : RuleRecord × List ℕ) → rule_line requests line text ≡ Ok q → Ruled requests text q
rule_line_ok requests line text q e =
    let a = then_ok (next_line line text) (rule_rest requests line) q e in
    let r = then_ok (rule_value requests line a.0.0) (λ s. Ok (s, a.0.1)) q a.2 in
    let b = then_ok (or_fault (Key line) (lettered a.0.0)) (rule_said requests line) r.0 r.1 in
    let c = then_ok (values_of (Rule b.0.0) requests line b.0.1) (λ vs. Ok (rule_of b.0.0 vs)) r.0 b.2 in
    let whole = cut_whole 10 text a.0 (or_fault_ok (Cut line) (cut 10 text) a.0 a.1) in
    let front = lettered_whole a.0.0 b.0 (or_fault_ok (Key line) (lettered a.0.0) b.0 b.1) in
    let values = values_of_ok (Rule b.0.0) requests line b.0.1 c.0 c.1 in
    from_parts b.0.0 c.0 a.0.0 a.0.1 b.0.1 r.0 whole front values.0 values.1 (same_ok (rule_of b.0.0 c.0) r.0 c.2) (same_ok (r.0, a.0.1) q r.2)
  where
    from_parts : (k : Kind) (vs : List Value) (front rest v : List ℕ) (s : RuleRecord) → text ≡ front ++ (10 ∷ rest) → front ≡ letter k ∷ 61 ∷ v → Valued (Rule k) requests vs → v ≡ commas (map spelled vs) → rule_of k vs ≡ s → (s, rest) ≡ q → Ruled requests text q
    from_parts k vs front rest v s whole begins valued value said left =
        let same = ap (λ (t : RuleRecord). (t, rest)) said ∙ left in
        let line_is : front ≡ spelled_line k vs = begins ∙ ap (λ (t : List ℕ). letter k ∷ 61 ∷ t) value in
        let text_is : spelled_line k vs ++ (10 ∷ rest) ≡ text = sym (whole ∙ ap (λ (t : List ℕ). t ++ (10 ∷ rest)) line_is) in
        subst (Ruled requests text) same (subst (λ (t : List ℕ). Ruled requests t (rule_of k vs, rest)) text_is (spelled_line_ruled k requests vs rest valued))

-- so many lines
abbrev then_rules : (count requests line : ℕ) → RuleRecord × List ℕ → Result (List RuleRecord × List ℕ) LineFault
then_rules count requests line p = rule_lines count requests (suc line) p.1 >>= λ q. Ok (p.0 ∷ q.0, q.1)

pub rule_lines_said : (requests line : ℕ) (rs : List RuleRecord) (rest : List ℕ) → requests ≤ most_requests → AllByRecursion (RuleInRange requests) rs → rule_lines (length rs) requests line (flat_map line_text rs ++ rest) ≡ Ok (rs, rest)
rule_lines_said requests line [] rest small ranges = refl
rule_lines_said requests line (r ∷ rs) rest small ranges =
    ap (λ (t : List ℕ). rule_line requests line t >>= then_rules (length rs) requests line) (append_assoc (line_text r) (flat_map line_text rs) rest)
    ∙ ap (λ (o : Result (RuleRecord × List ℕ) LineFault). o >>= then_rules (length rs) requests line) (rule_line_said requests line r (flat_map line_text rs ++ rest) small ranges.0)
    ∙ ap (λ (o : Result (List RuleRecord × List ℕ) LineFault). o >>= λ q. Ok (r ∷ q.0, q.1)) (rule_lines_said requests (suc line) rs rest small ranges.1)

-- the text begins with the lines of so many rules in range
abbrev pub RuledAll : (count requests : ℕ) → List ℕ → List RuleRecord × List ℕ → Type 0
RuledAll count requests text q = (text ≡ flat_map line_text q.0 ++ q.1) × (count ≡ length q.0) × AllByRecursion (RuleInRange requests) q.0

pub rule_lines_ok : (count requests line : ℕ) (text : List ℕ) (q : List RuleRecord × List ℕ) → rule_lines count requests line text ≡ Ok q → RuledAll count requests text q
rule_lines_ok zero requests line text q e = subst (RuledAll 0 requests text) (same_ok ([], text) q e) (refl, refl, tt)
rule_lines_ok (suc count) requests line text q e =
    let a = then_ok (rule_line requests line text) (then_rules count requests line) q e in
    let b = then_ok (rule_lines count requests (suc line) a.0.1) (λ p. Ok (a.0.0 ∷ p.0, p.1)) q a.2 in
    let first = rule_line_ok requests line text a.0 a.1 in
    let more = rule_lines_ok count requests (suc line) a.0.1 b.0 b.1 in
    subst (RuledAll (suc count) requests text) (same_ok (a.0.0 ∷ b.0.0, b.0.1) q b.2)
    (first.0 ∙ ap (λ (t : List ℕ). line_text a.0.0 ++ t) more.0 ∙ sym (append_assoc (line_text a.0.0) (flat_map line_text b.0.0) b.0.1), ap suc more.1, (first.1, more.2))
