-- The header lines: what each says, and its text. Assumes nothing.
use Rattle.std.proofs.Common.{◌≡◌, ℕ, ◌≤◌, List, [], ◌∷◌, ◌++◌, map, get_or, Ok, decimal, Option, Result, sym, ap, ◌∙◌, subst, append_assoc, append-nil, arith}
use Rattle.std.proofs.lemmas.Bool.{false≢true}
use Rattle.fields.specs.Limits.{most_requests, most_checks, most_rules}
use Rattle.fields.specs.Cuts.{cut, after}
use Rattle.ticket.specs.Entries.{key}
use Rattle.fields.specs.Formed.{amount, values_of}
use Rattle.fields.specs.Layout.{header_column}
use Rattle.ticket.specs.Lines.{next_line, header_value, header_line}
use Rattle.fields.specs.Steps.{◌>>=◌, or_fault}
use Rattle.fields.specs.declared.fault.LineFault.{LineFault}
use Rattle.fields.specs.declared.fault.LineFault.TheVariants.{Cut, Key}
use Rattle.fields.specs.declared.layout.Heading.{Heading}
use Rattle.fields.specs.declared.layout.Heading.TheVariants.{Ticket, Requests, Checks, Rules}
use Rattle.fields.specs.declared.layout.Sort.TheVariants.{Header}
use Rattle.fields.specs.declared.value.Value.{Value}
use Rattle.fields.specs.declared.value.Value.TheVariants.{Dash, Plain}
use Rattle.fields.proofs.Commas.{commas}
use Rattle.fields.proofs.Outcomes.{then_ok, or_fault_ok, same_ok}
use Rattle.fields.proofs.Placed.{Fits, Placed, placed_free}
use Rattle.ticket.proofs.Risen.{number_fits, fits_number}
use Rattle.fields.proofs.Spelling.{spelled}
use Rattle.fields.proofs.Splits.{Free, free_append, cut_at, cut_whole, after_key, after_whole}
use Rattle.fields.proofs.Valued.{Valued, values_of_spelled, values_of_ok}

-- a number in the range of its header
abbrev pub Headed : Heading → ℕ → Type 0
Headed h n = ((header_column h).low ≤ n) × (n ≤ (header_column h).high)

-- what stands before a header's number, and after it
abbrev pub header_said : Heading → (n : ℕ) (rest : List ℕ) → List ℕ
header_said h n rest = key h ++ (decimal n ++ (10 ∷ rest))

fits_headed : (h : Heading) (v : Value) → Fits (header_column h) v → (n : ℕ) × (v ≡ Plain n) × Headed h n
fits_headed Ticket v fits = let p = number_fits 1 1 v fits in (p.0, p.1, (p.2, p.3))
fits_headed Requests v fits = let p = number_fits 0 most_requests v fits in (p.0, p.1, (p.2, p.3))
fits_headed Checks v fits = let p = number_fits 0 most_checks v fits in (p.0, p.1, (p.2, p.3))
fits_headed Rules v fits = let p = number_fits 0 most_rules v fits in (p.0, p.1, (p.2, p.3))

headed_fits : (h : Heading) (n : ℕ) → Headed h n → Fits (header_column h) (Plain n)
headed_fits Ticket n range = fits_number 1 1 n range.0 range.1 (omega arith)
headed_fits Requests n range = fits_number 0 most_requests n range.0 range.1 (omega arith)
headed_fits Checks n range = fits_number 0 most_checks n range.0 range.1 (omega arith)
headed_fits Rules n range = fits_number 0 most_rules n range.0 range.1 (omega arith)

one_value : (h : Heading) (vs : List Value) → Valued (Header h) 0 vs → (n : ℕ) × (vs ≡ Plain n ∷ []) × Headed h n
one_value h [] valued = absurd (omega arith)
one_value h (v ∷ u ∷ us) valued = absurd (omega arith)
one_value h (v ∷ []) valued = let p = fits_headed h v valued.placed.0 in (p.0, ap (λ u. u ∷ []) p.1, p.2)

key_free : (h : Heading) → Free 10 (key h)
key_free Ticket = omega arith
key_free Requests = omega arith
key_free Checks = omega arith
key_free Rules = omega arith

-- the steps of a header line, after CUT and after KEY
abbrev header_number : Heading → (line : ℕ) → List ℕ → Result ℕ LineFault
header_number h line value = values_of (Header h) 0 line value >>= λ vs. Ok (amount (get_or vs 0 Dash))

abbrev header_rest : Heading → (line : ℕ) → List ℕ × List ℕ → Result (ℕ × List ℕ) LineFault
header_rest h line p = header_value h line p.0 >>= λ n. Ok (n, p.1)

pub header_line_said : (h : Heading) (line n : ℕ) (rest : List ℕ) → Headed h n → header_line h line (header_said h n rest) ≡ Ok (n, rest)
header_line_said h line n rest range =
    let placed : Placed (Header h) 0 1 (Plain n ∷ []) = (headed_fits h n range, tt) in
    let free : Free 10 (key h ++ decimal n) = free_append 10 (key h) (decimal n) (key_free h) (placed_free (Header h) 0 1 (Plain n ∷ []) placed).1.0 in
    let valued : Valued (Header h) 0 (Plain n ∷ []) = record { count = (omega arith, omega arith); placed = placed; order = λ is. absurd (false≢true is) } in
    let values : values_of (Header h) 0 line (decimal n) ≡ Ok (Plain n ∷ []) = ap (values_of (Header h) 0 line) (sym (append-nil (decimal n))) ∙ values_of_spelled (Header h) 0 line (Plain n ∷ []) valued in
    ap (λ (t : List ℕ). next_line line t >>= header_rest h line) (sym (append_assoc (key h) (decimal n) (10 ∷ rest)))
    ∙ ap (λ (o : Option (List ℕ × List ℕ)). or_fault (Cut line) o >>= header_rest h line) (cut_at 10 (key h ++ decimal n) rest free)
    ∙ ap (λ (o : Option (List ℕ)). (or_fault (Key line) o >>= header_number h line) >>= λ m. Ok (m, rest)) (after_key (key h) (decimal n))
    ∙ ap (λ (r : Result (List Value) LineFault). (r >>= λ vs. Ok (amount (get_or vs 0 Dash))) >>= λ m. Ok (m, rest)) values

-- what one line says is a number in range, and the line is its text
abbrev Says : Heading → List ℕ → ℕ × List ℕ → Type 0
Says h text q = (text ≡ header_said h q.0 q.1) × Headed h q.0

one_value_said : (h : Heading) (vs : List Value) (rest : List ℕ) → Valued (Header h) 0 vs → Says h ((key h ++ commas (map spelled vs)) ++ (10 ∷ rest)) (amount (get_or vs 0 Dash), rest)
one_value_said h vs rest valued =
    let one = one_value h vs valued in
    let n = one.0 in
    subst (λ (us : List Value). Says h ((key h ++ commas (map spelled us)) ++ (10 ∷ rest)) (amount (get_or us 0 Dash), rest)) (sym one.1)
    (ap (λ (t : List ℕ). (key h ++ t) ++ (10 ∷ rest)) (append-nil (decimal n)) ∙ append_assoc (key h) (decimal n) (10 ∷ rest), one.2)

pub header_line_ok : (h : Heading) (line : ℕ) (text : List ℕ) (q : ℕ × List ℕ) → header_line h line text ≡ Ok q → Says h text q
header_line_ok h line text q e =
    let a = then_ok (next_line line text) (header_rest h line) q e in
    let n = then_ok (header_value h line a.0.0) (λ m. Ok (m, a.0.1)) q a.2 in
    let b = then_ok (or_fault (Key line) (after (key h) a.0.0)) (header_number h line) n.0 n.1 in
    let c = then_ok (values_of (Header h) 0 line b.0) (λ vs. Ok (amount (get_or vs 0 Dash))) n.0 b.2 in
    let whole = cut_whole 10 text a.0 (or_fault_ok (Cut line) (cut 10 text) a.0 a.1) in
    let begins = after_whole (key h) a.0.0 b.0 (or_fault_ok (Key line) (after (key h) a.0.0) b.0 b.1) in
    let values = values_of_ok (Header h) 0 line b.0 c.0 c.1 in
    from_parts c.0 a.0.0 a.0.1 b.0 n.0 whole begins values.0 values.1 (same_ok (amount (get_or c.0 0 Dash)) n.0 c.2) (same_ok (n.0, a.0.1) q n.2)
  where
    from_parts : (vs : List Value) (front rest v : List ℕ) (m : ℕ) → text ≡ front ++ (10 ∷ rest) → front ≡ key h ++ v → Valued (Header h) 0 vs → v ≡ commas (map spelled vs) → amount (get_or vs 0 Dash) ≡ m → (m, rest) ≡ q → Says h text q
    from_parts vs front rest v m whole begins valued value said left =
        let same = ap (λ (k : ℕ). (k, rest)) said ∙ left in
        let front_is : front ≡ key h ++ commas (map spelled vs) = begins ∙ ap (λ (t : List ℕ). key h ++ t) value in
        let text_is : (key h ++ commas (map spelled vs)) ++ (10 ∷ rest) ≡ text = sym (whole ∙ ap (λ (t : List ℕ). t ++ (10 ∷ rest)) front_is) in
        subst (Says h text) same (subst (λ (t : List ℕ). Says h t (amount (get_or vs 0 Dash), rest)) text_is (one_value_said h vs rest valued))
