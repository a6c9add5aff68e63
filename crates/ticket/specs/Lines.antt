-- The lines of a ticket, one after another. Each step gives what it read and what is left of the text. Assumes nothing.
use Rattle.std.specs.Prelude.{ℕ, zero, suc, cond, List, [], ◌∷◌, Ok, Err, codes, Result, slice_index_or}
use Rattle.std.specs.Str.{bytes_eq as same_text}
use Rattle.rules.specs.declared.Rule.{Rule as RuleRecord}
use Rattle.fields.specs.Cuts.{cut, after}
use Rattle.ticket.specs.Entries.{key, lettered}
use Rattle.fields.specs.Faults.{at_field}
use Rattle.fields.specs.Formed.{amount, values_of}
use Rattle.ticket.specs.Ruled.{rule_of}
use Rattle.fields.specs.Steps.{◌>>=◌, or_fault}
use Rattle.fields.specs.declared.fault.Flaw.TheVariants.{Form}
use Rattle.fields.specs.declared.fault.LineFault.{LineFault}
use Rattle.fields.specs.declared.fault.LineFault.TheVariants.{Cut, Key, Field}
use Rattle.fields.specs.declared.layout.Heading.{Heading}
use Rattle.fields.specs.declared.layout.Sort.TheVariants.{Header, Rule}
use Rattle.fields.specs.declared.value.Value.TheVariants.{Dash}

-- CUT: the line, up to the next byte 10, and what stands after that byte
abbrev pub next_line : (line : ℕ) → List ℕ → Result (List ℕ × List ℕ) LineFault
next_line line text = or_fault (Cut line) (cut 10 text)

-- KEY, and the number of a header's one field
abbrev pub header_value : Heading → (line : ℕ) → List ℕ → Result ℕ LineFault
header_value h line text =
    or_fault (Key line) (after (key h) text) >>= λ value.
    values_of (Header h) 0 line value >>= λ vs.
    Ok (amount (slice_index_or vs 0 Dash))

-- a whole header line
abbrev pub header_line : Heading → (line : ℕ) → List ℕ → Result (ℕ × List ℕ) LineFault
header_line h line text =
    next_line line text >>= λ p.
    header_value h line p.0 >>= λ n.
    Ok (n, p.1)

-- KEY, and the rule that the fields say
abbrev pub rule_value : (requests line : ℕ) → List ℕ → Result RuleRecord LineFault
rule_value requests line text =
    or_fault (Key line) (lettered text) >>= λ q.
    values_of (Rule q.0) requests line q.1 >>= λ vs.
    Ok (rule_of q.0 vs)

-- a whole rule line
abbrev pub rule_line : (requests line : ℕ) → List ℕ → Result (RuleRecord × List ℕ) LineFault
rule_line requests line text =
    next_line line text >>= λ p.
    rule_value requests line p.0 >>= λ r.
    Ok (r, p.1)

-- so many rule lines, the first of which has the number `line`
abbrev pub rule_lines : (count requests line : ℕ) → List ℕ → Result (List RuleRecord × List ℕ) LineFault
rule_lines zero requests line text = Ok ([], text)
rule_lines (suc count) requests line text =
    rule_line requests line text >>= λ p.
    rule_lines count requests (suc line) p.1 >>= λ q.
    Ok (p.0 ∷ q.0, q.1)

-- FORM of the last line
abbrev pub end_value : (line : ℕ) → List ℕ → Result (Unit {0}) LineFault
end_value line value = cond (same_text value (codes "ticket")) (Ok tt) (Err (Field (at_field Form line 1)))

-- KEY, and the word `ticket`
abbrev pub end_entry : (line : ℕ) → List ℕ → Result (Unit {0}) LineFault
end_entry line text = or_fault (Key line) (after (codes "end=") text) >>= λ value. end_value line value

-- the last line; it gives what is left after it
abbrev pub end_line : (line : ℕ) → List ℕ → Result (List ℕ) LineFault
end_line line text =
    next_line line text >>= λ p.
    end_entry line p.0 >>= λ _.
    Ok p.1
