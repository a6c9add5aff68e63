-- What the reader answers for a text and a list of rules to fill, and what it leaves in that list. Assumes nothing.
use Rattle.std.specs.Prelude.{ℕ, ◌+◌, ◌-◌, cond, List, [], ◌∷◌, ◌++◌, length, replicate, Ok, Err, Result, nat_le}
use Rattle.std.specs.Result.{result_map_both}
use Rattle.rules.specs.Blank.{blank}
use Rattle.rules.specs.declared.Rule.{Rule}
use Rattle.fields.specs.Faults.{at_field}
use Rattle.ticket.specs.Lines.{header_line, rule_lines, end_line}
use Rattle.fields.specs.Steps.{◌>>=◌}
use Rattle.ticket.specs.declared.reader.Header.{Header}
use Rattle.fields.specs.declared.fault.Flaw.TheVariants.{Table}
use Rattle.fields.specs.declared.fault.LineFault.{LineFault}
use Rattle.fields.specs.declared.fault.LineFault.TheVariants.{Field}
use Rattle.ticket.specs.declared.fault.TicketFault.{TicketFault}
use Rattle.ticket.specs.declared.fault.TicketFault.TheVariants.{Long, Line, Tail}
use Rattle.fields.specs.declared.layout.Heading.TheVariants.{Ticket, Requests, Checks, Rules}

-- the most bytes of a ticket
abbrev pub longest : ℕ
longest = 16384

-- TABLE: the list handed over has room for so many rules
abbrev pub has_room : (rules room : ℕ) → Result (Unit {0}) LineFault
has_room rules room = cond (nat_le rules room) (Ok tt) (Err (Field (at_field Table 4 1)))

-- the four header lines, and what is left of the text
abbrev pub headers : (room : ℕ) → List ℕ → Result (Header × List ℕ) LineFault
headers room text =
    header_line Ticket 1 text >>= λ a.
    header_line Requests 2 a.1 >>= λ n.
    header_line Checks 3 n.1 >>= λ k.
    header_line Rules 4 k.1 >>= λ r.
    has_room r.0 room >>= λ _.
    Ok (record { requests = n.0; checks = k.0; rules = r.0 }, r.1)

-- every line, and what is left after the last
abbrev pub lines : (room : ℕ) → List ℕ → Result (Header × List Rule × List ℕ) LineFault
lines room text =
    headers room text >>= λ h.
    rule_lines h.0.rules h.0.requests 5 h.1 >>= λ p.
    end_line (h.0.rules + 5) p.1 >>= λ rest.
    Ok (h.0, p.0, rest)

-- a fault of a line goes whole into the ticket's
abbrev pub in_ticket : {A : Type 0} → Result A LineFault → Result A TicketFault
in_ticket r = result_map_both (λ x. x) Line r

-- TAIL: nothing follows the last line
abbrev pub closed : Header → List Rule → List ℕ → Result (Header × List Rule) TicketFault
closed h rs [] = Ok (h, rs)
closed h rs (b ∷ bs) = Err (Tail (h.rules + 6))

-- the numbers and rules of a ticket, or its fault
abbrev pub reading : List ℕ → (room : ℕ) → Result (Header × List Rule) TicketFault
reading text room = cond (nat_le (length text) longest) (in_ticket (lines room text) >>= λ p. closed p.0 p.1 p.2) (Err Long)

-- what the reader answers
abbrev pub answer : Result (Header × List Rule) TicketFault → Result Header TicketFault
answer r = result_map_both (λ p. p.0) (λ e. e) r

-- the rules that it read; none where it refuses
abbrev pub rules_read : Result (Header × List Rule) TicketFault → List Rule
rules_read (Ok p) = p.1
rules_read (Err e) = []

-- a list of room entries that begins with these rules; the others are blank
abbrev pub padded : (room : ℕ) → List Rule → List Rule
padded room rs = rs ++ replicate (room - length rs) blank
