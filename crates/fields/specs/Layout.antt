-- Which fields each line has, and what may stand in them. Assumes nothing.
use Rattle.std.specs.Prelude.{ℕ, ◌+◌, Bool, true, false, cond, ◌&&◌, ◌==◌, nat_le, unsigned_abs}
use Rattle.rules.specs.declared.Kind.{Kind}
use Rattle.rules.specs.declared.Kind.TheVariants.{Options, Gaps, Faces}
use Rattle.rules.specs.Limits.{last_option, last_face, last_mark, widest_gap, most_members}
use Rattle.fields.specs.Limits.{most_requests, most_checks, most_rules}
use Rattle.fields.specs.declared.layout.Column.{Column}
use Rattle.fields.specs.declared.layout.Heading.{Heading}
use Rattle.fields.specs.declared.layout.Heading.TheVariants.{Ticket, Requests, Checks, Rules}
use Rattle.fields.specs.declared.layout.Sort.{Sort}
use Rattle.fields.specs.declared.layout.Sort.TheVariants.{Header, Rule}
use Rattle.fields.specs.declared.layout.Style.TheVariants.{Number, Head, Width}
use Rattle.fields.specs.declared.value.Value.{Value}
use Rattle.fields.specs.declared.value.Value.TheVariants.{Dash, Plain, Signed}

-- the fewest and the most fields of a line
abbrev pub fewest : Sort → ℕ
fewest (Header h) = 1
fewest (Rule Options) = 2
fewest (Rule Gaps) = 4
fewest (Rule Faces) = 3

-- the most fields that a line may have
abbrev pub most : Sort → ℕ
most (Header h) = 1
most (Rule Options) = 2 + most_members
most (Rule Gaps) = 4
most (Rule Faces) = 2 + most_members

-- whether the fields from the third on are a set, written in rising order
abbrev pub ends_in_set : Sort → Bool
ends_in_set (Header h) = false
ends_in_set (Rule Options) = true
ends_in_set (Rule Gaps) = false
ends_in_set (Rule Faces) = true

-- a column of plain numbers
abbrev pub numbers : (low high : ℕ) → Column
numbers low high = record { style = Number; low = low; high = high }

-- the one field of a header
abbrev pub header_column : Heading → Column
header_column Ticket = numbers 1 1
header_column Requests = numbers 0 most_requests
header_column Checks = numbers 0 most_checks
header_column Rules = numbers 0 most_rules

-- field i of a rule, after the owner
abbrev pub rule_column : Kind → (i : ℕ) → Column
rule_column Options i = cond (i == 2) (record { style = Head; low = 0; high = last_option }) (numbers 0 last_option)
rule_column Gaps i = cond (i == 4) (record { style = Width; low = 0; high = widest_gap }) (numbers 0 last_mark)
rule_column Faces i = cond (i == 2) (numbers 0 1) (numbers 0 last_face)

-- field i of a line, on a ticket of so many requests
abbrev pub column : Sort → (requests i : ℕ) → Column
column (Header h) requests i = header_column h
column (Rule k) requests i = cond (i == 1) (numbers 0 requests) (rule_column k i)

-- whether what a field says lies in its range; of a signed number its distance from nought is held to the upper end
abbrev pub inside : Column → Value → Bool
inside c Dash = true
inside c (Plain n) = nat_le c.low n && nat_le n c.high
inside c (Signed z) = nat_le (unsigned_abs z) c.high
