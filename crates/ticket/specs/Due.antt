-- What is due at each line of a ticket. Assumes nothing.
use Rattle.std.specs.Prelude.{ℕ, ◌+◌, cond, List, Option, ◌==◌, nat_le, slice_get}
use Rattle.std.specs.Option.{option_and_then, option_map_or}
use Rattle.fields.specs.Cuts.{after, fields}
use Rattle.fields.specs.Formed.{amount}
use Rattle.fields.specs.Numbers.{said}
use Rattle.fields.specs.declared.layout.Heading.{Heading}
use Rattle.fields.specs.declared.layout.Heading.TheVariants.{Ticket, Requests, Checks, Rules}
use Rattle.fields.specs.declared.layout.Style.TheVariants.{Number}
use Rattle.ticket.specs.Entries.{key}
use Rattle.ticket.specs.LineAt.{line_at}

-- a header, a rule of any kind, or the end
pub data Due : Type 0 where
  a_header : Heading → Due
  a_rule : Due
  the_end : Due

-- what is due at a line of a ticket with so many rules; lines are counted from 1
abbrev pub due_at : (rules line : ℕ) → Due
due_at rules line =
    cond (line == 1) (a_header Ticket)
    (cond (line == 2) (a_header Requests)
    (cond (line == 3) (a_header Checks)
    (cond (line == 4) (a_header Rules)
    (cond (nat_le line (rules + 4)) a_rule the_end))))

-- the number that field 1 of a header line says; 0 where the line is no such header, or says none
abbrev pub number_in : Heading → (line : Option (List ℕ)) → ℕ
number_in h line =
    let value : Option (List ℕ) = option_and_then (after (key h)) line in
    let field : Option (List ℕ) = option_and_then (λ v. slice_get (fields v) 0) value in
    option_map_or amount (option_and_then (said Number) field) 0

-- the requests of the ticket, by line 2
abbrev pub requests_in : (text : List ℕ) → ℕ
requests_in text = number_in Requests (line_at 2 text)

-- the rules of the ticket, by line 4
abbrev pub rules_in : (text : List ℕ) → ℕ
rules_in text = number_in Rules (line_at 4 text)
