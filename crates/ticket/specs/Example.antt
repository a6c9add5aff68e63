-- A worked ticket, and what the definitions make of it. Assumes nothing.
use Rattle.std.specs.Prelude.{◌≡◌, ℕ, List, [], ◌∷◌, Some, None, Ok, codes, Option}
use Rattle.sets.specs.Masks.{mask}
use Rattle.rules.specs.Made as made
use Rattle.rules.specs.declared.Rule.{Rule}
use Rattle.ticket.specs.Reading.{reading}
use Rattle.ticket.specs.Text.{text_of}
use Rattle.ticket.specs.declared.reader.Header.{Header}

-- the bytes of the ticket
abbrev pub ticket_a : List ℕ
ticket_a = codes "ticket=1\nrequests=3\nchecks=100\nrules=5\nh=0,-,0,1\nh=0,-,1,2\nh=1,1\nh=2,0\nh=3,2\nend=ticket\n"

-- its numbers
abbrev pub header_a : Header
header_a = record { requests = 3; checks = 100; rules = 5 }

-- a rule of options, by the number of its set
abbrev pub options_rule : ℕ → Option ℕ → ℕ → Rule
options_rule owner head s = made.options_rule owner head (mask s)

-- options 0 and 1 exclude each other, and so do 1 and 2; request 1 puts option 1 on, 2 option 0, and 3 option 2
abbrev pub rules_a : List Rule
rules_a = options_rule 0 None 3 ∷ options_rule 0 None 6 ∷ options_rule 1 (Some 1) 0 ∷ options_rule 2 (Some 0) 0 ∷ options_rule 3 (Some 2) 0 ∷ []

-- the definitions read these numbers and rules
abbrev pub ReadsA : Type 0
ReadsA = reading ticket_a 96 ≡ Ok (header_a, rules_a)

-- and the text of what was read is the ticket again
abbrev pub WritesA : Type 0
WritesA = text_of header_a rules_a ≡ ticket_a
