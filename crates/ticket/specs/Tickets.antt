-- Which numbers and rules make a ticket, and the law of the reader: it accepts the texts of tickets, and no other. Assumes nothing.
use Rattle.std.specs.Prelude.{◌≡◌, ℕ, ◌^◌, ◌<◌, ◌≤◌, List, length, Some, None, Ok, Err, Option, unsigned_abs}
use Rattle.std.specs.List.{AllByRecursion}
use Rattle.rules.specs.declared.Body.{Body}
use Rattle.rules.specs.declared.Body.TheVariants.{Options, Gap, Faces}
use Rattle.rules.specs.declared.Rule.{Rule}
use Rattle.sets.specs.Masks.{number_of}
use Rattle.sets.specs.Members.{places, members}
use Rattle.fields.specs.Faults.{at_field}
use Rattle.rules.specs.Limits.{last_option, last_mark, widest_gap, most_members}
use Rattle.fields.specs.Limits.{most_requests, most_checks, most_rules}
use Rattle.ticket.specs.Reading.{reading}
use Rattle.ticket.specs.Text.{text_of}
use Rattle.ticket.specs.declared.reader.Header.{Header}
use Rattle.fields.specs.declared.fault.Flaw.TheVariants.{Table}
use Rattle.fields.specs.declared.fault.LineFault.TheVariants.{Field}
use Rattle.ticket.specs.declared.fault.TicketFault.TheVariants.{Line}

-- a set of so many numbers from 0 to 31
abbrev pub SetOf : (least greatest : ℕ) → ℕ → Type 0
SetOf least greatest s = (s < 2 ^ places) × (least ≤ length (members s)) × (length (members s) ≤ greatest)

-- a head is an option, or there is none
abbrev pub HeadInRange : Option ℕ → Type 0
HeadInRange None = Unit {0}
HeadInRange (Some n) = n ≤ last_option

-- what a rule of each kind may say
abbrev pub BodyInRange : Body → Type 0
BodyInRange (Options head s) = HeadInRange head × SetOf 0 most_members (number_of s.members)
BodyInRange (Gap a b w) = (a ≤ last_mark) × (b ≤ last_mark) × (unsigned_abs w ≤ widest_gap)
BodyInRange (Faces odd s) = SetOf 1 most_members (number_of s.members)

-- a blank rule stands on no ticket
abbrev pub SomeInRange : Option Body → Type 0
SomeInRange None = ⊥
SomeInRange (Some b) = BodyInRange b

-- the owner is the house or a request of the ticket
abbrev pub RuleInRange : (requests : ℕ) → Rule → Type 0
RuleInRange requests r = (r.owner ≤ requests) × SomeInRange r.body

-- these numbers and rules make a ticket
pub record Ticket (h : Header) (rs : List Rule) : Type 0 where
  pub requests : h.requests ≤ most_requests
  pub checks : h.checks ≤ most_checks
  pub few : h.rules ≤ most_rules
  pub rules : h.rules ≡ length rs
  pub each : AllByRecursion (RuleInRange h.requests) rs

-- of one text, and one list that has room for so many rules
pub record Exact (text : List ℕ) (room : ℕ) : Type 0 where
  -- what is accepted is the text of the ticket that was read
  pub only : (h : Header) (rs : List Rule) → reading text room ≡ Ok (h, rs) → Ticket h rs × (text ≡ text_of h rs) × (h.rules ≤ room)
  -- the text of a ticket is accepted with its numbers and rules where there is room, and refused TABLE where there is not
  pub all : (h : Header) (rs : List Rule) → Ticket h rs → text ≡ text_of h rs → h.rules ≤ room → reading text room ≡ Ok (h, rs)
  pub short : (h : Header) (rs : List Rule) → Ticket h rs → text ≡ text_of h rs → room < h.rules → reading text room ≡ Err (Line (Field (at_field Table 4 1)))
