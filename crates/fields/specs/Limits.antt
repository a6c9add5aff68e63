-- The limits of a ticket's numbers; `Limits` of crate `rules` has those of its rules. Assumes nothing.
use Rattle.std.specs.Prelude.{ℕ}
use Rattle.sets.specs.Requests.{widest}
use Rattle.oracle.specs.Meaning.{limit}

-- the most requests of a ticket
abbrev pub most_requests : ℕ
most_requests = widest

-- the most checks that a ticket may allow
abbrev pub most_checks : ℕ
most_checks = limit

-- the most rules of a ticket
abbrev pub most_rules : ℕ
most_rules = 96
