-- From the bytes of a ticket to those of its report. Assumes nothing.
use Rattle.std.specs.Prelude.{ℕ, List, ◌++◌, Ok, Err, codes, Result}
use Rattle.rules.specs.declared.Rule.{Rule}
use Rattle.fields.specs.Limits.{most_rules}
use Rattle.ticket.specs.Refusals.{refusal_text}
use Rattle.ticket.specs.Reading.{reading}
use Rattle.ticket.specs.declared.fault.TicketFault.{TicketFault}
use Rattle.ticket.specs.declared.reader.Header.{Header}
use Rattle.listing.specs.Bill.{bound}
use Rattle.report.specs.Ends.{Finished, listing_of}
use Rattle.report.specs.Texts.{report_text}

-- the text of a listing
abbrev pub finished_text : (requests : ℕ) → Finished → List ℕ
finished_text requests done = report_text requests done.state.lines done.state.checks (bound requests done.state.lines) done.ended

-- the report of an accepted ticket
abbrev pub accepted_text : Header → List Rule → List ℕ
accepted_text h rules = finished_text h.requests (listing_of rules h.requests h.checks)

-- that of a refused one
abbrev pub refused_text : TicketFault → List ℕ
refused_text f = codes "refused=" ++ (refusal_text f ++ codes "\n")

-- what is printed: of an accepted ticket its listing, of a refused one its refusal
abbrev pub text_of : Result (Header × List Rule) TicketFault → List ℕ
text_of (Ok p) = accepted_text p.0 p.1
text_of (Err f) = refused_text f

-- what the bytes of a ticket are answered with
abbrev pub explained : List ℕ → List ℕ
explained text = text_of (reading text most_rules)
