-- What `explain` answers to the bytes of a ticket. Assumes nothing.
use Rattle.std.specs.Prelude.{◌≡◌, ℕ, List, Ok, Err, Result, IfOk}
use Rattle.std.specs.declared.alloc.AllocError.{AllocError}
use Rattle.rules.specs.declared.Rule.{Rule}
use Rattle.fields.specs.Limits.{most_rules}
use Rattle.listing.specs.Listed.{lines_of}
use Rattle.ticket.specs.Reading.{reading}
use Rattle.ticket.specs.declared.fault.TicketFault.{TicketFault}
use Rattle.ticket.specs.declared.reader.Header.{Header}
use Rattle.report.specs.Exactly.{IsReportOf}
use Rattle.report.specs.Explained.{refused_text, explained}
use Rattle.report.specs.Texts.{report_text}
use Rattle.report.specs.declared.explained.Answer.TheVariants as of_ticket
use Rattle.report.specs.declared.explained.Answer.{Answer}
use Rattle.report.specs.declared.texts.Report.{Report}

-- what is printed of a report
abbrev pub text_told : Report → List ℕ
text_told r = report_text r.requests (lines_of r.listing) r.checks r.bound r.ended

-- what is printed of an answer
abbrev pub answer_text : Answer → List ℕ
answer_text (of_ticket.Report report) = text_told report
answer_text (of_ticket.Refused fault) = refused_text fault

-- a report, whose text is the one that is defined, and tells truly of the ticket
abbrev pub IsReportOn : (text : List ℕ) → Answer → Type 0
IsReportOn text (of_ticket.Report report) =
    (text_told report ≡ explained text) × IsReportOf text (text_told report)
IsReportOn text (of_ticket.Refused fault) = ⊥

-- a ticket of which this was read is answered: a refused one with its fault, whatever memory there
-- is; an accepted one with a report, or it wants for memory
abbrev pub AnswersRead : Result (Header × List Rule) TicketFault → (text : List ℕ)
    → Result Answer AllocError → Type 0
AnswersRead (Ok p) text r = IfOk r (IsReportOn text)
AnswersRead (Err f) text r = r ≡ Ok (of_ticket.Refused f)

-- the bytes of a ticket are answered so
abbrev pub IsAnswered : (text : List ℕ) → Result Answer AllocError → Type 0
IsAnswered text r = AnswersRead (reading text most_rules) text r
