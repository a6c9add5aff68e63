-- What a report says of its ticket, in terms of choices: it names no steps. Assumes nothing.
use Rattle.std.specs.Prelude.{◌≡◌, ◌≢◌, ℕ, ◌+◌, ◌*◌, ◌<◌, ◌≤◌, ◌↔◌, List, length}
use Rattle.std.specs.Prelude.{Ok, Err, Result, IfSome}
use Rattle.std.specs.List.{All, AllPairs}
use Rattle.rules.specs.declared.Rule.{Rule}
use Rattle.fields.specs.Limits.{most_rules}
use Rattle.listing.specs.Bill.{depth, conflicts, relaxations, sizes, most_answers}
use Rattle.listing.specs.Lines.{most_lines}
use Rattle.listing.specs.Listings.{first_conflict}
use Rattle.listing.specs.declared.lines.Line.{Line}
use Rattle.ticket.specs.Reading.{reading}
use Rattle.ticket.specs.declared.fault.TicketFault.{TicketFault}
use Rattle.ticket.specs.declared.reader.Header.{Header}
use Rattle.report.specs.Conflicts.{IsPreferredConflict}
use Rattle.report.specs.Explained.{refused_text, explained}
use Rattle.report.specs.Piles.{own_label}
use Rattle.report.specs.Texts.{report_text}
use Rattle.report.specs.Told.{TellsOne, TellsAll, IsFull, KeepFalls, MissingKeepLess}
use Rattle.report.specs.declared.texts.Ended.{Ended}
use Rattle.report.specs.declared.texts.Ended.TheVariants as how

-- a report of an accepted ticket
pub record IsReport (h : Header) (rules : List Rule) (text : List ℕ) : Type 0 where
  -- it tells of these lines, of so many checks, of this bound on them, and of this end
  pub lines : List Line
  pub checks : ℕ
  pub bound : ℕ
  pub ended : Ended
  pub text_is : text ≡ report_text h.requests lines checks bound ended
  -- at most 512 lines, none twice; each tells of a minimal conflict or of a maximal relaxation
  pub few : length lines ≤ most_lines
  pub once : AllPairs (λ x y. x ≢ y) lines
  pub each : All (TellsOne rules h.requests) lines
  -- the first conflict of the lines, if there is one, is the preferred one of all conflicts
  pub preferred : IfSome (first_conflict lines) (IsPreferredConflict rules h.requests)
  -- the relaxations fall in keep weight, and each maximal one that is missing has less
  pub falling : KeepFalls h.requests lines
  pub missing : MissingKeepLess rules h.requests lines
  -- it ends with `all` exactly where the lines tell of all there is, with `full` exactly where
  -- there are 512 and they do not, and with `spent,1` exactly in the remaining case; and never with
  -- another label
  pub all : (ended ≡ how.All) ↔ TellsAll rules h.requests lines
  pub full : (ended ≡ how.Full) ↔ IsFull rules h.requests lines
  pub spent : (ended ≡ how.Spent own_label)
      ↔ ((TellsAll rules h.requests lines → ⊥) × (IsFull rules h.requests lines → ⊥))
  pub own : (label : ℕ) → ended ≡ how.Spent label → label ≡ own_label
  -- no more checks than the ticket allows, and all of them where it ends with `spent,1`
  pub few_checks : checks ≤ h.checks
  pub exhausted : ended ≡ how.Spent own_label → checks ≡ h.checks
  -- otherwise no more than the bound: one, one for each line, and two at each depth for each
  -- request of a listed conflict
  pub bounded : ended ≢ how.Spent own_label → checks ≤ bound
  pub bound_is : bound
      ≡ 1 + relaxations lines + conflicts lines + 2 * depth h.requests * sizes lines
  -- each line took a check of its own; and however it ends, the checks are fewer than 64 above the
  -- bound: those of a line that is not listed yet
  pub paid : length lines ≤ checks
  pub near : checks < bound + most_answers

-- a report of an accepted ticket, or the refusal of another
abbrev pub IsAnswer : Result (Header × List Rule) TicketFault → (text : List ℕ) → Type 0
IsAnswer (Ok p) text = IsReport p.0 p.1 text
IsAnswer (Err f) text = text ≡ refused_text f

-- what is answered to the bytes of a ticket
abbrev pub IsReportOf : (ticket text : List ℕ) → Type 0
IsReportOf ticket text = IsAnswer (reading ticket most_rules) text

-- what is defined to be answered to any bytes is such an answer
abbrev pub EveryReportTrue : Type 0
EveryReportTrue = (ticket : List ℕ) → IsReportOf ticket (explained ticket)
