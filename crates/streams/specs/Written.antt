-- What is written for the bytes that a reader has left, the ticket. Where those are not known, or
-- those that the writer holds, it says nothing of them. Assumes nothing.
use Rattle.std.specs.Prelude.{◌≡◌, ℕ, List, ◌++◌, Option, IfSome}
use Rattle.std.specs.Io.KnownBytes.{Appends, Keeps}
use Rattle.ticket.specs.declared.fault.TicketFault.{TicketFault}
use Rattle.report.specs.Exactly.{IsReportOf}
use Rattle.report.specs.Explained.{explained}
use Rattle.streams.specs.Faults.{fault_of}
use Rattle.streams.specs.declared.error.AnswerError.{AnswerError}
use Rattle.streams.specs.declared.error.AnswerError.TheVariants.{Memory, Reading, Writing}

-- all of the answer to the ticket was written, and nothing else
abbrev pub WritesAnswer : (left : Option (List ℕ)) → (before after : Option (List ℕ)) → Type 0
WritesAnswer left before after = IfSome left (λ ticket. Appends before after (explained ticket))

-- and that answer is a true report of the ticket, or its refusal
abbrev pub TellsTruly : (left : Option (List ℕ)) → Type 0
TellsTruly left = IfSome left (λ ticket. IsReportOf ticket (explained ticket))

-- the fault of the ticket was told, if it is refused
abbrev pub TellsFault : (left : Option (List ℕ)) → Option TicketFault → Type 0
TellsFault left told = IfSome left (λ ticket. told ≡ fault_of ticket)

-- a beginning of some bytes was written, and nothing else
abbrev pub WritesBeginning : List ℕ → (before after : Option (List ℕ)) → Type 0
WritesBeginning bytes before after =
    (sent rest : List ℕ) × (sent ++ rest ≡ bytes) × Appends before after sent

-- what was written where it failed: a beginning of the answer to the ticket where the writer did,
-- and else nothing
abbrev pub WrittenOnError : (left : Option (List ℕ)) → (before after : Option (List ℕ)) → AnswerError
    → Type 0
WrittenOnError left before after (Memory error) = Keeps before after
WrittenOnError left before after (Reading error) = Keeps before after
WrittenOnError left before after (Writing error) =
    IfSome left (λ ticket. WritesBeginning (explained ticket) before after)
