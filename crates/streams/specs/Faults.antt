-- The fault of a ticket that is refused. Assumes nothing.
use Rattle.std.specs.Prelude.{ℕ, List, Option, Some, None}
use Rattle.std.specs.Result.{result_err}
use Rattle.fields.specs.Limits.{most_rules}
use Rattle.ticket.specs.Reading.{reading}
use Rattle.ticket.specs.declared.fault.TicketFault.{TicketFault}
use Rattle.report.specs.declared.explained.Answer.TheVariants.{Report, Refused}
use Rattle.report.specs.declared.explained.Answer.{Answer}

-- the fault of the ticket that these bytes are, if it is refused
abbrev pub fault_of : List ℕ → Option TicketFault
fault_of ticket = result_err (reading ticket most_rules)

-- the fault that an answer tells
abbrev pub fault_told : Answer → Option TicketFault
fault_told (Report report) = None
fault_told (Refused fault) = Some fault
