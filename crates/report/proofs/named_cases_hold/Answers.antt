use Rattle.report.proofs.named_cases_hold.Goals as goal
use Rattle.report.proofs.NamedCases.{named_cases}

pub returns : goal.returns
returns c = named_cases
