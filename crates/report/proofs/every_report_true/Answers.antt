use Rattle.fields.specs.Limits.{most_rules}
use Rattle.ticket.proofs.Exactness.{exact}
use Rattle.report.proofs.Exact.{is_report_of}
use Rattle.report.proofs.every_report_true.Goals as goal

pub returns : goal.returns
returns c text = is_report_of text (exact text most_rules)
