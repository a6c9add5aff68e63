use Rattle.ticket.proofs.EveryRule.{every_rule_counts}
use Rattle.ticket.proofs.every_rule_counts.Goals as goal

pub returns : goal.returns
returns c = every_rule_counts
