use Rattle.explainer.specs.Preferring.{preferring}
use Rattle.explainer.proofs.UntilEnds.{until_end_ended}
use Rattle.explainer.proofs.until_end_ends.Goals as goal

pub returns : goal.returns
returns g c = until_end_ended preferring g.O.Oracle.meaning g.O.Oracle.check_leads g.O.Oracle.grant_leads
