use Rattle.layers.specs.QuotaLaws.{quota_takes}
use Rattle.layers.proofs.quota_takes_each.Goals as goal

pub returns : goal.returns
returns g c = quota_takes g.O.Oracle.meaning g.O.Oracle.check_leads g.met.O.Oracle.check_means
