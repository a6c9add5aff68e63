use Rattle.layers.specs.QuotaLaws.{quota_asks, quota_given}
use Rattle.layers.proofs.quota_asks_below.Goals as goal

pub returns : goal.returns
returns g c = (
  quota_asks g.O.Oracle.meaning g.O.Oracle.check_leads g.met.O.Oracle.check_means,
  quota_given g.O.Oracle.meaning g.O.Oracle.grant_leads g.met.O.Oracle.grant_means,
)
