use Rattle.layers.specs.CoverLaws.{cover_asks, cover_given}
use Rattle.layers.proofs.cover_asks_below.Goals as goal

pub returns : goal.returns
returns g c = (
  cover_asks g.O.Oracle.meaning g.O.Oracle.check_leads g.met.O.Oracle.check_means,
  cover_given g.O.Oracle.meaning g.O.Oracle.grant_leads g.met.O.Oracle.grant_means,
)
