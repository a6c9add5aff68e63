use Rattle.layers.specs.BothLaws.{both_asked, both_given}
use Rattle.layers.proofs.both_asks_sides.Goals as goal

pub returns : goal.returns
returns g c = (
  both_asked g.L.Oracle.meaning g.R.Oracle.meaning g.L.Oracle.check_leads g.R.Oracle.check_leads g.met.L.Oracle.check_means g.met.R.Oracle.check_means,
  both_given g.L.Oracle.meaning g.R.Oracle.meaning g.L.Oracle.grant_leads g.R.Oracle.grant_leads g.met.L.Oracle.grant_means g.met.R.Oracle.grant_means,
)
