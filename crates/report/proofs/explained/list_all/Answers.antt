use Rattle.std.proofs.Common.{subst}
use Rattle.layers.specs.Calls.{QuotaChecks, QuotaGrants}
use Rattle.layers.specs.Meant.{quota_meaning}
use Rattle.explainer.specs.Choosing.{until_end}
use Rattle.explainer.specs.Preferring.{preferring}
use Rattle.explainer.specs.Runs.{IsRun}
use Rattle.report.proofs.Finishing.{finished_as}
use Rattle.report.proofs.explained.list_all.Goals as goal

-- the quota is over just what was handed in, and its run is the one that was made
pub returns-clause-run : goal.returns-clause-run
returns-clause-run g c = record {
  pile = c.with_checks.result;
  quota = c.with_checks.ensures;
  run =
      subst (λ n. IsRun preferring (quota_meaning g.B.Oracle.meaning) (QuotaChecks g.B.Oracle.meaning g.B.Oracle.check_leads) (QuotaGrants g.B.Oracle.grant_leads)
      until_end n c.with_checks.result c.run.result.moments.items c.run.result.explainer) c.requires.turns c.run.ensures;
}

pub returns-clause-ended : goal.returns-clause-ended
returns-clause-ended g c =
    finished_as g.B.Oracle.meaning g.B.Oracle.check_leads g.B.Oracle.grant_leads g.met.B.Oracle.lawful g.met.B.Oracle.check_means
    g.met.B.Oracle.grant_means c.args.below c.args.checks c.run.result.moments.items c.run.result.explainer c.requires.endless
    (returns-clause-run g c)
