use Rattle.explainer.specs.Preferring.{preferring}
use Rattle.explainer.proofs.LawOf.{law_of}
use Rattle.explainer.proofs.Preferred.{preferring_orders}
use Rattle.explainer.proofs.law_of_calls_holds.Goals as goal

pub returns-clause-law : goal.returns-clause-law
returns-clause-law g c =
    law_of preferring preferring_orders g.O.Oracle.meaning g.O.Oracle.check_leads g.O.Oracle.grant_leads g.met.O.Oracle.lawful
    g.met.O.Oracle.check_means g.met.O.Oracle.grant_means
