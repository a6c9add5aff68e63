use Rattle.explainer.specs.Preferring.{preferring}
use Rattle.explainer.proofs.NextReads.{next_law}
use Rattle.explainer.proofs.next_law_holds.Goals as goal

pub returns : goal.returns
returns g c =
    next_law preferring g.O.Oracle.meaning g.O.Oracle.check_leads g.met.O.Oracle.check_means
