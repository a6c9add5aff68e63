use Rattle.std.proofs.Common.{◌≡◌, sym, ◌∙◌, count_by, rules}
use Rattle.explainer.proofs.Counting.{is_relaxation, count_relaxations}
use Rattle.explainer.proofs.tallies.relaxations.Goals as goal

pub returns : goal.returns
returns c =
    let found : c.count.result ≡ count_by is_relaxation c.args.lines.now = search rules in found ∙ sym (count_relaxations c.args.lines.now)
