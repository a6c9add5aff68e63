use Rattle.std.proofs.Common.{◌≡◌, sym, ◌∙◌, count_by, rules}
use Rattle.explainer.proofs.Counting.{is_conflict, count_conflicts}
use Rattle.explainer.proofs.tallies.conflicts.Goals as goal

pub returns : goal.returns
returns c =
    let found : c.count.result ≡ count_by is_conflict c.args.lines.now = search rules in found ∙ sym (count_conflicts c.args.lines.now)
