use Rattle.std.proofs.Common.{◌^◌, ◌<◌, ◌∙◌, rules}
use Rattle.sets.proofs.Sizes.{ones_size}
use Rattle.explainer.proofs.tallies.requests.Goals as goal

pub returns : goal.returns
returns c =
    let small : c.args.set.bits < 2 ^ 32 = search rules in
    c.len.ensures ∙ ones_size c.args.set.bits small
