use Rattle.std.proofs.Common.{◌^◌, ◌<◌, ◌∙◌, rules}
use Rattle.sets.proofs.Sizes.{ones_size}
use Rattle.rules.proofs.size.Goals as goal

pub returns : goal.returns
returns c =
    let small : c.args.members.bits < 2 ^ 32 = search rules in
    c.len.ensures ∙ ones_size c.args.members.bits small
