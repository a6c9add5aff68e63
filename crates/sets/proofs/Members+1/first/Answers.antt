use Rattle.std.proofs.Common.{◌<◌, ◌^◌, rules}
use Rattle.sets.proofs.Firsts.{first_is}
use Rattle.sets.proofs.Members+1.first.Goals as goal

pub returns : goal.returns
returns c =
    let small : c.args.self.bits < 2 ^ 32 = search rules in
    first_is c.args.self.bits small c.if-self-eq0.false
