use Rattle.std.proofs.Common.{◌^◌, ◌<◌, sym, ◌∙◌, lt_of_lt_of_le, pow_mono, rules}
use Rattle.std.proofs.lemmas.Bool.{lt-ltb, le-leb}
use Rattle.sets.proofs.Members+1.is_within.Goals as goal

pub returns-then-width-ge32 : goal.returns-then-width-ge32
returns-then-width-ge32 c =
    let small : c.args.self.bits < 2 ^ 32 = search rules in
    le-leb 32 c.args.width c.if-width-ge32.true ∙ sym (lt-ltb c.args.self.bits (2 ^ c.args.width) (lt_of_lt_of_le small (pow_mono c.if-width-ge32.true)))
