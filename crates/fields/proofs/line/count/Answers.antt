use Rattle.std.proofs.Common.{ℕ, Bool, eqb, ap, length, ◌∙◌, arith}
use Rattle.std.proofs.lemmas.List.Splits.{length-slice_split}
use Rattle.memchr.proofs.lemmas.CallerLemmas.{length-places}
use Rattle.fields.proofs.line.count.Goals as goal

pub returns : goal.returns
returns c =
    let comma : ℕ → Bool = λ b. eqb b 44 in
    let commas = c.count.ensures ∙ ap length c.memchr_iter.ensures.value ∙ length-places comma c.args.value.now in
    omega (arith, commas, length-slice_split comma c.args.value.now)
