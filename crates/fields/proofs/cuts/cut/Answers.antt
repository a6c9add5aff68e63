use Rattle.std.proofs.Common.{◌+◌, take, drop, sym, ap, ◌∙◌}
use Rattle.std.proofs.lemmas.List.{take_rest}
use Rattle.std.specs.Option.{option_map}
use Rattle.fields.proofs.Cutting.{cut_at_first}
use Rattle.fields.proofs.cuts.cut.Goals as goal

pub returns-in_err-i : goal.returns-in_err-i
returns-in_err-i c =
    let text = c.args.text.now in
    let parts = option_map (λ i. (take i text, drop (i + 1) text)) in
    rw c.from_residual.ensures (sym (cut_at_first c.args.mark text c.memchr.result c.memchr.ensures ∙ ap parts c.in_err-i.was))

pub returns : goal.returns
returns c =
    let text = c.args.text.now in
    let parts = option_map (λ i. (take i text, drop (i + 1) text)) in
    rw take_rest (sym (cut_at_first c.args.mark text c.memchr.result c.memchr.ensures ∙ ap parts c.in_ok-i.was))
