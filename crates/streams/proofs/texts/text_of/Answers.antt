use Rattle.std.proofs.Common.{◌≡◌, ◌++◌, refl, ap, ◌∙◌, List, ℕ}
use Rattle.std.proofs.lemmas.Fmt.{contents_after_writes}
use Rattle.report.specs.Answered.{answer_text}
use Rattle.streams.specs.declared.texts.Printed.{Printed}
use Rattle.streams.proofs.texts.text_of.Goals as goal

-- the pieces together are the whole
pub returns-in-Ok : goal.returns-in-Ok
returns-in-Ok c =
    let text = answer_text c.args.answer.now in
    let made = c.write.new.self.writer in
    let wrote = (c.in-Ok.ensures.writes c.new-formatter.ensures.plain refl).wrote in
    let all : made.bytes.items ≡ c.new-formatter.result.writer.bytes.items ++ text =
    contents_after_writes (λ (p : Printed) bs q. q.bytes.items ≡ p.bytes.items ++ bs)
    (λ p. p.bytes.items) (λ p bs q e. e) _ text made wrote in
    ap (λ (p : Printed). p.bytes.items) c.into_inner.ensures ∙ all
    ∙ ap (λ (p : Printed). p.bytes.items ++ text) c.new-formatter.ensures.writer
    ∙ ap (λ (l : List ℕ). l ++ text) c.requires
