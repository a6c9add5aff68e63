use Rattle.report.proofs.texts.NumbersDisplay.fmt.Goals as goal
use Rattle.report.proofs.texts.NumbersDisplay.fmt.Goals.{then-contains+in_ok-write, else-contains}
use Rattle.std.proofs.Common.{◌≡◌, ◌<◌, [], ◌∷◌, ◌++◌, codes, decimal, true, refl, sym, ap, ◌∙◌, arith, lit≤, rules}
use Rattle.std.proofs.lemmas.Str.{encodes-IsAscii}
use Rattle.std.proofs.Output.{writes_in_calls_nil, has_written_append, has_written_of_eq, has_written_to_eq}
use Rattle.sets.specs.Sets.{bits_of}
use Rattle.report.specs.Texts.{with_commas}
use Rattle.report.proofs.Printed.{below, comma_after, one_more, comma_then, below_there, below_away, text_of_none, text_of_some}

pub returns-then-is_empty-clause-writes : goal.returns-then-is_empty-clause-writes
returns-then-is_empty-clause-writes g c = λ p ok. has_written_of_eq _ _ _ _ _ (text_of_none _ (sym c.if-is_empty.ensures)) (c.write.ensures.writes p ok)

pub loop-request-init : goal.loop-request-init
loop-request-init g c = (([], (refl, refl)), refl, λ p. record { wrote = writes_in_calls_nil _ _; plain = p })

pub loop-request-preserved : goal.loop-request-preserved
loop-request-preserved g c =
    let s = bits_of c.args.self.now.0 in
    let r = c.loop-request.request-counter in
    let some : 0 < r = omega (arith, c.loop-request.auto.request-counter) in
    let before = c.loop-request.invariant in
    elim c.if-contains.branch [
      | then-contains+in_ok-write w ↦
          let more = below_there r s some (sym w.if-contains.ensures) in
          let comma : c.if-contains.comma.now ≡ codes "," = ap (λ b. b.now) w.comma-is in (
            (44 ∷ [], (refl, encodes-IsAscii (codes ",") (search rules) ∙ sym comma)),
            comma ∙ comma_then (below r s) r ∙ ap comma_after (sym more),
            λ p. has_written_to_eq _ _ _ _ _ w.f-is
                (has_written_of_eq _ _ _ _ _ (ap (λ x. with_commas (below r s) ++ (x ++ decimal r)) before.1 ∙ one_more (below r s) r ∙ ap with_commas (sym more))
                (has_written_append _ _ _ _ _ _ (before.2 p) (w.in_ok-write.ensures.writes (before.2 p).plain (refl {a = true})))),
          )
      | else-contains w ↦
          let same = below_away r s some (sym w.if-contains.ensures) in
          let comma : c.if-contains.comma.now ≡ c.loop-request.comma.now = ap (λ b. b.now) w.comma-is in (
            (before.0.0, (before.0.1.0, before.0.1.1 ∙ sym comma)),
            comma ∙ before.1 ∙ ap comma_after (sym same),
            λ p. has_written_to_eq _ _ _ _ _ w.f-is (has_written_of_eq _ _ _ _ _ (ap with_commas (sym same)) (before.2 p)),
          )
    ]

pub returns-clause-writes : goal.returns-clause-writes
returns-clause-writes g c = λ p ok.
    let end : c.loop-request.request-counter ≡ 33 = omega (arith, c.loop-request-test.false, c.loop-request.auto.request-counter-end (lit≤ tt)) in
    has_written_of_eq _ _ _ _ _ (text_of_some _ _ end (sym c.if-is_empty.ensures)) (c.loop-request.invariant.2 p)
