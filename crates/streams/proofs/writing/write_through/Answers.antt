use Rattle.std.proofs.Common.{◌≡◌, ◌++◌, take, drop, ap, ◌∙◌, append_assoc, rules, arith}
use Rattle.std.proofs.KnownBytes.{Appends-trans, Appends-kept}
use Rattle.std.proofs.lemmas.Grind.{common_steps}
use Rattle.std.proofs.lemmas.List.{take-append-drop}
use Rattle.std.specs.Io.KnownBytes.{Keeps}
use Rattle.streams.proofs.writing.write_through.Goals as goal
use Rattle.streams.proofs.writing.write_through.Goals.{in-Ok, in-Err}

-- a write adds what it took to what was sent, and a failed one nothing
pub loop-preserved : goal.loop-preserved
loop-preserved g c =
    let sent = c.loop.invariant.sent in
    let a = g.W.Write.contents c.args.writer.now in
    let m = g.W.Write.contents c.loop.writer in
    let z = g.W.Write.contents c.write.new.self in
    let left = c.loop.rest.now in
    let now = c.match-write.rest.now in
    elim c.match-write.branch [
      | in-Ok w ↦
          let n = w.in-Ok.count in
          let gone = take n left in
          let rest : now ≡ drop n left = grind (arith, common_steps) in
          let whole : gone ++ now ≡ left = ap (λ l. gone ++ l) rest ∙ take-append-drop n left in
          record {
            sent = sent ++ gone;
            whole =
                append_assoc sent gone now ∙ ap (λ l. sent ++ l) whole ∙ c.loop.invariant.whole;
            written =
                Appends-trans a m z sent gone c.loop.invariant.written w.in-Ok.ensures.bytes;
          }
      | in-Err w ↦
          let rest : now ≡ left = search rules in
          let same : Keeps m z = w.in-Err.ensures.bytes in
          record {
            sent = sent;
            whole = ap (λ l. sent ++ l) rest ∙ c.loop.invariant.whole;
            written = Appends-kept a m z sent c.loop.invariant.written same;
          }
    ]
