use Rattle.std.proofs.Common.{◌≡◌, true, false, List, ℕ, sym, ap, ◌∙◌, subst}
use Rattle.std.specs.Io.KnownBytes.{Appends}
use Rattle.std.specs.Result.{result_err, is_ok}
use Rattle.report.specs.Exactly.{IsAnswer}
use Rattle.report.specs.Explained.{text_of}
use Rattle.streams.proofs.Told.{of_all, at_ok, at_err, at_writing, if_err}
use Rattle.streams.specs.Written.{WritesBeginning, WrittenOnError}
use Rattle.streams.proofs.answer.Goals as goal

-- what was said of the bytes taken holds of all that were left
pub returns-clause-written : goal.returns-clause-written
returns-clause-written g c =
    let left = g.R.Read.remaining c.args.reader.now in
    let kept = g.R.Read.remaining c.fill.new.reader in
    let before = g.W.Write.contents c.args.writer.now in
    let after = g.W.Write.contents c.write_through.new.writer in
    let filled : is_ok c.fill.result ≡ true =
    sym c.map_err.ensures.variant ∙ ap is_ok c.in_ok-map_err.was in
    let sent : is_ok c.write_through.result ≡ true =
    sym c.map_err-2.ensures.variant ∙ ap is_ok c.in_ok-map_err-2.was in
    of_all (λ r. Appends before after (text_of r)) left kept c.fill.new.text.items
    c.fill.ensures.few c.fill.ensures.taken (at_ok _ _ filled c.fill.ensures.end)
    (subst (λ (l : List ℕ). Appends before after l)
    (c.as_slice.ensures.value ∙ c.in_ok-reply.ensures.text)
    (at_ok _ _ sent c.write_through.ensures.ok))

pub returns-clause-truly : goal.returns-clause-truly
returns-clause-truly g c =
    let left = g.R.Read.remaining c.args.reader.now in
    let kept = g.R.Read.remaining c.fill.new.reader in
    let filled : is_ok c.fill.result ≡ true =
    sym c.map_err.ensures.variant ∙ ap is_ok c.in_ok-map_err.was in
    of_all (λ r. IsAnswer r (text_of r)) left kept c.fill.new.text.items
    c.fill.ensures.few c.fill.ensures.taken (at_ok _ _ filled c.fill.ensures.end)
    c.in_ok-reply.ensures.truly

pub returns-clause-fault : goal.returns-clause-fault
returns-clause-fault g c =
    let left = g.R.Read.remaining c.args.reader.now in
    let kept = g.R.Read.remaining c.fill.new.reader in
    let filled : is_ok c.fill.result ≡ true =
    sym c.map_err.ensures.variant ∙ ap is_ok c.in_ok-map_err.was in
    of_all (λ r. c.in_ok-reply.reply.fault ≡ result_err r) left kept c.fill.new.text.items
    c.fill.ensures.few c.fill.ensures.taken (at_ok _ _ filled c.fill.ensures.end)
    c.in_ok-reply.ensures.fault

-- the writer failed, after a beginning
pub returns-in_err-map_err-2-clause-failed : goal.returns-in_err-map_err-2-clause-failed
returns-in_err-map_err-2-clause-failed g c =
    let left = g.R.Read.remaining c.args.reader.now in
    let kept = g.R.Read.remaining c.fill.new.reader in
    let before = g.W.Write.contents c.args.writer.now in
    let after = g.W.Write.contents c.write_through.new.writer in
    let error = c.in_err-map_err-2.field-0.0 in
    let filled : is_ok c.fill.result ≡ true =
    sym c.map_err.ensures.variant ∙ ap is_ok c.in_ok-map_err.was in
    let cut : is_ok c.write_through.result ≡ false =
    sym c.map_err-2.ensures.variant ∙ ap is_ok c.in_err-map_err-2.was in
    let begun =
    of_all (λ r. WritesBeginning (text_of r) before after) left kept c.fill.new.text.items
    c.fill.ensures.few c.fill.ensures.taken (at_ok _ _ filled c.fill.ensures.end)
    (subst (λ (l : List ℕ). WritesBeginning l before after)
    (c.as_slice.ensures.value ∙ c.in_ok-reply.ensures.text)
    (at_err _ _ cut c.write_through.ensures.err)) in
    let why : WrittenOnError left before after error =
    at_writing c.write_through.result c.map_err-2.result (WrittenOnError left before after)
    c.map_err-2.ensures.cases error c.in_err-map_err-2.was (λ e. begun) in
    if_err c.from_residual-in_err-map_err-2.result (WrittenOnError left before after) error
    c.from_residual-in_err-map_err-2.ensures.1 why
