-- What an accepted ticket is answered with, from the run over its pile. Assumes nothing.
use Rattle.std.proofs.Common.{◌≡◌, ℕ, ◌≤◌, List, Option, Some, sym, ap, ◌∙◌, arith}
use Rattle.std.specs.Prelude.{min}
use Rattle.sets.specs.Requests.{widest}
use Rattle.oracle.specs.Calls.{Checks, Grants}
use Rattle.oracle.specs.Meaning.{Meaning, limit}
use Rattle.layers.specs.declared.quota.Quota.{Quota}
use Rattle.rules.specs.declared.Rule.{Rule}
use Rattle.listing.specs.declared.lines.Line.{Line}
use Rattle.explainer.specs.Calls.{width_of, listing_in}
use Rattle.explainer.specs.Moments.{last_made}
use Rattle.explainer.specs.Tallies.{tally_of}
use Rattle.explainer.specs.declared.asking.Explainer.{Explainer}
use Rattle.explainer.specs.declared.moments.Moment.{Moment}
use Rattle.report.specs.Ends.{ends, most_turns, finished, listing_of}
use Rattle.report.specs.Explained.{finished_text}
use Rattle.report.specs.LastCall.{ended_made}
use Rattle.report.specs.PileRuns.{IsPileRun, EndsAsSteps}
use Rattle.report.specs.Piles.{covered}
use Rattle.report.specs.Texts.{report_text}
use Rattle.report.specs.declared.texts.Ended.{Ended}

module _ {B : Type 0} (meaning : B → Meaning) (checks : Checks B) (grants : Grants B)
    (rules : List Rule) (requests count : ℕ) (narrow : requests ≤ widest) (few : count ≤ limit)
    (below : B) (meant : meaning below ≡ covered rules requests) (past : List Moment)
    (b : Explainer (Quota B)) (run : IsPileRun meaning checks grants below count most_turns past b)
    (end : EndsAsSteps meaning below count past b) where
  -- what lies below has the width of the ticket: nothing of it is cut
  width_is : (meaning below).width ≡ requests
  width_is = ap (λ m. m.width) meant ∙ omega (arith, narrow)

  -- the listing over it is that of the ticket's rules: nothing is kept, and no check is cut
  pub finishes_so : listing_of rules requests count ≡ ends end.ended (listing_in b)
  finishes_so =
      let fewer : min count limit ≡ count = omega (arith, few) in
      sym (ap (finished (meaning below).width (meaning below).fit) fewer
      ∙ ap (λ w. finished w (meaning below).fit count) width_is
      ∙ ap (λ m. finished requests m.fit count) meant)
      ∙ end.finishes

  -- so what is told is told as the listing is
  pub told_as : (e : Ended) (ls : List Line) (t : ℕ × ℕ × ℕ × ℕ × ℕ) → ended_made (last_made past) ≡ Some e → ls ≡ (listing_in b).lines
      → t ≡ tally_of (width_of b) (listing_in b).lines (listing_in b).checks
      → report_text requests ls t.3 t.4 e ≡ finished_text requests (listing_of rules requests count)
  told_as e ls t last lines_are tally_is =
      let two : ◌≡◌ {A = Option Ended} (Some e) (Some end.ended) = sym last ∙ end.told in
      let same : e ≡ end.ended = cc in
      let text : (List Line) → ℕ → ℕ → Ended → List ℕ = report_text requests in
      let width : width_of b ≡ requests = run.run.law.width ∙ ap (λ (p : B). (meaning p).width) run.quota.below ∙ width_is in
      let tally : t ≡ tally_of requests (listing_in b).lines (listing_in b).checks =
      tally_is ∙ ap (λ w. tally_of w (listing_in b).lines (listing_in b).checks) width in
      ap (λ l. text l t.3 t.4 e) lines_are
      ∙ ap (λ (u : ℕ × ℕ × ℕ × ℕ × ℕ). text (listing_in b).lines u.3 u.4 e) tally
      ∙ ap (λ how. finished_text requests (ends how (listing_in b))) same
      ∙ ap (λ f. finished_text requests f) (sym finishes_so)
