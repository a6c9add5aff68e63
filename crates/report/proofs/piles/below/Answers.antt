use Rattle.std.proofs.Common.{◌≡◌, min, [], sym, ap, ◌∙◌, subst}
use Rattle.sets.specs.Requests.{widest}
use Rattle.layers.specs.Layered.{both, cover}
use Rattle.layers.specs.Listed.{kept_list}
use Rattle.layers.specs.Meant.{both_meaning}
use Rattle.faces.specs.Meant.{faces_meaning}
use Rattle.faces.specs.Verdict as faces
use Rattle.gaps.specs.Meant.{gaps_meaning}
use Rattle.gaps.specs.Verdict as gaps
use Rattle.options.specs.Meant.{options_meaning}
use Rattle.options.specs.Verdict as options
use Rattle.report.specs.Piles.{rules_meaning, BelowOf}
use Rattle.report.proofs.Piled.{all_meant, covered_is}
use Rattle.report.proofs.piles.below.Goals as goal

-- each oracle means what its rules say, and nothing is kept
pub returns-clause-meant : goal.returns-clause-meant
returns-clause-meant c =
    let rules = c.args.rules.now in
    let width = min c.args.width widest in
    let o = c.new-3.result in
    let g = c.new.result in
    let f = c.new-2.result in
    let k = c.new-5.result in
    let h_is : options_meaning o ≡ options.meant width rules = all_meant options.meant o.list.width width o.list.rules.now rules c.new-3.ensures.0 c.new-3.ensures.1 in
    let g_is : gaps_meaning g ≡ gaps.meant width rules = all_meant gaps.meant g.list.width width g.list.rules.now rules c.new.ensures.0 c.new.ensures.1 in
    let f_is : faces_meaning f ≡ faces.meant width rules = all_meant faces.meant f.list.width width f.list.rules.now rules c.new-2.ensures.0 c.new-2.ensures.1 in
    let pair : both_meaning gaps_meaning faces_meaning c.new-gaps_and_faces.result ≡ both (gaps.meant width rules) (faces.meant width rules) =
    ap (λ x. both (gaps_meaning x) (faces_meaning c.new-gaps_and_faces.result.right)) c.new-gaps_and_faces.ensures.0
    ∙ ap (λ x. both (gaps_meaning g) (faces_meaning x)) c.new-gaps_and_faces.ensures.1
    ∙ ap (λ m. both m (faces_meaning f)) g_is ∙ ap (both (gaps.meant width rules)) f_is in
    let B = both_meaning options_meaning (both_meaning gaps_meaning faces_meaning) in
    let all : B c.new-4.result ≡ rules_meaning width rules =
    ap (λ x. both (options_meaning x) (both_meaning gaps_meaning faces_meaning c.new-4.result.right)) c.new-4.ensures.0
    ∙ ap (λ x. both (options_meaning o) (both_meaning gaps_meaning faces_meaning x)) c.new-4.ensures.1
    ∙ ap (λ m. both m (both_meaning gaps_meaning faces_meaning c.new-gaps_and_faces.result)) h_is
    ∙ ap (both (options.meant width rules)) pair in
    ap (λ x. cover x (kept_list k.unfits) (B k.below)) c.new-5.ensures.0
    ∙ ap (λ x. cover [] x (B k.below)) c.new-5.ensures.1
    ∙ ap (λ x. cover [] [] (B x)) c.new-5.ensures.2 ∙ ap (cover [] []) all

pub returns-clause-exact : goal.returns-clause-exact
returns-clause-exact c =
    subst (BelowOf c.args.rules.now c.args.width) (sym (returns-clause-meant c))
    (covered_is c.args.rules.now c.args.width)

pub returns-clause-fresh : goal.returns-clause-fresh
returns-clause-fresh c = record { fits = c.new-5.ensures.0; unfits = c.new-5.ensures.1 }
