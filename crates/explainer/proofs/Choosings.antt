-- The calls of a run are the ones that are chosen, with one call more. Assumes nothing.
use Rattle.std.proofs.Common.{◌≡◌, List, [], ◌∷◌, ◌++◌, Option, Some, sym, ap, ◌∙◌}
use Rattle.explainer.specs.Choosing.{AreChosen}
use Rattle.explainer.specs.Moments.{call_of}
use Rattle.explainer.specs.declared.moments.Call.{Call}
use Rattle.explainer.specs.declared.moments.Moment.{Moment}
use Rattle.explainer.proofs.AtEachs.{each_push}

-- the call that was chosen is recorded behind the others
pub chosen_push : (choice : List Moment → Option Call) (past : List Moment) (x : Moment) (c : Call)
    → AreChosen choice past → choice past ≡ Some c → call_of x.made ≡ c → AreChosen choice (past ++ x ∷ [])
chosen_push choice past x c chosen choose made =
    each_push (λ before y. choice before ≡ Some (call_of y.made)) [] past x chosen (choose ∙ ap (λ d. Some d) (sym made))
