-- How the definitions take one turn, as the code does. Assumes nothing.
use Rattle.std.proofs.Common.{◌≡◌, ℕ, suc, ◌+◌, ◌<◌, eqb, List, length, get_or, drop, Some, None, Option, sym, refl, ◌∙◌}
use Rattle.std.proofs.lemmas.List.{at_drop_more}
use Rattle.std.proofs.lemmas.Bool.{cond-true, cond-false, eq-eqb, ne_eqb}
use Rattle.rules.specs.Blank.{blank}
use Rattle.rules.specs.Force.{in_force, and_then, said}
use Rattle.rules.specs.Propagation.{turned_if, sweep, spread}
use Rattle.rules.specs.declared.Body.{Body}
use Rattle.rules.specs.declared.Rule.{Rule}

-- one more, that may say nothing
sweep_then : (o : Option Body) (bs : List Body) (on : ℕ) → sweep bs (turned_if o on) ≡ sweep (and_then o bs) on
sweep_then None bs on = refl
sweep_then (Some b) bs on = refl

-- the rules from i on are rule i and the rest
module _ (s : ℕ) (rules : List Rule) (i : ℕ) (at : i < length rules) (on : ℕ) where
  pub sweep_from : sweep (said s (drop (i + 1) rules)) (turned_if (in_force s (get_or rules i blank)) on) ≡ sweep (said s (drop i rules)) on
  sweep_from =
      sweep_then (in_force s (get_or rules i blank)) (said s (drop (i + 1) rules)) on ∙ sym (at_drop_more (λ rs. sweep (said s rs) on) rules i blank at)

-- a sweep that changes nothing is the last, and any other is followed by the rest
module _ (turns : ℕ) (bs : List Body) (on : ℕ) where
  pub spread_last : sweep bs on ≡ on → spread (suc turns) bs on ≡ on
  spread_last same = cond-true (eqb (sweep bs on) on) on (spread turns bs (sweep bs on)) (eq-eqb (sweep bs on) on same)

  pub spread_more : (sweep bs on ≡ on → ⊥) → spread (suc turns) bs on ≡ spread turns bs (sweep bs on)
  spread_more other = cond-false (eqb (sweep bs on) on) on (spread turns bs (sweep bs on)) (ne_eqb (sweep bs on) on other)
