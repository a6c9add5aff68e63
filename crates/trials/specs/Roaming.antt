-- What the wild oracle of the tests means. Assumes nothing.
use Rattle.std.specs.Prelude.{ℕ, ◌≤◌, List, Option, None, Some, refl}
use Rattle.std.specs.Option.{ForSome}
use Rattle.sets.specs.Requests.{widest}
use Rattle.oracle.specs.Meaning.{Meaning, limit, last_label, Counted, Lawful}
use Rattle.layers.specs.Layered.{under_one}
use Rattle.layers.specs.Laws.{under_part}

-- a set is fit if it is part of one of those given
abbrev pub roaming : (width : ℕ) (wholes : List ℕ) → Option ℕ → (label : ℕ) → Meaning
roaming width wholes allowance label =
    record { width = width; fit = λ s. under_one s wholes; allowance = allowance; label = label }

-- it keeps the law of an oracle
pub roaming_lawful : (width : ℕ) (wholes : List ℕ) (allowance : Option ℕ) (label : ℕ)
    → width ≤ widest → ForSome allowance (λ left. left ≤ limit) → label ≤ last_label
    → Lawful (roaming width wholes allowance label)
roaming_lawful width wholes allowance label narrow counted labelled = record {
  narrow = narrow;
  counted =
      elim allowance as (λ a. ForSome a (λ left. left ≤ limit) → Counted a)
      [ None ↦ λ few. tt | Some left ↦ λ few. few left refl ] counted;
  labelled = labelled;
  downward = λ t s near part fit. under_part t s wholes part fit;
}
