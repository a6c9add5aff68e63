-- What the oracle of the tests means. Assumes nothing.
use Rattle.std.specs.Prelude.{ℕ, ◌≤◌, Option, None, Some, refl}
use Rattle.std.specs.Option.{ForSome}
use Rattle.sets.specs.Requests.{widest, part}
use Rattle.sets.proofs.Parts.{part_trans, part_true, true_part}
use Rattle.oracle.specs.Meaning.{Meaning, limit, last_label, Counted, Lawful}

-- a set is fit if it is part of a given one
abbrev pub probing : (width whole : ℕ) → Option ℕ → (label : ℕ) → Meaning
probing width whole allowance label =
    record { width = width; fit = λ s. part s whole; allowance = allowance; label = label }

-- it keeps the law of an oracle
pub probing_lawful : (width whole : ℕ) (allowance : Option ℕ) (label : ℕ) → width ≤ widest
    → ForSome allowance (λ left. left ≤ limit) → label ≤ last_label
    → Lawful (probing width whole allowance label)
probing_lawful width whole allowance label narrow counted labelled = record {
  narrow = narrow;
  counted =
      elim allowance as (λ a. ForSome a (λ left. left ≤ limit) → Counted a)
      [ None ↦ λ few. tt | Some left ↦ λ few. few left refl ] counted;
  labelled = labelled;
  downward =
      λ t s near part fit. true_part t whole (part_trans t s whole part (part_true s whole fit));
}
