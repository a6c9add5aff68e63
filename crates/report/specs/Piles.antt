-- What the program's pile of oracles means. Assumes nothing.
use Rattle.std.specs.Prelude.{◌≡◌, ℕ, min, true, cond, List, [], Some, ◌==◌, None}
use Rattle.sets.specs.Requests.{widest}
use Rattle.oracle.specs.Meaning.{Meaning, limit}
use Rattle.rules.specs.Choices.{Fit}
use Rattle.rules.specs.declared.Rule.{Rule}
use Rattle.layers.specs.Layered.{both, cover, quota}
use Rattle.layers.specs.Listed.{kept_list}
use Rattle.layers.specs.Meant.{both_meaning, quota_meaning, cover_meaning}
use Rattle.layers.specs.declared.both.Both.{Both}
use Rattle.layers.specs.declared.cover.Cover.{Cover}
use Rattle.layers.specs.declared.quota.Quota.{Quota}
use Rattle.faces.specs.Meant.{faces_meaning}
use Rattle.faces.specs.Verdict as faces
use Rattle.faces.specs.declared.Faces.{Faces}
use Rattle.gaps.specs.Meant.{gaps_meaning}
use Rattle.gaps.specs.Verdict as gaps
use Rattle.gaps.specs.declared.Gaps.{Gaps}
use Rattle.options.specs.Verdict as options
use Rattle.options.specs.Meant.{options_meaning}
use Rattle.options.specs.declared.Options.{Options}

-- the label of a ticket's own checks
abbrev pub own_label : ℕ
own_label = 1

-- the oracles over the rules of a ticket, under what keeps what they answered
abbrev pub Below : Type 0
Below = Cover (Both Options (Both Gaps Faces))

-- what they mean together
abbrev pub below_meaning : Below → Meaning
below_meaning =
    cover_meaning (both_meaning options_meaning (both_meaning gaps_meaning faces_meaning))

-- what the whole pile means: a quota of them
abbrev pub pile_meaning : Quota Below → Meaning
pile_meaning = quota_meaning below_meaning

-- the three oracles over the rules, each of this width
abbrev pub rules_meaning : (width : ℕ) → List Rule → Meaning
rules_meaning width rules =
    both (options.meant width rules) (both (gaps.meant width rules) (faces.meant width rules))

-- what they mean where nothing is kept yet
abbrev pub covered : List Rule → (width : ℕ) → Meaning
covered rules width = cover [] [] (rules_meaning (min width widest) rules)

-- what a new pile means: all checks are left
abbrev pub piled : List Rule → (width checks : ℕ) → Meaning
piled rules width checks = quota (min checks limit) own_label (covered rules width)

-- what lies below the quota of a ticket: its verdict is fit exactly when some options, positions and
-- faces together meet every rule of the house and of the set; so many requests; and endless checks
pub record BelowOf (rules : List Rule) (width : ℕ) (m : Meaning) : Type 0 where
  pub width_is : m.width ≡ min width widest
  pub fit_then : (s : ℕ) → m.fit s ≡ true → Fit rules s
  pub then_fit : (s : ℕ) → Fit rules s → m.fit s ≡ true
  pub endless : m.allowance ≡ None

-- nothing is kept yet
pub record IsFresh (o : Below) : Type 0 where
  pub fits : kept_list o.fits ≡ []
  pub unfits : kept_list o.unfits ≡ []

-- the pile of a ticket: its verdict is fit exactly when some options, positions and faces together
-- meet every rule of the house and of the set; so many requests, so many checks, and the label 1
-- where there is no check
pub record PileOf (rules : List Rule) (width checks : ℕ) (m : Meaning) : Type 0 where
  pub width_is : m.width ≡ min width widest
  pub fit_then : (s : ℕ) → m.fit s ≡ true → Fit rules s
  pub then_fit : (s : ℕ) → Fit rules s → m.fit s ≡ true
  pub allowance_is : m.allowance ≡ Some (min checks limit)
  pub label_is : m.label ≡ cond (checks == 0) own_label 0
