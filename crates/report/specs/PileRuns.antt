-- What the program runs: NEXT until one answers no line, over a quota of what lies below. Assumes
-- nothing.
use Rattle.std.specs.Prelude.{◌≡◌, ℕ, min, List, Some}
use Rattle.oracle.specs.Calls.{Checks, Grants}
use Rattle.oracle.specs.Meaning.{Meaning, limit}
use Rattle.layers.specs.Calls.{QuotaChecks, QuotaGrants}
use Rattle.layers.specs.Meant.{quota_meaning}
use Rattle.layers.specs.declared.quota.Quota.{Quota}
use Rattle.explainer.specs.Calls.{listing_in}
use Rattle.explainer.specs.Choosing.{until_end}
use Rattle.explainer.specs.Moments.{last_made}
use Rattle.explainer.specs.Preferring.{preferring}
use Rattle.explainer.specs.Runs.{IsRun}
use Rattle.explainer.specs.declared.asking.Explainer.{Explainer}
use Rattle.explainer.specs.declared.moments.Moment.{Moment}
use Rattle.report.specs.Ends.{ends, finished}
use Rattle.report.specs.LastCall.{ended_made}
use Rattle.report.specs.Piles.{own_label}
use Rattle.report.specs.declared.texts.Ended.{Ended}

-- a quota of so many checks, with the label of a ticket, over just this oracle
pub record IsQuotaOf {B : Type 0} (over : B) (count : ℕ) (pile : Quota B) : Type 0 where
  pub label : pile.label ≡ own_label
  pub number : pile.number ≡ min count limit
  pub below : pile.below ≡ over

-- a run over such a quota, of so many turns at most
pub record IsPileRun {B : Type 0} (meaning : B → Meaning) (checks : Checks B) (grants : Grants B)
    (over : B) (count turns : ℕ) (past : List Moment) (e : Explainer (Quota B)) : Type 0 where
  pub pile : Quota B
  pub quota : IsQuotaOf over count pile
  pub run : IsRun preferring (quota_meaning meaning) (QuotaChecks meaning checks)
      (QuotaGrants grants) until_end turns pile past e

-- it ended as the steps do with so many checks, in their state, and its last call tells how
pub record EndsAsSteps {B : Type 0} (meaning : B → Meaning) (over : B) (count : ℕ)
    (past : List Moment) (e : Explainer (Quota B)) : Type 0 where
  pub ended : Ended
  pub finishes : finished (meaning over).width (meaning over).fit (min count limit)
      ≡ ends ended (listing_in e)
  pub told : ended_made (last_made past) ≡ Some ended
