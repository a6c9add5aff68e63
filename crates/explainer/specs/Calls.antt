-- What each call of an explainer does: which calls it makes of its oracle, what it answers, and
-- what it leaves. Assumes nothing.
use Rattle.std.specs.Prelude.{◌≡◌, ℕ, Bool, List, length}
use Rattle.sets.specs.Sets.{bits_of}
use Rattle.oracle.specs.Calls.{Checks, Grants}
use Rattle.oracle.specs.Meaning.{Meaning}
use Rattle.listing.specs.Steps.{State, start}
use Rattle.explainer.specs.Holding.{state_of}
use Rattle.explainer.specs.Moments.{Answer}
use Rattle.explainer.specs.Nexts.{NextLeads}
use Rattle.explainer.specs.Preferring.{Order}
use Rattle.explainer.specs.Tallies.{tally_of}
use Rattle.explainer.specs.declared.asking.Explainer.{Explainer}
use Rattle.explainer.specs.declared.moments.Made.{Made}
use Rattle.explainer.specs.declared.moments.Made.TheVariants.{Next, Grant, Try, Tally}
use Rattle.explainer.specs.declared.moments.Moment.{Moment}

-- the width of its listing
abbrev pub width_of : {O : Type 0} → Explainer O → ℕ
width_of e = e.progress.search.width

-- its listing, as a state of the steps
abbrev pub listing_in : {O : Type 0} → Explainer O → State
listing_in e = state_of e.progress

-- a new one is over the oracle that it was made of, has its width, and nothing is listed
pub record IsNew {O : Type 0} (meaning : O → Meaning) (o : O) (e : Explainer O) : Type 0 where
  pub oracle : e.oracle ≡ o
  pub width : width_of e ≡ (meaning o).width
  pub listing : listing_in e ≡ start

-- NEXT: some answers were told to it
pub record NextDone {O : Type 0} (order : Order) (checks : Checks O)
    (a : Explainer O) (r : Answer) (b : Explainer O) : Type 0 where
  pub told : List Bool
  pub leads : NextLeads order (width_of a) checks told (listing_in a) a.oracle
      r (listing_in b) b.oracle
  pub width : width_of b ≡ width_of a

-- any call: NEXT as above; GRANT is one GRANT, and TRY one CHECK, and both leave the listing itself;
-- TALLY answers the five numbers, and leaves the explainer itself
abbrev pub Does : {O : Type 0} → Order → Checks O → Grants O → Explainer O → Made → Explainer O
    → Type 0
Does order checks grants a (Next r) b = NextDone order checks a r b
Does order checks grants a (Grant k r) b = grants a.oracle k r b.oracle × (b.progress ≡ a.progress)
Does order checks grants a (Try set r) b =
    checks a.oracle (bits_of set) r b.oracle × (b.progress ≡ a.progress)
Does order checks grants a (Tally t) b =
    (t ≡ tally_of (width_of a) (listing_in a).lines (listing_in a).checks) × (b ≡ a)

-- what is recorded of a call
abbrev pub moment_of : {O : Type 0} → (O → Meaning) → Explainer O → Made → Explainer O → Moment
moment_of meaning a made b =
    record {
      found = (meaning a.oracle).allowance;
      made = made;
      lines = length (listing_in b).lines;
    }
