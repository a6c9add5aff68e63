-- All that holds of a run. Assumes nothing.
use Rattle.std.specs.Prelude.{◌≡◌, ℕ, ◌<◌, ◌⊎◌, List, [], ◌∷◌, Option, Some, None, Ok, IsSomeAnd, ◌↔◌}
use Rattle.std.specs.List.{Any, Contains}
use Rattle.oracle.specs.Calls.{Checks, Grants}
use Rattle.oracle.specs.Meaning.{Meaning}
use Rattle.oracle.specs.Refused.{IsRefusedWith}
use Rattle.listing.specs.Lines.{most_lines, conflict, relaxation}
use Rattle.listing.specs.Words.{IsMinimal, IsMaximal}
use Rattle.listing.specs.declared.lines.Line.{Line as ListedLine}
use Rattle.explainer.specs.Calls.{width_of, listing_in, IsNew}
use Rattle.explainer.specs.Choosing.{until_end, AreChosen, HasStopped}
use Rattle.explainer.specs.Law.{LawOfRun}
use Rattle.explainer.specs.Led.{IsLed, IsPath}
use Rattle.explainer.specs.Moments.{Answer, next_of, lines_answered, last_made}
use Rattle.explainer.specs.Preferring.{Order}
use Rattle.explainer.specs.Refused.{next_tells}
use Rattle.explainer.specs.Stages.{Stage, moments, oracle_after, checks_answered}
use Rattle.explainer.specs.StepLaw.{StepsOfRun}
use Rattle.explainer.specs.declared.asking.Explainer.{Explainer}
use Rattle.explainer.specs.declared.moments.Call.{Call}
use Rattle.explainer.specs.declared.moments.Moment.{Moment}
use Rattle.explainer.specs.declared.moments.NextAnswer.TheVariants.{End}

-- some NEXT answered END
abbrev pub HasEnded : List Moment → Type 0
HasEnded moments = Any (λ x. next_of x.made ≡ Some (Ok End)) moments

-- the lines are exactly the minimal conflicts and the maximal relaxations
abbrev pub IsExact : Meaning → List ListedLine → Type 0
IsExact m lines =
    (s : ℕ) → (Contains lines (conflict s) ↔ IsMinimal m.width m.fit s)
    × (Contains lines (relaxation s) ↔ IsMaximal m.width m.fit s)

-- whatever calls were made of an explainer over an oracle o: what was recorded, and where the
-- explainer stands
pub record HasLaw {O : Type 0} (order : Order) (meaning : O → Meaning) (checks : Checks O)
    (grants : Grants O) (o : O) (past : List Moment) (b : Explainer O) : Type 0 where
  -- a new explainer, and the calls that led from it to where this one stands
  pub first : Explainer O
  pub new : IsNew meaning o first
  pub stages : List (Stage O)
  pub path : IsPath order meaning checks grants first stages b
  pub recorded : moments stages ≡ past
  pub law : LawOfRun order meaning checks grants o stages
  pub steps : StepsOfRun order (meaning o) stages
  -- a run that had END lists all that there is, and nothing else
  pub exact : HasEnded past → IsExact (meaning o) (lines_answered past)
  -- the explainer has the lines that were answered, the number of the checks that were answered to
  -- NEXT, the width, and the oracle that the last call left
  pub lines : (listing_in b).lines ≡ lines_answered past
  pub counted : (listing_in b).checks ≡ checks_answered stages
  pub width : width_of b ≡ (meaning o).width
  pub oracle : b.oracle ≡ oracle_after o stages

-- a run of so many calls at most, each chosen by a caller: the calls made are the ones chosen, all
-- of them and in order; and they led to where the explainer stands, as the law says
pub record IsRun {O : Type 0} (order : Order) (meaning : O → Meaning) (checks : Checks O)
    (grants : Grants O) (choice : List Moment → Option Call) (turns : ℕ) (o : O)
    (past : List Moment) (b : Explainer O) : Type 0 where
  pub chosen : AreChosen choice past
  pub stopped : HasStopped choice turns past
  pub law : HasLaw order meaning checks grants o past b

-- the law holds of whatever calls lead to where an explainer stands, whoever makes them
abbrev pub LawOfCalls : {O : Type 0} → Order → (O → Meaning) → Checks O → Grants O → Type 0
LawOfCalls {O} order meaning checks grants =
    (o : O) (past : List Moment) (b : Explainer O) → IsLed order meaning checks grants o past b
    → HasLaw order meaning checks grants o past b

-- a NEXT answered END, or FULL, number 12 with no value, or SPENT, number 13 with a label
abbrev pub EndsListing : Option Answer → Type 0
EndsListing None = ⊥
EndsListing (Some r) =
    (r ≡ Ok End) ⊎ (IsRefusedWith next_tells r 12 []
    ⊎ ((label : ℕ) × IsRefusedWith next_tells r 13 (label ∷ [])))

-- with more turns than there is room for lines, NEXT until it answers no line ends with such a
-- NEXT: 513 turns are enough
abbrev pub UntilEndEnds : {O : Type 0} → Order → (O → Meaning) → Checks O → Grants O → Type 0
UntilEndEnds {O} order meaning checks grants =
    (turns : ℕ) (o : O) (past : List Moment) (b : Explainer O) → most_lines < turns
    → IsRun order meaning checks grants until_end turns o past b
    → IsSomeAnd (last_made past) (λ made. EndsListing (next_of made))
