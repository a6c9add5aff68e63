-- The law of the listing: what holds of every run of calls over every oracle, at every moment, in
-- terms of the oracles and what they mean, of what is recorded and of the lines. Assumes nothing.
use Rattle.std.specs.Prelude.{◌≡◌, ℕ, ◌*◌, ◌+◌, ◌≤◌, List, [], ◌∷◌, ◌++◌, length, Option, Some, None, Ok, IfSome, ◌↔◌}
use Rattle.std.specs.List.{All}
use Rattle.sets.specs.Requests.{widest, Within}
use Rattle.oracle.specs.Asking.{AnswersCheck}
use Rattle.oracle.specs.Calls.{CheckAnswer, Checks, Grants}
use Rattle.oracle.specs.Meaning.{Meaning, Kept}
use Rattle.oracle.specs.Refused.{check_tells, IsRefusedWith}
use Rattle.listing.specs.Bill.{depth, bound}
use Rattle.listing.specs.Lines.{most_lines, IsWhole}
use Rattle.listing.specs.Listings.{IsListing}
use Rattle.listing.specs.declared.lines.Line.{Line as ListedLine}
use Rattle.explainer.specs.AtEach.{AtEach}
use Rattle.explainer.specs.Calls.{listing_in}
use Rattle.explainer.specs.Chains.{Told, LedOn}
use Rattle.explainer.specs.Moments.{Answer, next_of, last_next, IsNotSpent}
use Rattle.explainer.specs.Preferring.{Order}
use Rattle.explainer.specs.Refused.{next_tells}
use Rattle.explainer.specs.Stages.{Stage, moments, oracle_after, lines_listed, checks_answered}
use Rattle.explainer.specs.Tallies.{tally_of}
use Rattle.explainer.specs.declared.moments.Made.TheVariants.{Tally}
use Rattle.explainer.specs.declared.moments.NextAnswer.TheVariants.{End}

-- so many checks are enough for any NEXT
abbrev pub enough : ℕ
enough = 322

-- the number is one check for the empty set, one for the line, and two at each depth for each of 32
-- requests
abbrev pub EnoughIs : Type 0
EnoughIs = enough ≡ 2 + 2 * depth widest * widest

-- an allowance that is enough, or endless
abbrev pub IsEnough : Option ℕ → Type 0
IsEnough None = Unit {0}
IsEnough (Some n) = enough ≤ n

-- a set that was checked lies within the width, and what was told of it is the verdict
abbrev pub IsTold : Meaning → Told → Type 0
IsTold m0 x = Within m0.width x.0 × (x.1 ≡ m0.fit x.0)

-- what holds of an answer of NEXT, over the lines before it: END exactly when every minimal
-- conflict and every maximal relaxation is listed; FULL, number 12 with no value, exactly when 512
-- lines are, but not all; not SPENT, number 13 with a label, where enough was found; with SPENT,
-- what the oracle then means refuses a check within the width with that number and label; and never
-- OUTSIDE, number 10
pub record IsTrueAnswer (m0 : Meaning) (lines : List ListedLine) (found : Option ℕ)
    (r : Answer) (n : Meaning) : Type 0 where
  pub ended : (r ≡ Ok End) ↔ IsWhole m0.width m0.fit lines
  pub filled : IsRefusedWith next_tells r 12 []
      ↔ ((length lines ≡ most_lines) × (IsWhole m0.width m0.fit lines → ⊥))
  pub unspent : IsEnough found → IsNotSpent r
  pub spent : (label : ℕ) → IsRefusedWith next_tells r 13 (label ∷ [])
      → (s : ℕ) × (answer : CheckAnswer) × Within m0.width s × AnswersCheck n s answer
      × IsRefusedWith check_tells answer 13 (label ∷ [])
  pub never_outside : IsRefusedWith next_tells r 10 [] → ⊥

-- so many checks are at most the bound, unless this answer of NEXT, if there is one, is SPENT
abbrev pub IsBounded : Option Answer → (checks most : ℕ) → Type 0
IsBounded None checks most = checks ≤ most
IsBounded (Some r) checks most = IsNotSpent r → checks ≤ most

-- unless the last NEXT answered SPENT, the checks answered to NEXT are at most the bound
abbrev pub KeepsToBound : {O : Type 0} → (width : ℕ) → List (Stage O) → Type 0
KeepsToBound width stages =
    IsBounded (last_next None (moments stages)) (checks_answered stages)
    (bound width (lines_listed stages))

-- what holds of a call after those before it; the first oracle is o
pub record HoldsAt {O : Type 0} (order : Order) (meaning : O → Meaning) (checks : Checks O)
    (grants : Grants O) (o : O) (past : List (Stage O)) (x : Stage O) : Type 0 where
  -- it found what the one before left
  pub found : x.moment.found ≡ (meaning (oracle_after o past)).allowance
  -- and led on from there, by these calls of the oracle and no others
  pub led : LedOn (meaning o).width checks grants (oracle_after o past) x.moment.made x.told
      x.stands.oracle
  -- what a NEXT was told is the verdict, of sets within the width
  pub told : All (IsTold (meaning o)) x.told
  -- width and verdict on every set within it are as at first
  pub kept : Kept (meaning o) (meaning x.stands.oracle)
  -- the explainer then has the lines that were answered, and the number of the checks that were
  -- answered to NEXT so far; and so many lines are recorded
  pub lines : (listing_in x.stands).lines ≡ lines_listed (past ++ x ∷ [])
  pub counted : (listing_in x.stands).checks ≡ checks_answered (past ++ x ∷ [])
  pub count : x.moment.lines ≡ length (lines_listed (past ++ x ∷ []))
  -- they are at most 512, none twice; each is a minimal conflict or a maximal relaxation; the first
  -- conflict is the preferred one; the relaxations fall in the order, and each maximal one that is
  -- not listed comes after every listed one
  pub listing : IsListing (order (meaning o).width) (meaning o).width (meaning o).fit
      (lines_listed (past ++ x ∷ []))
  -- the answer of a NEXT is true
  pub answer : IfSome (next_of x.moment.made)
      (λ r. IsTrueAnswer (meaning o) (lines_listed past) x.moment.found r (meaning x.stands.oracle))
  -- TALLY tells the numbers of the lines listed, and of the checks answered to NEXT so far
  pub tally : (t : ℕ × ℕ × ℕ × ℕ × ℕ) → x.moment.made ≡ Tally t
      → t ≡ tally_of (meaning o).width (lines_listed past) (checks_answered past)
  pub bounded : KeepsToBound (meaning o).width (past ++ x ∷ [])

-- the law of a run
abbrev pub LawOfRun : {O : Type 0} → Order → (O → Meaning) → Checks O → Grants O → O
    → List (Stage O) → Type 0
LawOfRun order meaning checks grants o stages =
    AtEach (HoldsAt order meaning checks grants o) [] stages
