-- What a NEXT comes to by itself, wherever the explainer stands: what the steps say and leave, over
-- the verdict that its oracle then means. Assumes nothing.
use Rattle.std.specs.Prelude.{◌≡◌, List, [], length, map, Ok}
use Rattle.std.specs.List.{All}
use Rattle.oracle.specs.Calls.{Checks}
use Rattle.oracle.specs.Meaning.{Meaning}
use Rattle.oracle.specs.Refused.{IsRefusedWith}
use Rattle.listing.specs.Turns.{Said, listed, all_listed, no_room, refused, turn, sets_checked}
use Rattle.explainer.specs.Calls.{width_of, listing_in, NextDone}
use Rattle.explainer.specs.Chains.{Told, Chain}
use Rattle.explainer.specs.Law.{IsTold}
use Rattle.explainer.specs.Moments.{Answer}
use Rattle.explainer.specs.Preferring.{Order}
use Rattle.explainer.specs.Refused.{next_tells, IsRefusedBy}
use Rattle.explainer.specs.declared.asking.Explainer.{Explainer}
use Rattle.explainer.specs.declared.moments.NextAnswer.TheVariants.{Line, End}

-- what is answered where the steps say this, and how the oracle after the answered checks led to the
-- one that is left: by no call, or by one CHECK that is refused
abbrev pub Answers : {O : Type 0} → Checks O → (last : O) → Said → Answer → O → Type 0
Answers checks last (listed x) r p = (r ≡ Ok (Line x)) × (p ≡ last)
Answers checks last all_listed r p = (r ≡ Ok End) × (p ≡ last)
Answers checks last no_room r p = IsRefusedWith next_tells r 12 [] × (p ≡ last)
Answers checks last (refused s) r p = IsRefusedBy checks last s r p

-- a NEXT had checks of some sets answered: they are those that the steps check with as many checks,
-- and the answers are the verdict; it answers what the steps say, and leaves what they leave
pub record ComesTo {O : Type 0} (order : Order) (meaning : O → Meaning) (checks : Checks O)
    (a : Explainer O) (r : Answer) (b : Explainer O) : Type 0 where
  pub told : List Told
  pub last : O
  pub chain : Chain checks a.oracle told last
  pub told_is : All (IsTold (meaning a.oracle)) told
  pub sets : map (λ x. x.0) told
      ≡ sets_checked (order (width_of a)) (width_of a) (meaning a.oracle).fit (length told) (listing_in a)
  pub said : Answers checks last
      (turn (order (width_of a)) (width_of a) (meaning a.oracle).fit (length told) (listing_in a)).said
      r b.oracle
  pub left : (turn (order (width_of a)) (width_of a) (meaning a.oracle).fit (length told)
      (listing_in a)).left ≡ listing_in b
  pub width : width_of b ≡ width_of a

-- so it is with every NEXT
abbrev pub NextLaw : {O : Type 0} → Order → (O → Meaning) → Checks O → Type 0
NextLaw {O} order meaning checks =
    (a b : Explainer O) (r : Answer) → NextDone order checks a r b
    → ComesTo order meaning checks a r b
