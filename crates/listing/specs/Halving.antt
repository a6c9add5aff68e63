-- Halving: from an unfit set to the part of it that is to blame, by checks whose answers are read in turn. Assumes nothing.
use Rattle.std.specs.Prelude.{◌≡◌, ℕ, zero, suc, ◌<◌, Bool, true, false, List, [], ◌∷◌, length, take, slice_get, Some, bit_or, nat_le, nat_eq}
use Rattle.sets.specs.Members.{none, minus, lower, size}
use Rattle.sets.specs.Requests.{widest}
use Rattle.sets.specs.Sets.{set_of}
use Rattle.listing.specs.Bill.{depth}
use Rattle.listing.specs.declared.halves.Outcome.{Outcome}
use Rattle.listing.specs.declared.halves.Outcome.TheVariants.{Ask, Done}

-- a halving asks for the check of a set that has no answer yet, or it ends with a result, and with the answers that it did not read
pub data Halved : Type 0 where
  asks : (s : ℕ) → Halved
  ends : (result : ℕ) (rest : List Bool) → Halved

-- the held set is checked, unless the first argument is true; if it is unfit, the result is empty
abbrev pub checked_unless : Bool → (held : ℕ) → (List Bool → Halved) → List Bool → Halved
checked_unless true held go_on answers = go_on answers
checked_unless false held go_on [] = asks held
checked_unless false held go_on (true ∷ rest) = go_on rest
checked_unless false held go_on (false ∷ rest) = ends none rest

-- that check is made where the part added last is not empty
abbrev pub checked : (held added : ℕ) → (List Bool → Halved) → List Bool → Halved
checked held added go_on answers = checked_unless (nat_eq added none) held go_on answers

-- what follows on a result
abbrev pub then_with : Halved → (ℕ → List Bool → Halved) → Halved
then_with (asks s) f = asks s
then_with (ends r rest) f = f r rest

-- HALVE of the held set, the part added last and the set that is to be halved, which has at most 2 ^ depth requests
unfoldable pub halve : (depth held added part : ℕ) → List Bool → Halved
halve zero held added part answers = checked held added (λ rest. ends part rest) answers
halve (suc depth) held added part answers =
    checked held added (λ rest.
    elim (nat_le (size part) 1) [
      | true ↦ ends part rest
      | false ↦
          let first : ℕ = lower part in
          let second : ℕ = minus part first in
          then_with (halve depth (bit_or held first) first second rest) (λ r2 rest2.
          then_with (halve depth (bit_or held r2) r2 first rest2) (λ r1 rest1. ends (bit_or r1 r2) rest1))
    ]) answers

-- a seed is halved as many times in a row as the widest set needs
abbrev pub deepest : ℕ
deepest = depth widest

-- the halving of a seed, with the answers so far
abbrev pub halving_of : (seed : ℕ) → List Bool → Halved
halving_of seed answers = halve deepest none none seed answers

-- what comes next: a set to check, or the result
abbrev pub outcome : Halved → Outcome
outcome (asks s) = Ask (set_of s)
outcome (ends r rest) = Done (set_of r)

-- the answers are the verdict's: each is that on the set that was asked when so many had been answered
abbrev pub AreAnswers : (fit : ℕ → Bool) (seed : ℕ) → List Bool → Type 0
AreAnswers fit seed answers = (i s : ℕ) → i < length answers → halving_of seed (take i answers) ≡ asks s → slice_get answers i ≡ Some (fit s)
