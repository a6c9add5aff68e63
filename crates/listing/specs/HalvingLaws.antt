-- What holds of every halving. Assumes nothing.
use Rattle.std.specs.Prelude.{◌≡◌, ◌≢◌, ℕ, ◌+◌, ◌-◌, ◌*◌, ◌^◌, ◌<◌, ◌≤◌, Bool, true, false, List, [], ◌∷◌, ◌++◌, length, take, suc}
use Rattle.oracle.specs.Meaning.{Downward}
use Rattle.sets.specs.Members.{none, size}
use Rattle.sets.specs.Requests.{widest, Within, Part, everyone, blame}
use Rattle.listing.specs.Bill.{bill}
use Rattle.listing.specs.Halving.{asks, ends, halve, halving_of, AreAnswers}
use Rattle.listing.specs.Words.{IsMinimal, IsPreferred}

-- the unfit part of a seed that has less blame weight than any other
abbrev pub IsLeastUnfit : (fit : ℕ → Bool) (seed s : ℕ) → Type 0
IsLeastUnfit fit seed s = Part s seed × (fit s ≡ false) × ((t : ℕ) → Part t seed → fit t ≡ false → (t ≢ s) → blame s < blame t)

-- a halving of an unfit seed, the empty set being fit, gives it
abbrev pub GivesLeastUnfit : Type 0
GivesLeastUnfit =
    (width : ℕ) (fit : ℕ → Bool) (seed : ℕ) (answers rest : List Bool) (result : ℕ) → width ≤ widest → Downward width fit → Within width seed
    → fit none ≡ true → fit seed ≡ false → AreAnswers fit seed answers → halving_of seed answers ≡ ends result rest → IsLeastUnfit fit seed result

-- which is minimal
abbrev pub LeastIsMinimal : Type 0
LeastIsMinimal = (width : ℕ) (fit : ℕ → Bool) (seed s : ℕ) → Within width seed → IsLeastUnfit fit seed s → IsMinimal width fit s

-- and, of all requests, the preferred conflict
abbrev pub LeastIsPreferred : Type 0
LeastIsPreferred = (width : ℕ) (fit : ℕ → Bool) (s : ℕ) → IsLeastUnfit fit (everyone width) s → IsPreferred width fit s

-- what a halving asks lies within the seed
abbrev pub AsksWithin : Type 0
AsksWithin = (seed s : ℕ) (answers : List Bool) → Within widest seed → halving_of seed answers ≡ asks s → Part s seed

-- and so does its result, whatever the answers
abbrev pub EndsWithin : Type 0
EndsWithin = (seed result : ℕ) (answers rest : List Bool) → Within widest seed → halving_of seed answers ≡ ends result rest → Part result seed

-- whatever the answers, a halving has read at most the bill of the requests that it ends with, where 2 ^ d is at least the width
abbrev pub ReadsByBill : Type 0
ReadsByBill =
    (width d seed result : ℕ) (answers rest : List Bool) → width ≤ widest → width ≤ 2 ^ d → Within width seed → halving_of seed answers ≡ ends result rest
    → length answers ≤ length rest + bill d (size result)

-- and never more than 2 × m - 2 of a seed of m requests
abbrev pub ReadsFew : Type 0
ReadsFew =
    (seed result : ℕ) (answers rest : List Bool) → Within widest seed → halving_of seed answers ≡ ends result rest
    → length answers ≤ length rest + (2 * size seed - 2)

-- nor does one that asks for a further check have as many answers
abbrev pub AsksFew : Type 0
AsksFew = (seed s : ℕ) (answers : List Bool) → Within widest seed → halving_of seed answers ≡ asks s → length answers < 2 * size seed - 2

-- a halving that asks has read all answers: where one more ends it, nothing is left over
abbrev pub ReadsAll : Type 0
ReadsAll =
    (seed s result : ℕ) (answers rest : List Bool) (answer : Bool) → halving_of seed answers ≡ asks s
    → halving_of seed (answers ++ answer ∷ []) ≡ ends result rest → rest ≡ []

-- and each answer that a halving has read was asked for: with only those before it, the halving asks for a set
abbrev pub EachIsAsked : Type 0
EachIsAsked =
    (seed result i : ℕ) (answers rest : List Bool) → halving_of seed answers ≡ ends result rest → i + length rest < length answers
    → (s : ℕ) × (halving_of seed (take i answers) ≡ asks s)

-- where a part has at most 2 ^ d requests, to halve it more than d times in a row changes nothing
abbrev pub DeeperIsSame : Type 0
DeeperIsSame =
    (d held added part : ℕ) (answers : List Bool) → Within widest part → size part ≤ 2 ^ d → halve (suc d) held added part answers ≡ halve d held added part answers

-- all of these
abbrev pub HalvingLaws : Type 0
HalvingLaws = GivesLeastUnfit × LeastIsMinimal × LeastIsPreferred × AsksWithin × EndsWithin × ReadsByBill × ReadsFew × AsksFew × ReadsAll × EachIsAsked × DeeperIsSame
