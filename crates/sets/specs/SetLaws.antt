-- What holds of all sets of requests. Assumes nothing.
use Rattle.std.specs.Prelude.{◌≡◌, ℕ, ◌/◌, ◌<◌, ◌≤◌, true, not, ◌&&◌, ◌||◌, ◌≢◌, ◌↔◌, false, bit_and, bit_or, count_ones}
use Rattle.sets.specs.Members.{none, size, minus, lower}
use Rattle.sets.specs.Requests.{widest, names, Within, Part, everyone, blame, keep}

-- sets with the same requests are the same
abbrev pub KnownByRequests : Type 0
KnownByRequests = (s t : ℕ) → ((r : ℕ) → names s r ≡ names t r) → s ≡ t

-- all requests of a part are in the set
abbrev pub PartNames : Type 0
PartNames = (t s : ℕ) → Part t s → (r : ℕ) → names t r ≡ true → names s r ≡ true

-- and where all of them are, it is a part
abbrev pub NamesPart : Type 0
NamesPart = (t s : ℕ) → ((r : ℕ) → names t r ≡ true → names s r ≡ true) → Part t s

-- a set within the width has no request above it
abbrev pub WithinNames : Type 0
WithinNames = (width s : ℕ) → Within width s → (r : ℕ) → names s r ≡ true → r ≤ width

-- and one that has none above it lies within the width
abbrev pub NamesWithin : Type 0
NamesWithin = (width s : ℕ) → ((r : ℕ) → names s r ≡ true → r ≤ width) → Within width s

-- all requests up to the width are those from 1 to it, and no other
abbrev pub EveryoneNames : Type 0
EveryoneNames = (width r : ℕ) → (names (everyone width) r ≡ true) ↔ ((0 < r) × (r ≤ width))

-- a part lies within the width if the whole does
abbrev pub PartWithin : Type 0
PartWithin = (width t s : ℕ) → Part t s → Within width s → Within width t

-- a proper part has less blame weight
abbrev pub PartBlamesLess : Type 0
PartBlamesLess = (t s : ℕ) → Part t s → (t ≢ s) → blame t < blame s

-- and less keep weight
abbrev pub PartKeepsLess : Type 0
PartKeepsLess = (width t s : ℕ) → Within width s → Part t s → (t ≢ s) → keep width t < keep width s

-- no two sets within the width have the same keep weight
abbrev pub KeepTells : Type 0
KeepTells = (width s t : ℕ) → Within width s → Within width t → keep width s ≡ keep width t → s ≡ t

-- a request is in the union of two sets where it is in either
abbrev pub UnionNames : Type 0
UnionNames = (s t r : ℕ) → names (bit_or s t) r ≡ (names s r || names t r)

-- in what two sets have in common where it is in both
abbrev pub CommonNames : Type 0
CommonNames = (s t r : ℕ) → names (bit_and s t) r ≡ (names s r && names t r)

-- and in the first without the second where it is in the first and not in the second
abbrev pub MinusNames : Type 0
MinusNames = (s t r : ℕ) → names (minus s t) r ≡ (names s r && not (names t r))

-- in the empty set there is none
abbrev pub EmptyNames : Type 0
EmptyNames = (r : ℕ) → names none r ≡ false

-- the ones of a number are as many as the requests of its set
abbrev pub OnesCount : Type 0
OnesCount = (s : ℕ) → Within widest s → count_ones s ≡ size s

-- the lower half is a part of the set, has half of its requests, rounded down, and each of them is below each of the others
abbrev pub LowerHalf : Type 0
LowerHalf =
    (s : ℕ) → Within widest s
    → Part (lower s) s × (size (lower s) ≡ size s / 2) × ((q r : ℕ) → names (lower s) q ≡ true → names (minus s (lower s)) r ≡ true → q < r)

-- all of these
abbrev pub SetLaws : Type 0
SetLaws =
    KnownByRequests × PartNames × NamesPart × WithinNames × NamesWithin × EveryoneNames × PartWithin × PartBlamesLess × PartKeepsLess × KeepTells
    × UnionNames × CommonNames × MinusNames × EmptyNames × OnesCount × LowerHalf
