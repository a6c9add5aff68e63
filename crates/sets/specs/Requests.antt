-- A set of requests as one number: request r, counted from 1, is the bit worth 2 ^ (r - 1). Assumes nothing.
use Rattle.std.specs.Prelude.{◌≡◌, ℕ, zero, suc, ◌+◌, ◌-◌, ◌^◌, ◌<◌, ◌≤◌, Bool, true, cond, ◌&&◌, ◌==◌, Option, Some, None, bit_and, nat_lt}
use Rattle.sets.specs.Members.{none, has}

-- the most requests of a ticket
abbrev pub widest : ℕ
widest = 32

-- whether request r is in the set; there is no request 0
abbrev pub names : (s r : ℕ) → Bool
names s r = nat_lt 0 r && has s (r - 1)

-- a set within the width has no request above it
abbrev pub Within : (width s : ℕ) → Type 0
Within width s = s < 2 ^ width

-- the same as a test
abbrev pub within : (width s : ℕ) → Bool
within width s = nat_lt s (2 ^ width)

-- t is a part of s: all that t has is in s
abbrev pub Part : (t s : ℕ) → Type 0
Part t s = bit_and t s ≡ t

-- the same as a test
abbrev pub part : (t s : ℕ) → Bool
part t s = bit_and t s == t

-- a request that is told as the first of a set is in it, and none before it; and where none is told there is none
abbrev pub IsFirst : (s : ℕ) → Option ℕ → Type 0
IsFirst s None = s ≡ none
IsFirst s (Some r) = (names s r ≡ true) × ((q : ℕ) → names s q ≡ true → r ≤ q)

-- all requests up to the width
abbrev pub everyone : (width : ℕ) → ℕ
everyone width = 2 ^ width - 1

-- of two conflicts the one of less blame weight is preferred
abbrev pub blame : ℕ → ℕ
blame s = s

-- what the count requests from r on weigh: 2 ^ (width - r) for each that is in the set
abbrev pub keep_from : (count r width s : ℕ) → ℕ
keep_from zero r width s = 0
keep_from (suc count) r width s = cond (names s r) (2 ^ (width - r)) 0 + keep_from count (suc r) width s

-- of two relaxations the one of greater keep weight is preferred
abbrev pub keep : (width s : ℕ) → ℕ
keep width s = keep_from width 1 width s
