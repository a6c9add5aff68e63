-- A set of small numbers as one number: i is a member of n if n has the bit worth 2 ^ i. Assumes nothing.
use Rattle.std.specs.Prelude.{ℕ, zero, suc, ◌+◌, ◌-◌, ◌/◌, ◌%◌, ◌^◌, Bool, cond, ◌&&◌, List, [], ◌∷◌, take, ◌==◌, bit_and, bit_or, nat_le, nat_lt}

-- a set holds numbers below this one
abbrev pub places : ℕ
places = 32

-- the empty set
abbrev pub none : ℕ
none = 0

-- whether i is a member
abbrev pub has : ℕ → ℕ → Bool
has n i = n / 2 ^ i % 2 == 1

-- the set with i added; a number with no place is not taken in
abbrev pub added : ℕ → ℕ → ℕ
added n i = cond (nat_lt i places) (bit_or n (2 ^ i)) n

-- the same of a set of numbers from the first on, in which i has the place i - first; no number below the first is a member
abbrev pub has_from : (first n i : ℕ) → Bool
has_from first n i = nat_le first i && has n (i - first)

-- and such a set with i added; no number below the first is taken in
abbrev pub added_from : (first n i : ℕ) → ℕ
added_from first n i = cond (nat_le first i) (added n (i - first)) n

-- the set n with each number of the list added
abbrev pub added_all : ℕ → List ℕ → ℕ
added_all n [] = n
added_all n (i ∷ is) = added_all (added n i) is

-- the members among the count numbers from i on, rising
abbrev pub members_from : (count i n : ℕ) → List ℕ
members_from zero i n = []
members_from (suc count) i n = cond (has n i) (i ∷ members_from count (suc i) n) (members_from count (suc i) n)

-- the members, rising
abbrev pub members : ℕ → List ℕ
members n = members_from places 0 n

-- how many of the numbers below count are members
abbrev pub size_in : (count n : ℕ) → ℕ
size_in zero n = 0
size_in (suc count) n = n % 2 + size_in count (n / 2)

-- how many members there are
unfoldable pub size : ℕ → ℕ
size n = size_in places n

-- the members of n that m does not have
abbrev pub minus : (n m : ℕ) → ℕ
minus n m = n - bit_and n m

-- the first half of the members by number, rounded down
unfoldable pub lower : ℕ → ℕ
lower n = added_all none (take (size n / 2) (members n))
