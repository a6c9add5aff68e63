-- What the two types of sets say of a number, each in its own words: `Mask`, of numbers from 0 on, and `Set`, of numbers from 1 on. Assumes nothing.
use Rattle.std.specs.Prelude.{◌≡◌, ℕ, ◌<◌, ◌≤◌, true, ◌≢◌}
use Rattle.sets.specs.Members.{has, added, has_from, added_from}
use Rattle.sets.specs.Requests.{widest, names}

-- a number is in a mask where the bit of its own place is set
abbrev pub MaskHas : Type 0
MaskHas = (n i : ℕ) → has_from 0 n i ≡ has n i

-- and is added to one at that place
abbrev pub MaskAdds : Type 0
MaskAdds = (n i : ℕ) → added_from 0 n i ≡ added n i

-- a request is in a set where the bit before its own place is set
abbrev pub SetNames : Type 0
SetNames = (s r : ℕ) → has_from 1 s r ≡ names s r

-- a request from 1 to 32 that is added is then in the set, and each other is in it or not as before
abbrev pub SetAdds : Type 0
SetAdds =
    (s r : ℕ) → 0 < r → r ≤ widest
    → (names (added_from 1 s r) r ≡ true) × ((q : ℕ) → (q ≢ r) → names (added_from 1 s r) q ≡ names s q)

-- of any other number nothing comes in
abbrev pub SetStays : Type 0
SetStays = (s r : ℕ) → (0 < r → r ≤ widest → ⊥) → added_from 1 s r ≡ s

-- all of these
abbrev pub Instances : Type 0
Instances = MaskHas × MaskAdds × SetNames × SetAdds × SetStays
