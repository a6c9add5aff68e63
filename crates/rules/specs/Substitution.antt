-- Faces told by sums of free faces, with what each rule says put in. Assumes nothing.
-- These are steps of a search, which only private functions promise; what it finds is said in words of choices, in specs/Found.antt.
--
-- A sum is one number: its place 0 says whether 1 is added, and its place p + 1 whether face p is. Sums are taken modulo 2.
-- The list has a sum for each face in turn, and at the start each face is itself. The faces of a rule and its bit then add
-- up to one sum, which is to be 0. If it is 0 as it stands, the rule is met by all that is left, and if it is 1, by nothing.
-- Otherwise its lowest face is told by the rest of it, and that is put in wherever this face is added.
use Rattle.std.specs.Prelude.{ℕ, suc, ◌+◌, ◌*◌, ◌/◌, ◌%◌, ◌^◌, Bool, cond, List, [], ◌∷◌, Some, None, Option, ◌==◌, bit_xor, nat_lt, map}
use Rattle.std.specs.Int.Count.{count_trailing_zeros}
use Rattle.std.specs.List.{range_with_len}
use Rattle.sets.specs.Masks.{number_of}
use Rattle.sets.specs.Members.{has}
use Rattle.rules.specs.Limits.{last_face}
use Rattle.rules.specs.declared.Body.{Body}
use Rattle.rules.specs.declared.Body.TheVariants.{Options, Gap, Faces}

-- how many faces there are
abbrev pub faces : ℕ
faces = suc last_face

-- the bit of a rule
abbrev pub bit_of : Bool → ℕ
bit_of odd = cond odd 1 0

-- n faces, each of which is itself
unfoldable pub free : ℕ → List ℕ
free n = map (λ p. 2 ^ suc p) (range_with_len 0 n)

-- a sum with the sums of the faces of m added
abbrev pub total : List ℕ → (m sum : ℕ) → ℕ
total [] m sum = sum
total (x ∷ xs) m sum = total xs (m / 2) (cond (m % 2 == 1) (bit_xor sum x) sum)

-- the place of the lowest face in a sum, which has one if it is not 0 or 1, and no more places than its number
abbrev pub lowest : ℕ → ℕ
lowest sum = suc (count_trailing_zeros sum (sum / 2))

-- the sum x, with another added where x has the place: the other has it too, so x is without it then
abbrev pub put_in : (place sum x : ℕ) → ℕ
put_in place sum x = cond (has x place) (bit_xor x sum) x

-- the sums with one sum made 0; none where it cannot be
abbrev pub made_zero : List ℕ → ℕ → Option (List ℕ)
made_zero sums sum = cond (nat_lt sum 2) (cond (sum == 0) (Some sums) None) (Some (map (put_in (lowest sum) sum) sums))

-- the sums with what one rule says
abbrev pub entered : Option (List ℕ) → Body → Option (List ℕ)
entered None b = None
entered (Some sums) (Options head s) = Some sums
entered (Some sums) (Gap a b w) = Some sums
entered (Some sums) (Faces odd s) = made_zero sums (total sums (number_of s.members) (bit_of odd))

-- the sums with what each rule says, in turn
abbrev pub entered_all : Option (List ℕ) → List Body → Option (List ℕ)
entered_all sums [] = sums
entered_all sums (b ∷ bs) = entered_all (entered sums b) bs

-- the faces whose sum comes out as 1 where no free face is at the back
abbrev pub constants : List ℕ → ℕ
constants [] = 0
constants (x ∷ xs) = constants xs * 2 + x % 2

-- the faces to put at the back
abbrev pub back_of : Option (List ℕ) → Option ℕ
back_of None = None
back_of (Some sums) = Some (constants sums)

-- how many faces past the 32 to allow for: none for what a `Mask` of code can hold, and as many as its number for a larger one in a record
abbrev pub more_faces : Body → ℕ
more_faces (Options head s) = 0
more_faces (Gap a b w) = 0
more_faces (Faces odd s) = cond (nat_lt (number_of s.members) (2 ^ 32)) 0 (number_of s.members)

-- how many faces there are for all of these rules
abbrev pub width_of : List Body → ℕ
width_of [] = faces
width_of (b ∷ bs) = more_faces b + width_of bs

-- the faces to put at the back by these rules; none where no choice meets them
abbrev pub solution : List Body → Option ℕ
solution bs = back_of (entered_all (Some (free (width_of bs))) bs)
