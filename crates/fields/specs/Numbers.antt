-- How a number is written in a field. Assumes nothing.
use Rattle.std.specs.Prelude.{ℕ, ◌+◌, ◌-◌, ◌*◌, Bool, cond, not, ◌&&◌, ◌||◌, List, [], ◌∷◌, length, pos, neg_ℤ, Some, None, Option, ◌==◌, nat_le, nat_lt, slice_index}
use Rattle.std.specs.Str.{all_ascii_digits}
use Rattle.fields.specs.declared.layout.Style.{Style}
use Rattle.fields.specs.declared.layout.Style.TheVariants.{Number, Head, Width}
use Rattle.fields.specs.declared.value.Value.{Value}
use Rattle.fields.specs.declared.value.Value.TheVariants.{Dash, Plain, Signed}

-- the number that digits write, after n
abbrev pub number_after : ℕ → List ℕ → ℕ
number_after n [] = n
number_after n (c ∷ cs) = number_after (n * 10 + (c - 48)) cs

-- one to seven digits, and no 0 before others
abbrev pub well_written : List ℕ → Bool
well_written ds = nat_lt 0 (length ds) && nat_le (length ds) 7 && (not (slice_index ds 0 == 48) || length ds == 1) && all_ascii_digits ds

-- the number that a field holds; none where it is not written as a number
abbrev pub number : List ℕ → Option ℕ
number ds = cond (well_written ds) (Some (number_after 0 ds)) None

-- a number where no sign is allowed
abbrev pub plain : Option ℕ → Option Value
plain None = None
plain (Some n) = Some (Plain n)

-- a number with no sign where one is allowed
abbrev pub unsigned : Option ℕ → Option Value
unsigned None = None
unsigned (Some n) = Some (Signed (pos n))

-- after a `-`; nought has none before it
abbrev pub negative : Option ℕ → Option Value
negative None = None
negative (Some n) = cond (n == 0) None (Some (Signed (neg_ℤ (pos n))))

-- a head is a number, or `-`, which is byte 45, alone
abbrev pub head : List ℕ → Option Value
head [] = None
head (b ∷ bs) = cond (b == 45 && length bs == 0) (Some Dash) (plain (number (b ∷ bs)))

-- the width of a gap is a number, or `-` and a number
abbrev pub width : List ℕ → Option Value
width [] = None
width (b ∷ bs) = cond (b == 45) (negative (number bs)) (unsigned (number (b ∷ bs)))

-- what a field says that is to be written in a given style; none where it is not
abbrev pub said : Style → List ℕ → Option Value
said Number f = plain (number f)
said Head f = head f
said Width f = width f
