-- A held set with two others, and its parts; both halves of a set, and how many requests lie within a width. Assumes nothing.
use Rattle.std.proofs.Common.{◌≡◌, ℕ, ◌^◌, ◌<◌, ◌≤◌, subst, lt_of_lt_of_le, pow_mono, arith}
use Rattle.std.specs.Prelude.{bit_or}
use lib.Bits.{or_lt}
use lib.Count.{ones-le}
use Rattle.sets.specs.Members.{lower, size}
use Rattle.sets.specs.Requests.{Part}
use Rattle.sets.proofs.Parts.{part_trans, part_or_l, part_or_r, part_or, part_below}
use Rattle.sets.proofs.Sizes.{ones_size}
use Rattle.sets.proofs.Halves.{lower_part, minus_part}
use Rattle.listing.proofs.HalveSteps.{upper}

-- each of the three is a part of all of them; the last is one by part_or_r
pub first_in : (h x y : ℕ) → Part h (bit_or (bit_or h x) y)
first_in h x y = part_trans h (bit_or h x) (bit_or (bit_or h x) y) (part_or_l h x) (part_or_l (bit_or h x) y)

pub second_in : (h x y : ℕ) → Part x (bit_or (bit_or h x) y)
second_in h x y = part_trans x (bit_or h x) (bit_or (bit_or h x) y) (part_or_r h x) (part_or_l (bit_or h x) y)

-- where each is a part, so are all
pub three_in : (h x y s : ℕ) → Part h s → Part x s → Part y s → Part (bit_or (bit_or h x) y) s
three_in h x y s p q r = part_or (bit_or h x) y s (part_or h x s p q) r

-- two parts of one set
pub both_in : (h p x y : ℕ) → Part x p → Part y p → Part (bit_or (bit_or h x) y) (bit_or h p)
both_in h p x y inner other =
    let whole : Part p (bit_or h p) = part_or_r h p in
    three_in h x y (bit_or h p) (part_or_l h p) (part_trans x p (bit_or h p) inner whole) (part_trans y p (bit_or h p) other whole)

-- the two in the other order, and together
pub other_order : (h x y : ℕ) → Part (bit_or (bit_or h x) y) (bit_or (bit_or h y) x)
other_order h x y = three_in h x y (bit_or (bit_or h y) x) (first_in h y x) (part_or_r (bit_or h y) x) (second_in h y x)

pub together : (h x y : ℕ) → Part (bit_or (bit_or h x) y) (bit_or h (bit_or y x))
together h x y =
    let two : Part (bit_or y x) (bit_or h (bit_or y x)) = part_or_r h (bit_or y x) in
    three_in h x y (bit_or h (bit_or y x)) (part_or_l h (bit_or y x)) (part_trans x (bit_or y x) (bit_or h (bit_or y x)) (part_or_r y x) two) (part_trans y (bit_or y x) (bit_or h (bit_or y x)) (part_or_l y x) two)

-- a set made of two that lie in all of them
pub made_of : (h t x y a b : ℕ) → bit_or a b ≡ t → Part a (bit_or (bit_or h x) y) → Part b (bit_or (bit_or h x) y) → Part (bit_or h t) (bit_or (bit_or h x) y)
made_of h t x y a b e first second =
    let all : ℕ = bit_or (bit_or h x) y in
    part_or h t all (first_in h x y) (subst (λ n. Part n all) e (part_or a b all first second))

-- all of them lie within the width if each does
pub three_within : (width h x y : ℕ) → h < 2 ^ width → x < 2 ^ width → y < 2 ^ width → bit_or (bit_or h x) y < 2 ^ width
three_within width h x y held first second = or_lt width (bit_or h x) y (or_lt width h x held first) second

-- both halves of a set are parts of it, and lie within its width
pub upper_part : (p : ℕ) → Part (upper p) p
upper_part p = minus_part p (lower p)

pub small_of : (width p : ℕ) → width ≤ 32 → p < 2 ^ width → p < 2 ^ 32
small_of width p narrow within = lt_of_lt_of_le within (pow_mono narrow)

pub lower_within : (width p : ℕ) → width ≤ 32 → p < 2 ^ width → lower p < 2 ^ width
lower_within width p narrow within = part_below width (lower p) p (lower_part p (small_of width p narrow within)) within

pub upper_within : (width p : ℕ) → p < 2 ^ width → upper p < 2 ^ width
upper_within width p within = part_below width (upper p) p (upper_part p) within

pub lower_small : (p : ℕ) → p < 2 ^ 32 → lower p < 2 ^ 32
lower_small p small = part_below 32 (lower p) p (lower_part p small) small

pub upper_small : (p : ℕ) → p < 2 ^ 32 → upper p < 2 ^ 32
upper_small p small = upper_within 32 p small

-- a set has no more requests than the width
pub size_within : (width p : ℕ) → width ≤ 32 → p < 2 ^ width → size p ≤ width
size_within width p narrow within = omega (arith, ones_size p (small_of width p narrow within), ones-le width p within)
