-- How a question ends that has no conflict or no drop left, or an empty one. Assumes nothing.
use Rattle.std.proofs.Common.{◌≡◌, ◌≢◌, ℕ, ◌≤◌, List, length, count_ones, sym, ap, ◌∙◌, subst, arith, lit<}
use lib.Bits.{bit_and, and_zero_l, and_zero_r}
use lib.Count.{ones, ones-le}
use Rattle.std.specs.List.{All, Any}
use Rattle.std.proofs.lemmas.List.Elements.{All-weaker}
use Rattle.std.proofs.lemmas.Nat.{zero_from_ones}
use Rattle.sets.specs.Members.{none}
use Rattle.sets.specs.Requests.{names, Part}
use Rattle.sets.specs.Sets.{bits_of}
use Rattle.sets.specs.declared.Members.{Members}
use Rattle.sets.proofs.Parts.{part_refl}
use Rattle.sets.proofs.Weights.{part_names, set_laws}
use Rattle.listing.specs.Settling.{IsShortest, Avoids, Meets, Settles}
use Rattle.listing.proofs.SettleBits.{both_named, nothing_common, common_not_none}

-- a set whose cut is not empty
abbrev pub IsCut : (free : ℕ) → Members 1 → Type 0
IsCut free s = bit_and (bits_of s) free ≢ none

-- anything holds of all elements of an empty list
all_of_none : {X : Type 0} (P : X → Type 0) (xs : List X) → length xs ≡ 0 → All P xs
all_of_none P xs none_there k d low = absurd (omega arith)

-- an element of which something holds, where something holds of all
one_of_all : {X : Type 0} (P Q : X → Type 0) (xs : List X) → Any P xs → All Q xs → (x : X) × P x × Q x
one_of_all P Q xs (k, x, low, at, p) all = (x, p, subst Q at (all k x low))

-- the empty set has no members to count, and is a part of every set
ones_none : ones 0 ≡ 0
ones_none = omega (arith, ones-le 0 0 (lit< tt))

none_part : (s : ℕ) → Part none s
none_part s = and_zero_l s

part_none : (s : ℕ) → Part s none → s ≡ none
part_none s p = sym p ∙ and_zero_r s

-- if the shortest of some sets is not empty, none is; and it is a part of the free requests
pub shortest_cut : (free s : ℕ) (sets : List (Members 1)) → IsShortest free sets s → (s ≢ none) → All (IsCut free) sets
shortest_cut free s sets short some =
    All-weaker (λ c. count_ones s ≤ count_ones (bit_and (bits_of c) free)) (IsCut free)
    (λ c few e. some (zero_from_ones s (omega (arith, few, ap ones e, ones_none)))) sets short.least

pub shortest_part : (free s : ℕ) (sets : List (Members 1)) → IsShortest free sets s → Part s free
shortest_part free s sets short =
    let (k, c, low, at, e) = short.one in
    set_laws.2 s free (λ r h. (both_named (bits_of c) free r (ap (λ n. names n r) (sym e) ∙ h)).1)

-- nothing settles a question with an empty conflict or an empty drop
pub empty_conflict : (free s : ℕ) (conflicts drops : List (Members 1)) → IsShortest free conflicts s → s ≡ none → (x : ℕ) → Settles free conflicts drops x → ⊥
empty_conflict free s conflicts drops short empty x settles =
    let one = one_of_all (λ c. s ≡ bit_and (bits_of c) free) (Avoids free x) conflicts short.one settles.avoids in
    one.2 (subst (λ n. Part n x) (sym empty ∙ one.1) (none_part x))

pub empty_drop : (free s : ℕ) (conflicts drops : List (Members 1)) → IsShortest free drops s → s ≡ none → (x : ℕ) → Settles free conflicts drops x → ⊥
empty_drop free s conflicts drops short empty x settles =
    let one = one_of_all (λ c. s ≡ bit_and (bits_of c) free) (Meets x) drops short.one settles.meets in
    one.2 (nothing_common (bits_of one.0) x (λ r there too.
    common_not_none (bits_of one.0) free r (sym one.1 ∙ empty) there (part_names x free settles.inside r too)))

-- without conflicts all free requests settle it, if no drop is empty, and without drops none of them, if no conflict is
pub all_settles : (free : ℕ) (conflicts drops : List (Members 1)) → length conflicts ≡ 0 → All (IsCut free) drops → Settles free conflicts drops free
all_settles free conflicts drops no_conflict some = record {
  inside = part_refl free;
  avoids = all_of_none (Avoids free free) conflicts no_conflict;
  meets = some;
}

pub none_settles : (free : ℕ) (conflicts drops : List (Members 1)) → length drops ≡ 0 → All (IsCut free) conflicts → Settles free conflicts drops none
none_settles free conflicts drops no_drop some = record {
  inside = none_part free;
  avoids = All-weaker (IsCut free) (Avoids free none) (λ c cut p. cut (part_none (bit_and (bits_of c) free) p)) conflicts some;
  meets = all_of_none (Meets none) drops no_drop;
}
