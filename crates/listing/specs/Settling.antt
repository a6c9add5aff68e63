-- What is settled in the search of a seed: which part of the free requests contains no conflict and shares a request with each drop. A drop is what a listed relaxation leaves out. Assumes nothing.
use Rattle.std.specs.Prelude.{◌≡◌, ◌≢◌, ℕ, ◌≤◌, Bool, false, not, cond, List, MatchOption, Option, Some, None, bit_and, bit_or, count_ones}
use Rattle.std.specs.List.{All, Any, filter, filter_map}
use Rattle.sets.specs.Members.{none, minus}
use Rattle.sets.specs.Requests.{Part, part, names}
use Rattle.sets.specs.Sets.{bits_of, set_of}
use Rattle.sets.specs.declared.Members.{Members}
use Rattle.listing.specs.Lines.{explored}
use Rattle.listing.specs.declared.lines.Line.{Line}
use Rattle.listing.specs.declared.lines.Line.TheVariants.{Conflict, Relaxation}

-- the sets without a request
abbrev pub lacking_of : (request : ℕ) → List (Members 1) → List (Members 1)
lacking_of request sets = filter (λ s. not (names (bits_of s) request)) sets

-- s is one of the sets, cut to the free requests, and none of them has fewer of these
pub record IsShortest (free : ℕ) (sets : List (Members 1)) (s : ℕ) : Type 0 where
  pub one : Any (λ c. s ≡ bit_and (bits_of c) free) sets
  pub least : All (λ c. count_ones s ≤ count_ones (bit_and (bits_of c) free)) sets

-- x does not contain the conflict, cut to the free requests
abbrev pub Avoids : (free x : ℕ) (conflict : Members 1) → Type 0
Avoids free x conflict = Part (bit_and (bits_of conflict) free) x → ⊥

-- x shares a request with the drop
abbrev pub Meets : (x : ℕ) (drop : Members 1) → Type 0
Meets x drop = bit_and (bits_of drop) x ≢ none

-- x is part of the free requests, contains none of the conflicts, cut to them, and shares a request with each drop
pub record Settles (free : ℕ) (conflicts drops : List (Members 1)) (x : ℕ) : Type 0 where
  pub inside : Part x free
  pub avoids : All (Avoids free x) conflicts
  pub meets : All (Meets x) drops

-- what was found settles the question; or nothing does
abbrev pub Settled : (free : ℕ) (conflicts drops : List (Members 1)) → Option (Members 1) → Type 0
Settled free conflicts drops found = MatchOption found ((x : ℕ) → Settles free conflicts drops x → ⊥) (λ s. Settles free conflicts drops (bits_of s))

-- what was found settles it; or nothing does that has the request (where `there` is false: that lacks it)
abbrev pub SettledWhere : (request : ℕ) (there : Bool) (free : ℕ) (conflicts drops : List (Members 1)) → Option (Members 1) → Type 0
SettledWhere request there free conflicts drops found =
    MatchOption found ((x : ℕ) → Settles free conflicts drops x → names x request ≡ there → ⊥) (λ s. Settles free conflicts drops (bits_of s))

-- a listed conflict, if it lies within a set
abbrev pub conflict_within : (s : ℕ) → Line → Option (Members 1)
conflict_within s (Conflict c) = cond (part (bits_of c) s) (Some c) None
conflict_within s (Relaxation r) = None

-- and all of those
abbrev pub conflicts_of : (s : ℕ) → List Line → List (Members 1)
conflicts_of s lines = filter_map (conflict_within s) lines

-- what a listed relaxation that contains the kept requests leaves out of the free ones
abbrev pub drop_beyond : (kept free : ℕ) → Line → Option (Members 1)
drop_beyond kept free (Conflict c) = None
drop_beyond kept free (Relaxation r) = cond (part kept (bits_of r)) (Some (set_of (minus free (bits_of r)))) None

-- and of all of them
abbrev pub drops_of : (kept free : ℕ) → List Line → List (Members 1)
drops_of kept free lines = filter_map (drop_beyond kept free) lines

-- t has all kept requests, and others only of the free ones
pub record IsBetween (kept free t : ℕ) : Type 0 where
  pub above : Part kept t
  pub below : Part t (bit_or kept free)

-- it is one of these that no line explores
abbrev pub IsSought : List Line → (kept free t : ℕ) → Type 0
IsSought lines kept free t = IsBetween kept free t × (explored lines t ≡ false)

-- what was found is sought; or nothing is
abbrev pub Found : List Line → (kept free : ℕ) → Option (Members 1) → Type 0
Found lines kept free found = MatchOption found ((t : ℕ) → IsSought lines kept free t → ⊥) (λ s. IsSought lines kept free (bits_of s))
