-- Which rules are in force for a set of requests. Assumes nothing.
use Rattle.std.specs.Prelude.{ℕ, Bool, true, cond, ◌&&◌, ◌||◌, List, [], ◌∷◌, Some, None, Option, ◌==◌, nat_le, unsigned_abs}
use Rattle.sets.specs.Masks.{number_of}
use Rattle.sets.specs.Members.{size}
use Rattle.sets.specs.Requests.{widest, names}
use Rattle.rules.specs.Limits.{last_option, last_mark, widest_gap, most_members}
use Rattle.rules.specs.declared.Body.{Body}
use Rattle.rules.specs.declared.Body.TheVariants.{Options, Gap, Faces}
use Rattle.rules.specs.declared.Rule.{Rule}

-- a head is an option, or there is none
abbrev pub head_valid : Option ℕ → Bool
head_valid None = true
head_valid (Some h) = nat_le h last_option

-- whether some rule line can say this
abbrev pub body_valid : Body → Bool
body_valid (Options head s) = head_valid head && nat_le (size (number_of s.members)) most_members
body_valid (Gap a b w) = nat_le a last_mark && nat_le b last_mark && nat_le (unsigned_abs w) widest_gap
body_valid (Faces odd s) = nat_le 1 (size (number_of s.members)) && nat_le (size (number_of s.members)) most_members

-- whether a rule of this owner counts for a set: the house's for every set, a request's where the request is in it
abbrev pub counts_for : (s owner : ℕ) → Bool
counts_for s owner = nat_le owner widest && (owner == 0 || names s owner)

-- the body, if some rule line can say it
abbrev pub if_valid : Option Body → Option Body
if_valid None = None
if_valid (Some b) = cond (body_valid b) (Some b) None

-- what a rule says for a set of requests; none where it is blank, or no rule line can say it, or its owner does not count
abbrev pub in_force : ℕ → Rule → Option Body
in_force s r = cond (counts_for s r.owner) (if_valid r.body) None

-- one more, if there is one
abbrev pub and_then : Option Body → List Body → List Body
and_then None bs = bs
and_then (Some b) bs = b ∷ bs

-- what the rules in force say, in the order of the list
abbrev pub said : ℕ → List Rule → List Body
said s [] = []
said s (r ∷ rs) = and_then (in_force s r) (said s rs)
