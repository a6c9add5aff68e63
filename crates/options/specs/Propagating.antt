-- What a propagation works on, and which rules turn more options on. Assumes nothing.
-- These are steps of a search, which only private functions promise; what it finds is said in words of choices, in specs/Found.antt of `rules`.
use Rattle.std.specs.Prelude.{ℕ, cond, not, ◌&&◌, List, Some, None, Option}
use Rattle.sets.specs.Masks.{number_of}
use Rattle.sets.specs.Members.{has}
use Rattle.sets.specs.Requests.{part}
use Rattle.sets.specs.Sets.{bits_of}
use Rattle.rules.specs.Force.{said}
use Rattle.rules.specs.declared.Body.{Body}
use Rattle.rules.specs.declared.Body.TheVariants.{Options, Gap, Faces}
use Rattle.options.specs.declared.propagation.Propagation.{Propagation}

-- what its rules in force say
abbrev pub in_force_all : Propagation → List Body
in_force_all p = said (bits_of p.set) p.rules.now

-- the head that a rule turns on, if it is in force: the set is on, and the head is not
abbrev pub head_turned_on : Option Body → ℕ → Option ℕ
head_turned_on None on = None
head_turned_on (Some (Options None s)) on = None
head_turned_on (Some (Options (Some h) s)) on = cond (part (number_of s.members) on && not (has on h)) (Some h) None
head_turned_on (Some (Gap a b w)) on = None
head_turned_on (Some (Faces odd s)) on = None
