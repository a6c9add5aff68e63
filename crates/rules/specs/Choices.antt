-- What can be chosen, and when a choice meets the rules. Assumes nothing.
use Rattle.std.specs.Prelude.{◌≡◌, ℕ, ◌%◌, true, List, [], ◌∷◌, ℤ, pos, ◌-ℤ◌, ◌≤ℤ◌, Some, None, Option, ◌==◌, bit_and, count_ones, slice_index_or}
use Rattle.sets.specs.Masks.{number_of}
use Rattle.sets.specs.Members.{none, has}
use Rattle.sets.specs.Requests.{Part}
use Rattle.rules.specs.Force.{said}
use Rattle.rules.specs.Kinds.{says_of}
use Rattle.rules.specs.declared.Body.{Body}
use Rattle.rules.specs.declared.Body.TheVariants.{Options, Gap, Faces}
use Rattle.rules.specs.declared.Kind.{Kind}
use Rattle.rules.specs.declared.Rule.{Rule}

-- the options that are on, where each mark lies, and the faces at the back; options and faces as sets
pub record Choice : Type 0 where
  pub on : ℕ
  pub mark : ℕ → ℤ
  pub back : ℕ

-- the choice that has these options on; nothing is said of marks and faces
abbrev pub choice_on : ℕ → Choice
choice_on on = record { on = on; mark = λ a. pos 0; back = none }

-- where a mark lies
abbrev pub place : List ℤ → ℕ → ℤ
place ps i = slice_index_or ps i (pos 0)

-- a choice with these places; of the rest, nothing is on and nothing lies at the back
abbrev pub placed : List ℤ → Choice
placed ps = record { on = 0; mark = place ps; back = 0 }

-- the choice with these faces at the back, no option on, and every mark at nought
abbrev pub choice_back : ℕ → Choice
choice_back x = record { on = 0; mark = λ a. pos 0; back = x }

-- without a head, nothing is on
abbrev pub HeadOn : Option ℕ → ℕ → Type 0
HeadOn None on = ⊥
HeadOn (Some h) on = has on h ≡ true

-- h: if all of the set are on, the head is on; without a head, not all may be on
-- g: mark a minus mark b is at most w
-- f: the rule's faces that lie at the back are odd in number, or not
abbrev pub Meets : Choice → Body → Type 0
Meets c (Options head s) = Part (number_of s.members) c.on → HeadOn head c.on
Meets c (Gap a b w) = (c.mark a -ℤ c.mark b) ≤ℤ w
Meets c (Faces odd s) = (count_ones (bit_and (number_of s.members) c.back) % 2 == 1) ≡ odd

-- something holds of everything in a list
abbrev pub Every : (Body → Type 0) → List Body → Type 0
Every P [] = Unit {0}
Every P (b ∷ bs) = P b × Every P bs

-- all that is of one kind is met
abbrev pub MeetsKind : Kind → Choice → Body → Type 0
MeetsKind k c b = says_of k b ≡ true → Meets c b

-- some choice meets every rule of one kind that is in force for the set
abbrev pub FitBy : Kind → List Rule → ℕ → Type 0
FitBy k rules s = (c : Choice) × Every (MeetsKind k c) (said s rules)

-- some choice meets every rule in force for the set
abbrev pub Fit : List Rule → ℕ → Type 0
Fit rules s = (c : Choice) × Every (Meets c) (said s rules)
