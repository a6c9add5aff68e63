-- The keys with which lines begin. Assumes nothing.
use Rattle.std.specs.Prelude.{ℕ, cond, List, [], ◌∷◌, Some, None, codes, Option, ◌==◌}
use Rattle.rules.specs.declared.Kind.{Kind}
use Rattle.rules.specs.declared.Kind.TheVariants.{Options, Gaps, Faces}
use Rattle.fields.specs.declared.layout.Heading.{Heading}
use Rattle.fields.specs.declared.layout.Heading.TheVariants.{Ticket, Requests, Checks, Rules}

-- a header's key with the `=` after it
abbrev pub key : Heading → List ℕ
key Ticket = codes "ticket="
key Requests = codes "requests="
key Checks = codes "checks="
key Rules = codes "rules="

-- h is 104, g 103, f 102
abbrev pub kind_of : (letter : ℕ) → Option Kind
kind_of c = cond (c == 104) (Some Options) (cond (c == 103) (Some Gaps) (cond (c == 102) (Some Faces) None))

-- `=` is 61
abbrev pub if_equals : ℕ → Option Kind → List ℕ → Option (Kind × List ℕ)
if_equals b None rest = None
if_equals b (Some k) rest = cond (b == 61) (Some (k, rest)) None

-- a rule line's kind and value, where it begins with a letter and `=`
abbrev pub lettered : List ℕ → Option (Kind × List ℕ)
lettered [] = None
lettered (a ∷ []) = None
lettered (a ∷ b ∷ rest) = if_equals b (kind_of a) rest
