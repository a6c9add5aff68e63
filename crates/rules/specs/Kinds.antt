-- Which rules are of a kind. Assumes nothing.
use Rattle.std.specs.Prelude.{ℕ, ◌+◌, Bool, true, false, cond, List, [], ◌∷◌, Some, None, Option}
use Rattle.rules.specs.declared.Body.{Body}
use Rattle.rules.specs.declared.Body.TheVariants as body
use Rattle.rules.specs.declared.Kind.{Kind}
use Rattle.rules.specs.declared.Kind.TheVariants.{Options, Gaps, Faces}
use Rattle.rules.specs.declared.Rule.{Rule}

-- the kind of a body
abbrev pub kind_of : Body → Kind
kind_of (body.Options head s) = Options
kind_of (body.Gap a b w) = Gaps
kind_of (body.Faces odd s) = Faces

-- whether a body is that of a kind
abbrev pub says_of : Kind → Body → Bool
says_of Options (body.Options head s) = true
says_of Options (body.Gap a b w) = false
says_of Options (body.Faces odd s) = false
says_of Gaps (body.Options head s) = false
says_of Gaps (body.Gap a b w) = true
says_of Gaps (body.Faces odd s) = false
says_of Faces (body.Options head s) = false
says_of Faces (body.Gap a b w) = false
says_of Faces (body.Faces odd s) = true

-- no body is of no kind
abbrev pub if_some : Kind → Option Body → Bool
if_some k None = false
if_some k (Some b) = says_of k b

-- a blank rule is of no kind
abbrev pub of_kind : Kind → Rule → Bool
of_kind k r = if_some k r.body

-- how many rules of a list are of a kind
abbrev pub count_of : Kind → List Rule → ℕ
count_of k [] = 0
count_of k (r ∷ rs) = cond (of_kind k r) 1 0 + count_of k rs
