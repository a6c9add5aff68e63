-- The rule that the values of a line say. Assumes nothing.
use Rattle.std.specs.Prelude.{ℕ, List, map, drop, ℤ, pos, Some, None, Option, ◌==◌, slice_index_or}
use Rattle.rules.specs.declared.Body.{Body}
use Rattle.rules.specs.declared.Body.TheVariants as body
use Rattle.rules.specs.declared.FaceSet.{FaceSet}
use Rattle.rules.specs.declared.Kind.{Kind}
use Rattle.rules.specs.declared.Kind.TheVariants.{Options, Gaps, Faces}
use Rattle.rules.specs.declared.OptionSet.{OptionSet}
use Rattle.rules.specs.declared.Rule.{Rule}
use Rattle.sets.specs.Masks.{mask}
use Rattle.sets.specs.Members.{none, added_all}
use Rattle.fields.specs.Formed.{amount}
use Rattle.fields.specs.declared.value.Value.{Value}
use Rattle.fields.specs.declared.value.Value.TheVariants.{Dash, Plain, Signed}

-- the head that a value says; `-` is none
abbrev pub head_of : Value → Option ℕ
head_of Dash = None
head_of (Plain n) = Some n
head_of (Signed z) = None

-- the width that a value says
abbrev pub width_of : Value → ℤ
width_of Dash = pos 0
width_of (Plain n) = pos 0
width_of (Signed z) = z

-- the numbers from the third field on, as a set
abbrev pub set_of : List Value → ℕ
set_of vs = added_all none (map amount (drop 2 vs))

-- the set of options of a number
abbrev pub option_set : ℕ → OptionSet
option_set n = record { members = mask n }

-- the set of faces of a number
abbrev pub face_set : ℕ → FaceSet
face_set n = record { members = mask n }

-- field 1 is the owner, and the body comes from the others
abbrev pub body_of : Kind → List Value → Body
body_of Options vs = body.Options (head_of (slice_index_or vs 1 Dash)) (option_set (set_of vs))
body_of Gaps vs = body.Gap (amount (slice_index_or vs 1 Dash)) (amount (slice_index_or vs 2 Dash)) (width_of (slice_index_or vs 3 Dash))
body_of Faces vs = body.Faces (amount (slice_index_or vs 1 Dash) == 1) (face_set (set_of vs))

-- the whole rule
abbrev pub rule_of : Kind → List Value → Rule
rule_of k vs = record { owner = amount (slice_index_or vs 0 Dash); body = Some (body_of k vs) }
