-- The verdict over the rules of letter f, and what a search for faces finds. Assumes nothing.
use Rattle.std.specs.Prelude.{ℕ, Bool, List, Option}
use Rattle.std.specs.Option.{option_map}
use Rattle.sets.specs.Masks.{number_of}
use Rattle.oracle.specs.Meaning.{Meaning}
use Rattle.rules.specs.Choices.{Choice, choice_back}
use Rattle.rules.specs.Found.{fit_by, meant_by, FoundBy}
use Rattle.rules.specs.declared.FaceSet.{FaceSet}
use Rattle.rules.specs.declared.Kind.TheVariants as kind
use Rattle.rules.specs.declared.Rule.{Rule}
use Rattle.rules.proofs.FacesDecided.{faces_decided}

-- a set is fit if some choice of faces at the back meets every rule of faces that is in force for it
abbrev pub fit : List Rule → ℕ → Bool
fit = fit_by kind.Faces faces_decided

-- what the oracle over these rules means
abbrev pub meant : (width : ℕ) → List Rule → Meaning
meant = meant_by kind.Faces faces_decided

-- the choice that has just these faces at the back
abbrev pub chosen : FaceSet → Choice
chosen back = choice_back (number_of back.members)

-- faces at the back that meet every rule of faces in force for the set; none where no choice meets them
abbrev pub Found : List Rule → ℕ → Option FaceSet → Type 0
Found rules s o = FoundBy kind.Faces rules s (option_map chosen o)
