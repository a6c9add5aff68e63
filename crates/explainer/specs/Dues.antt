-- What NEXT is to do, as the code tells it. Assumes nothing.
use Rattle.sets.specs.Sets.{set_of}
use Rattle.listing.specs.Steps as steps
use Rattle.explainer.specs.declared.progress.Due.{Due}
use Rattle.explainer.specs.declared.progress.Due.TheVariants.{Check, List, All, Full}

-- a move of the steps
abbrev pub due_of : steps.Move → Due
due_of (steps.check s) = Check (set_of s)
due_of (steps.lists x) = List x
due_of steps.all = All
due_of steps.full = Full
