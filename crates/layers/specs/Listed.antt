-- The sets that Cover keeps of one verdict, as a list of numbers. Assumes nothing.
use Rattle.std.specs.Prelude.{ℕ, List, map}
use Rattle.sets.specs.Sets.{bits_of}
use Rattle.layers.specs.declared.kept_sets.KeptSets.{KeptSets}

-- in the order in which they were kept
abbrev pub kept_list : KeptSets → List ℕ
kept_list k = map bits_of k.sets.items
