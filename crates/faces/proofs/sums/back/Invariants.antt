use Rattle.std.proofs.Common.{drop}
use Rattle.sets.specs.Sets.{bits_of}
use Rattle.rules.specs.Force.{said}
use Rattle.rules.proofs.FacesDecided.{Leaves}
use Rattle.faces.proofs.sums.back.Given as goal

-- the sums say what the rules so far say
abbrev pub invariant-loop-rule : goal.invariant-loop-rule
invariant-loop-rule l =
    Leaves 32 (said (bits_of l.set) l.rules) (said (bits_of l.set) (drop l.rule-index l.rules)) l.sums.of
