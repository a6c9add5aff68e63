use Rattle.rules.specs.Force.{said}
use Rattle.sets.specs.Sets.{bits_of}
use Rattle.gaps.proofs.Searching.{Searching}
use Rattle.gaps.proofs.rounds.settle.Given as goal

abbrev pub invariant-loop : goal.invariant-loop
invariant-loop l = Searching l.counter (said (bits_of l.set) l.rules) l.marks
