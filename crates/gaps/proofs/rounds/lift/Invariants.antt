use Rattle.std.proofs.Common.{◌≡◌, drop}
use Rattle.rules.specs.Force.{said}
use Rattle.rules.specs.Rounds.{raised_all}
use Rattle.sets.specs.Sets.{bits_of}
use Rattle.gaps.proofs.rounds.lift.Given as goal

abbrev pub invariant-loop-rule : goal.invariant-loop-rule
invariant-loop-rule l =
    raised_all (said (bits_of l.set) (drop l.rule-index l.rules)) l.old l.new ≡ raised_all (said (bits_of l.set) l.rules) l.old l.old
