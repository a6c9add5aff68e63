use Rattle.std.proofs.Common.{◌≡◌, drop}
use Rattle.sets.specs.Masks.{number_of}
use Rattle.sets.specs.Sets.{bits_of}
use Rattle.rules.specs.Force.{said}
use Rattle.rules.specs.Propagation.{barred}
use Rattle.options.specs.Propagating.{in_force_all}
use Rattle.options.proofs.propagation.Propagation.bars.Given as goal

-- no rule so far bars what is on
abbrev pub invariant-loop-rule : goal.invariant-loop-rule
invariant-loop-rule l =
    barred (said (bits_of l.self.set) (drop l.rule-index l.self.rules.now)) (number_of l.on)
    ≡ barred (in_force_all l.self) (number_of l.on)
