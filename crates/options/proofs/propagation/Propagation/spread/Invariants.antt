use Rattle.std.proofs.Common.{◌≡◌, ◌-◌}
use Rattle.sets.specs.Masks.{number_of}
use Rattle.sets.specs.Members.{none}
use Rattle.rules.specs.Propagation.{spread, most_sweeps}
use Rattle.options.specs.Propagating.{in_force_all}
use Rattle.options.proofs.propagation.Propagation.spread.Given as goal

abbrev pub invariant-loop : goal.invariant-loop
invariant-loop l = spread (most_sweeps - l.counter) (in_force_all l.self) (number_of l.on) ≡ spread most_sweeps (in_force_all l.self) none
