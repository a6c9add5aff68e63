-- What the oracles of the tests mean, by their fields. Assumes nothing.
use Rattle.sets.specs.Sets.{bits_of}
use Rattle.oracle.specs.Meaning.{Meaning}
use Rattle.trials.specs.Probing.{probing}
use Rattle.trials.specs.Roaming.{roaming}
use Rattle.trials.specs.declared.probe.Probe.{Probe}
use Rattle.trials.specs.declared.wild.Wild.{Wild}

-- the one by which a single set and its parts are fit
abbrev pub probe_meaning : Probe → Meaning
probe_meaning o = probing o.width (bits_of o.whole) o.allowance o.label

-- and the one by which the parts of some sets are
abbrev pub wild_meaning : Wild → Meaning
wild_meaning o = roaming o.width o.wholes.now o.allowance o.label
