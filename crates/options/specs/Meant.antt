-- What the oracle over a list of rules of options means. Assumes nothing.
use Rattle.oracle.specs.Meaning.{Meaning}
use Rattle.options.specs.Verdict.{meant}
use Rattle.options.specs.declared.Options.{Options}

-- by the list and the width that it was made of
abbrev pub options_meaning : Options → Meaning
options_meaning o = meant o.list.width o.list.rules.now
