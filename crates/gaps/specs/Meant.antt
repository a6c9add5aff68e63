-- What the oracle over a list of rules on gaps means. Assumes nothing.
use Rattle.oracle.specs.Meaning.{Meaning}
use Rattle.gaps.specs.Verdict.{meant}
use Rattle.gaps.specs.declared.Gaps.{Gaps}

-- by the list and the width that it was made of
abbrev pub gaps_meaning : Gaps → Meaning
gaps_meaning o = meant o.list.width o.list.rules.now
