-- What the oracle over a list of rules of faces means. Assumes nothing.
use Rattle.oracle.specs.Meaning.{Meaning}
use Rattle.faces.specs.Verdict.{meant}
use Rattle.faces.specs.declared.Faces.{Faces}

-- by the list and the width that it was made of
abbrev pub faces_meaning : Faces → Meaning
faces_meaning o = meant o.list.width o.list.rules.now
