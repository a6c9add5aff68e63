-- A blank rule: no body, and the house for its owner. Assumes nothing.
use Rattle.rules.specs.declared.Rule.{Rule}
use Rattle.std.specs.Prelude.{None}

-- a blank rule
abbrev pub blank : Rule
blank = record { owner = 0; body = None }
