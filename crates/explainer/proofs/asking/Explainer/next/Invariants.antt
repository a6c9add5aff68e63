use Rattle.explainer.specs.Holding.{state_of}
use Rattle.explainer.specs.Preferring.{preferring}
use Rattle.explainer.proofs.NextCode.{GoesOn}
use Rattle.explainer.proofs.NextFalls.{left_of}
use Rattle.explainer.proofs.asking.Explainer.next.Given as goal

-- so many checks are left to be answered before a line is listed
abbrev pub decreases-loop-line : goal.decreases-loop-line
decreases-loop-line g l = left_of (state_of l.self.progress)

-- what is done from here is done from the first
abbrev pub invariant-loop-line : goal.invariant-loop-line
invariant-loop-line g l = GoesOn preferring g.O.Oracle.check_leads l.initial.self l.self
