use Rattle.std.proofs.Common.{◌≡◌, ◌≤◌, length, vec_capacity}
use Rattle.explainer.specs.Choosing.{AreChosen}
use Rattle.explainer.specs.Led.{IsLed}
use Rattle.explainer.specs.Preferring.{preferring}
use Rattle.explainer.proofs.running.run.Given as goal

-- what is recorded has led here, each call is the one that was chosen, there are as many as turns so far, and there is
-- room for all
abbrev pub invariant-loop-turn : goal.invariant-loop-turn
invariant-loop-turn g l = record {
  led : IsLed preferring g.O.Oracle.meaning g.O.Oracle.check_leads g.O.Oracle.grant_leads l.fn.oracle l.moments.items l.explainer;
  chosen : AreChosen (g.C.Caller.choice l.caller) l.moments.items;
  count : length l.moments.items ≡ l._turn;
  room : l.turns ≤ vec_capacity l.moments;
}
