use Rattle.std.proofs.Common.{◌≡◌, ◌++◌, List, [], ◌∷◌, length, inl, inr, ap, sym, subst, ◌∙◌, arith, length-append}
use Rattle.std.proofs.lemmas.Grind.{common_steps}
use Rattle.explainer.specs.Choosing.{AreChosen}
use Rattle.explainer.specs.Led.{IsLed}
use Rattle.explainer.specs.Preferring.{preferring}
use Rattle.explainer.specs.declared.moments.Moment.{Moment}
use Rattle.explainer.proofs.Choosings.{chosen_push}
use Rattle.explainer.proofs.LawOf.{law_of}
use Rattle.explainer.proofs.Leading.{led_new, led_push}
use Rattle.explainer.proofs.Preferred.{preferring_orders}
use Rattle.explainer.proofs.running.run.Goals as goal
use Rattle.explainer.proofs.running.run.Goals.{else-loop-turn-test, then-loop-turn-test+in_default}

-- at first nothing is recorded, and the explainer is new
pub loop-turn-init : goal.loop-turn-init
loop-turn-init g c =
    let none : [] ≡ c.args.workspace.moments.items = sym c.args.workspace.empty in
    record {
      led =
          subst (λ (l : List Moment). IsLed preferring g.O.Oracle.meaning g.O.Oracle.check_leads g.O.Oracle.grant_leads c.args.oracle l c.over-explainer.result) none
          (led_new preferring g.O.Oracle.meaning g.O.Oracle.check_leads g.O.Oracle.grant_leads c.args.oracle _ c.over-explainer.ensures);
      chosen = subst (λ (l : List Moment). AreChosen (g.C.Caller.choice c.args.caller.now) l) none tt;
      count = omega (arith, ap length none);
      room = c.args.workspace.recorded;
    }

-- what is recorded goes behind the rest, since there is room
pub loop-turn-preserved : goal.loop-turn-preserved
loop-turn-preserved g c =
    let items : c.push.new.self.items ≡ c.loop-turn.moments.items ++ c.make-moment.result ∷ [] = grind (arith, common_steps) in
    let made = c.make-moment.ensures in
    let past : List Moment = c.loop-turn.moments.items in
    record {
      led =
          subst (λ (l : List Moment). IsLed preferring g.O.Oracle.meaning g.O.Oracle.check_leads g.O.Oracle.grant_leads c.args.oracle l c.make-moment.new.self) (sym items)
          (led_push preferring g.O.Oracle.meaning g.O.Oracle.check_leads g.O.Oracle.grant_leads c.args.oracle past _ _ c.make-moment.result
          c.loop-turn.invariant.led made.does made.recorded);
      chosen =
          subst (λ (l : List Moment). AreChosen (g.C.Caller.choice c.args.caller.now) l) (sym items)
          (chosen_push (g.C.Caller.choice c.args.caller.now) past c.make-moment.result c.in-Some.call c.loop-turn.invariant.chosen (cc) made.call);
      count = ap length items ∙ omega (arith, length-append past (c.make-moment.result ∷ []), c.loop-turn.invariant.count);
      room = omega (arith, c.push.ensures.capacity);
    }

-- after the last turn as many calls were made as there may be; where the caller stopped there are fewer, and none is chosen
pub returns : goal.returns
returns g c = record {
  chosen = c.loop-turn.invariant.chosen;
  stopped = elim c.loop-turn-test.branch [
    | else-loop-turn-test w ↦ inl (omega arith)
    | then-loop-turn-test+in_default w ↦ inr (omega arith, cc)
  ];
  law = law_of preferring preferring_orders g.O.Oracle.meaning g.O.Oracle.check_leads g.O.Oracle.grant_leads g.met.O.Oracle.lawful
      g.met.O.Oracle.check_means g.met.O.Oracle.grant_means c.args.oracle c.loop-turn.moments.items c.loop-turn.explainer c.loop-turn.invariant.led;
}
