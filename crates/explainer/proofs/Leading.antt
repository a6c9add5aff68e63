-- A run with one call more at its end; and the run that a law is of. Assumes nothing.
use Rattle.std.proofs.Common.{◌≡◌, List, [], ◌∷◌, ◌++◌, refl, subst}
use Rattle.oracle.specs.Calls.{Checks, Grants}
use Rattle.oracle.specs.Meaning.{Meaning}
use Rattle.explainer.specs.Calls.{IsNew, Does, moment_of}
use Rattle.explainer.specs.Led.{Leads, IsLed, IsPath}
use Rattle.explainer.specs.Preferring.{Order}
use Rattle.explainer.specs.Runs.{HasLaw}
use Rattle.explainer.specs.Stages.{Stage, moments}
use Rattle.explainer.specs.declared.asking.Explainer.{Explainer}
use Rattle.explainer.specs.declared.moments.Moment.{Moment}

module _ {O : Type 0} (order : Order) (meaning : O → Meaning) (checks : Checks O)
    (grants : Grants O) where
  leads_push : (past : List Moment) (a m b : Explainer O) (x : Moment)
      → Leads order meaning checks grants a past m
      → Does order checks grants m x.made b → x ≡ moment_of meaning m x.made b
      → Leads order meaning checks grants a (past ++ x ∷ []) b
  leads_push [] a m b x leads does is =
      subst (λ (e : Explainer O). Leads order meaning checks grants e (x ∷ []) b) leads (b, does, is, refl)
  leads_push (y ∷ past) a m b x leads does is =
      (leads.0, leads.1, leads.2, leads_push past leads.0 m b x leads.3 does is)

  pub led_new : (o : O) (a : Explainer O) → IsNew meaning o a
      → IsLed order meaning checks grants o [] a
  led_new o a new = record { first = a; new = new; leads = refl }

  pub led_push : (o : O) (past : List Moment) (m b : Explainer O) (x : Moment)
      → IsLed order meaning checks grants o past m
      → Does order checks grants m x.made b → x ≡ moment_of meaning m x.made b
      → IsLed order meaning checks grants o (past ++ x ∷ []) b
  led_push o past m b x led does is =
      record { first = led.first; new = led.new; leads = leads_push past led.first m b x led.leads does is }

  -- the calls of a path, as they are recorded
  path_leads : (a : Explainer O) (stages : List (Stage O)) (b : Explainer O)
      → IsPath order meaning checks grants a stages b
      → Leads order meaning checks grants a (moments stages) b
  path_leads a [] b path = path
  path_leads a (x ∷ stages) b path =
      (x.stands, path.0, path.1, path_leads x.stands stages b path.2)

  -- so the calls that the law is of led to where the explainer stands
  pub led_by : (o : O) (past : List Moment) (b : Explainer O)
      → HasLaw order meaning checks grants o past b → IsLed order meaning checks grants o past b
  led_by o past b law = record {
    first = law.first;
    new = law.new;
    leads =
        subst (λ (l : List Moment). Leads order meaning checks grants law.first l b) law.recorded
        (path_leads law.first law.stages b law.path);
  }
