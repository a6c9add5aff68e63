-- The laws of the rules in force and of being fit. Assumes nothing.
use Rattle.std.proofs.Common.{◌≡◌, ℕ, ◌<◌, ◌≤◌, true, false, ◌||◌, eqb, leb, Some, None, Option, refl, ap, ◌∙◌, arith}
use Rattle.std.proofs.lemmas.Bool.{cond-true, cond-false, cond_both, and_from, and_left, and_right, or_left, or_right, or_from, le-leb, lt-leb, eq-eqb, ne_eqb}
use Rattle.sets.specs.Requests.{widest, names}
use Rattle.sets.proofs.Weights.{names_past}
use Rattle.rules.specs.Choices.{Meets}
use Rattle.rules.specs.Force.{body_valid, counts_for, if_valid, in_force}
use Rattle.rules.specs.ForceLaws.{SilentNever, NobodyNever, AboveNever, UnsayableNever, HouseAlways, RequestWhere, FitSays, FitTogether, FitDownward, ForceLaws}
use Rattle.rules.specs.declared.Body.{Body}
use Rattle.rules.specs.declared.Kind.TheVariants.{Options, Gaps, Faces}
use Rattle.rules.specs.declared.Rule.{Rule}
use Rattle.rules.proofs.Fewer.{every_fewer, true_yes, yes_true}
use Rattle.rules.proofs.Joined.{fit_joined, fit_kind}

-- a rule whose owner counts says what its body says; one whose owner does not says nothing
pub counted : (s : ℕ) (r : Rule) → counts_for s r.owner ≡ true → in_force s r ≡ if_valid r.body
counted s r there = cond-true (counts_for s r.owner) (if_valid r.body) None there

uncounted : (s : ℕ) (r : Rule) → counts_for s r.owner ≡ false → in_force s r ≡ None
uncounted s r away = cond-false (counts_for s r.owner) (if_valid r.body) None away

-- a request that the set has not does not count
request_away : (s owner : ℕ) → 0 < owner → names s owner ≡ false → counts_for s owner ≡ false
request_away s owner some away =
    and_right (leb owner widest) (eqb owner 0 || names s owner) (or_from (eqb owner 0) (names s owner) (ne_eqb owner 0 (λ none. omega arith)) away)

-- a body that some rule line can say is said, and one that none can say is not
pub said_body : (o : Option Body) (b : Body) → o ≡ Some b → body_valid b ≡ true → if_valid o ≡ Some b
said_body o b same can = ap if_valid same ∙ cond-true (body_valid b) (Some b) None can

unsaid_body : (o : Option Body) (b : Body) → o ≡ Some b → body_valid b ≡ false → if_valid o ≡ None
unsaid_body o b same cannot = ap if_valid same ∙ cond-false (body_valid b) (Some b) None cannot

silent_never : SilentNever
silent_never s r silent =
    cond_both (counts_for s r.owner) (if_valid r.body) None (λ o. o ≡ None) (λ there. ap if_valid silent) (λ away. refl)

nobody_never : NobodyNever
nobody_never s r past = uncounted s r (and_left (leb r.owner widest) (eqb r.owner 0 || names s r.owner) (lt-leb r.owner widest past))

above_never : AboveNever
above_never width s r within past = uncounted s r (request_away s r.owner (omega arith) (names_past width s r.owner within past))

unsayable_never : UnsayableNever
unsayable_never s r b same cannot =
    cond_both (counts_for s r.owner) (if_valid r.body) None (λ o. o ≡ None) (λ there. unsaid_body r.body b same cannot) (λ away. refl)

-- the house counts for every set, and a request for each that has it
pub house_counts : (s owner : ℕ) → owner ≡ 0 → counts_for s owner ≡ true
house_counts s owner house =
    and_from (leb owner widest) (eqb owner 0 || names s owner) (le-leb owner widest (omega arith))
    (or_left (eqb owner 0) (names s owner) (eq-eqb owner 0 house))

pub request_counts : (s owner : ℕ) → owner ≤ widest → names s owner ≡ true → counts_for s owner ≡ true
request_counts s owner few there =
    and_from (leb owner widest) (eqb owner 0 || names s owner) (le-leb owner widest few) (or_right (eqb owner 0) (names s owner) there)

house_always : HouseAlways
house_always s r b house same can = counted s r (house_counts s r.owner house) ∙ said_body r.body b same can

request_where : RequestWhere
request_where s r b some few same can = (
  λ there. counted s r (request_counts s r.owner few there) ∙ said_body r.body b same can,
  λ away. uncounted s r (request_away s r.owner some away),
)

fit_says : FitSays
fit_says k decide rules s = (true_yes (decide rules s), yes_true (decide rules s))

fit_together : FitTogether
fit_together rules s = (
  λ fit. (fit_kind Options rules s fit, fit_kind Gaps rules s fit, fit_kind Faces rules s fit),
  λ each. fit_joined rules s each.0 each.1 each.2,
)

fit_downward : FitDownward
fit_downward rules t s part fit = (fit.0, every_fewer (Meets fit.0) t s rules part fit.1)

pub force_laws : ForceLaws
force_laws = (silent_never, nobody_never, above_never, unsayable_never, house_always, request_where, fit_says, fit_together, fit_downward)
