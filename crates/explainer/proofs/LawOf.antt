-- The law of the listing, from what is known of each call of a run. Assumes nothing.
use Rattle.std.proofs.Common.{Option, Some, ◌≡◌, ℕ, zero, suc, ◌<◌, List, [], ◌∷◌, ◌++◌, length, get_or, Ok, refl, sym, ap, ◌∙◌, subst, append_assoc, arith}
use Rattle.std.specs.Prelude.{IfSome}
use Rattle.std.specs.List.{All}
use Rattle.std.proofs.lemmas.List.Elements.{All-nil, All-contains, Contains-append_left}
use Rattle.oracle.specs.Calls.{Checks, Grants, ChecksMean, GrantsMean}
use Rattle.oracle.specs.Meaning.{Meaning, Lawful}
use Rattle.listing.specs.Lines.{conflict, relaxation, IsDue, IsWhole}
use Rattle.listing.specs.Listings.{IsListing}
use Rattle.listing.specs.Steps.{State}
use Rattle.listing.specs.declared.lines.Line as lines
use Rattle.explainer.specs.AtEach.{AtEach}
use Rattle.explainer.specs.Calls.{listing_in}
use Rattle.explainer.specs.Chains.{LedOn}
use Rattle.explainer.specs.Law.{IsTold, IsTrueAnswer, HoldsAt, LawOfRun}
use Rattle.explainer.specs.Led.{IsLed}
use Rattle.explainer.specs.Moments.{Answer, next_of, lines_answered}
use Rattle.explainer.specs.Preferring.{Order, AreOrders}
use Rattle.explainer.specs.Runs.{HasEnded, IsExact, HasLaw}
use Rattle.explainer.specs.Stages.{Stage, moments, lines_listed, checks_answered}
use Rattle.explainer.specs.StepLaw.{state_at, IsAsFar}
use Rattle.explainer.specs.Tallies.{tally_of}
use Rattle.explainer.specs.declared.asking.Explainer.{Explainer}
use Rattle.explainer.specs.declared.moments.Made.{Made}
use Rattle.explainer.specs.declared.moments.Made.TheVariants.{Next, Grant, Try, Tally}
use Rattle.explainer.specs.declared.moments.Moment.{Moment}
use Rattle.explainer.specs.declared.moments.NextAnswer.TheVariants.{End}
use Rattle.explainer.proofs.AtEachs.{carried, each_weaker}
use Rattle.explainer.proofs.NextFacts.{runs, come_to, next_closes, answer_is_true}
use Rattle.explainer.proofs.NextReads.{IsNext}
use Rattle.explainer.proofs.Stagings.{listed_append}
use Rattle.explainer.proofs.Tracing.{Come, Joins, Known, traced}

-- a whole listing stays whole with more lines behind it
whole_before : (m : Meaning) (xs ys : List lines.Line) → IsWhole m.width m.fit xs
    → IsWhole m.width m.fit (xs ++ ys)
whole_before m xs ys whole = (
  λ s minimal. Contains-append_left xs ys (conflict s) (whole.0 s minimal),
  λ s maximal. Contains-append_left xs ys (relaxation s) (whole.1 s maximal),
)

module _ {O : Type 0} (order : Order) (orders : AreOrders order) (meaning : O → Meaning)
    (checks : Checks O) (grants : Grants O) (lawful : (o : O) → Lawful (meaning o))
    (check_means : ChecksMean meaning checks) (grant_means : GrantsMean meaning grants) (o : O)
  where
    module _ (past : List (Stage O)) (x : Stage O) (k : Known order meaning checks grants o past x)
      where
        -- a NEXT, from the state that the steps have come to
        next_from : (r : Answer)
            → IsNext order (meaning o).width meaning checks (meaning o) (listing_in k.before) k.before.oracle x.told r (listing_in x.stands) x.stands.oracle
            → IsNext order (meaning o).width meaning checks (meaning o) (come_to order (meaning o) k.come.counts) k.before.oracle x.told r (listing_in x.stands) x.stands.oracle
        next_from r next =
            subst (λ (st : State). IsNext order (meaning o).width meaning checks (meaning o) st k.before.oracle x.told r (listing_in x.stands) x.stands.oracle) k.come.listing next

        -- how it led on
        led_on : (made : Made)
            → Joins order meaning checks grants (meaning o) k.before made x.told x.stands
            → LedOn (meaning o).width checks grants k.before.oracle made x.told x.stands.oracle
        led_on (Next r) joins =
            let next = next_from r joins in (
              next.last,
              next.chain,
              next_closes order orders meaning checks check_means (meaning o) (lawful o) k.come.counts k.before.oracle x.told r (listing_in x.stands)
                  x.stands.oracle next,
            )
        led_on (Grant n r) joins = joins
        led_on (Try set r) joins = joins
        led_on (Tally t) joins = (ap (λ (e : Explainer O). e.oracle) joins.1, joins.2)

        nothing_told : x.told ≡ [] → All (IsTold (meaning o)) x.told
        nothing_told nothing =
            subst (All (IsTold (meaning o))) (sym nothing) (All-nil (IsTold (meaning o)))

        -- what it was told
        told_truly : (made : Made)
            → Joins order meaning checks grants (meaning o) k.before made x.told x.stands
            → All (IsTold (meaning o)) x.told
        told_truly (Next r) joins = joins.told_is
        told_truly (Grant n r) joins = nothing_told joins.1
        told_truly (Try set r) joins = nothing_told joins.1
        told_truly (Tally t) joins = nothing_told joins.2

        -- what it answered
        answers_truly : (made : Made)
            → Joins order meaning checks grants (meaning o) k.before made x.told x.stands
            → IfSome (next_of made) (λ r. IsTrueAnswer (meaning o) (lines_listed past) (meaning k.before.oracle).allowance r (meaning x.stands.oracle))
        answers_truly (Next r) joins =
            answer_is_true order orders meaning checks check_means (meaning o) (lawful o) k.come.counts k.before.oracle x.told r (listing_in x.stands)
            x.stands.oracle (next_from r joins) (lines_listed past) (k.come.lines
            ∙ ap (λ (st : State). st.lines) k.come.listing)
            (meaning k.before.oracle).allowance refl
        answers_truly (Grant n r) joins = tt
        answers_truly (Try set r) joins = tt
        answers_truly (Tally t) joins = tt

        tallies_truly : (made : Made)
            → Joins order meaning checks grants (meaning o) k.before made x.told x.stands
            → (t : ℕ × ℕ × ℕ × ℕ × ℕ)
            → made ≡ Tally t → t ≡ tally_of (meaning o).width (lines_listed past) (checks_answered past)
        tallies_truly (Next r) joins t is = absurd (cc)
        tallies_truly (Grant n r) joins t is = absurd (cc)
        tallies_truly (Try set r) joins t is = absurd (cc)
        tallies_truly (Tally u) joins t is =
            let same : t ≡ u = cc in
            same ∙ joins.0
            ∙ ap (λ w. tally_of w (listing_in k.before).lines (listing_in k.before).checks) k.come.width
            ∙ ap (λ ls. tally_of (meaning o).width ls (listing_in k.before).checks) (sym k.come.lines)
            ∙ ap (tally_of (meaning o).width (lines_listed past)) (sym k.come.counted)

        -- so the law holds of it
        holds_at : HoldsAt order meaning checks grants o past x
        holds_at =
            let m0 : Meaning = meaning o in
            let found : x.moment.found ≡ (meaning k.before.oracle).allowance =
            ap (λ (m : Moment). m.found) k.moment in
            let P : Option ℕ → Type 0 =
            λ a. IfSome (next_of x.moment.made)
            (λ r. IsTrueAnswer m0 (lines_listed past) a r (meaning x.stands.oracle)) in
            let Q : O → Type 0 =
            λ p. LedOn m0.width checks grants p x.moment.made x.told x.stands.oracle in
            record {
              found = found ∙ ap (λ (p : O). (meaning p).allowance) k.come.oracle;
              led = subst Q k.come.oracle (led_on x.moment.made k.joins);
              told = told_truly x.moment.made k.joins;
              kept = k.came.kept;
              lines = sym k.came.lines;
              counted = sym k.came.counted;
              count = ap (λ (m : Moment). m.lines) k.moment ∙ ap length (sym k.came.lines);
              listing = subst (IsListing (order m0.width) m0.width m0.fit)
                  (sym (k.came.lines ∙ ap (λ (st : State). st.lines) k.came.listing))
                  (runs.0 (order m0.width) m0.width m0.fit k.came.counts (lawful o).narrow
                  (orders m0.width) (lawful o).downward);
              answer = subst P (sym found) (answers_truly x.moment.made k.joins);
              tally = tallies_truly x.moment.made k.joins;
              bounded = k.came.bounded;
            }

        -- and its lines and checks are those of the steps, as if no check had been refused
        as_far : IsAsFar order (meaning o) (past ++ x ∷ [])
        as_far =
            let m0 : Meaning = meaning o in
            let u : (nexts : ℕ) × (count : ℕ)
            × (come_to order m0 k.came.counts ≡ state_at order m0 nexts count) =
            runs.11 (order m0.width) m0.width m0.fit k.came.counts (lawful o).narrow (orders m0.width) (lawful o).downward in
            let is : listing_in x.stands ≡ state_at order m0 u.0 u.1 = k.came.listing ∙ u.2 in (
              u.0,
              u.1,
              k.came.lines ∙ ap (λ (st : State). st.lines) is,
              k.came.counted
                  ∙ ap (λ (st : State). st.checks) is,
            )

    -- before a NEXT that answered END the listing is whole
    whole_at : (past : List (Stage O)) (x : Stage O) → HoldsAt order meaning checks grants o past x
        → next_of x.moment.made ≡ Some (Ok End)
        → IsWhole (meaning o).width (meaning o).fit (lines_listed past)
    whole_at past x holds ended =
        let P : Option Answer → Type 0 =
        λ n. IfSome n
        (λ r. IsTrueAnswer (meaning o) (lines_listed past) x.moment.found r (meaning x.stands.oracle)) in
        let answer : P (Some (Ok End)) = subst P ended holds.answer in
        answer.ended.0 refl

    -- so it is after a run that had END
    whole_after : (past stages : List (Stage O))
        → AtEach (HoldsAt order meaning checks grants o) past stages
        → (k : ℕ) (x : Moment) → k < length (moments stages) → get_or (moments stages) k x ≡ x
        → next_of x.made ≡ Some (Ok End)
        → IsWhole (meaning o).width (meaning o).fit (lines_listed (past ++ stages))
    whole_after past [] holds k x within here ended = absurd (omega arith)
    whole_after past (y ∷ stages) holds zero x within here ended =
        subst (λ l. IsWhole (meaning o).width (meaning o).fit l) (sym (listed_append past (y ∷ stages)))
        (whole_before (meaning o) (lines_listed past) (lines_listed (y ∷ stages)) (whole_at past y holds.0 (ap (λ (z : Moment). next_of z.made) here ∙ ended)))
    whole_after past (y ∷ stages) holds (suc k) x within here ended =
        subst (λ (l : List (Stage O)). IsWhole (meaning o).width (meaning o).fit (lines_listed l)) (append_assoc past (y ∷ []) stages)
        (whole_after (past ++ y ∷ []) stages holds.1 k x (omega arith) here ended)

    -- a run that had END lists all that there is, and nothing else
    exact_of : (stages : List (Stage O)) → LawOfRun order meaning checks grants o stages
        → HasEnded (moments stages) → IsExact (meaning o) (lines_listed stages)
    exact_of stages law some s =
        let m0 : Meaning = meaning o in
        let whole : IsWhole m0.width m0.fit (lines_listed stages) = whole_after [] stages law some.0 some.1 some.2 some.3 some.4 in
        let due : All (IsDue m0.width m0.fit) (lines_listed stages) =
        carried (λ (past : List (Stage O)). All (IsDue m0.width m0.fit) (lines_listed past)) (HoldsAt order meaning checks grants o)
        (λ past x due holds. holds.listing.due) [] stages (All-nil (IsDue m0.width m0.fit)) law in (
          (λ c. All-contains (IsDue m0.width m0.fit) (lines_listed stages) (conflict s) due c, whole.0 s),
          (λ c. All-contains (IsDue m0.width m0.fit) (lines_listed stages) (relaxation s) due c, whole.1 s),
        )

    -- the law holds of whatever calls lead to where an explainer stands
    pub law_of : (past : List Moment) (b : Explainer O) → IsLed order meaning checks grants o past b
        → HasLaw order meaning checks grants o past b
    law_of past b led =
        let run = traced order orders meaning checks grants lawful check_means grant_means o past b led in
        let stages : List (Stage O) = run.0 in
        let come : Come order meaning o stages b = run.3 in
        let law : LawOfRun order meaning checks grants o stages =
        each_weaker (Known order meaning checks grants o) (HoldsAt order meaning checks grants o) holds_at [] stages run.2 in
        record {
          first = led.first;
          new = led.new;
          stages = stages;
          path = run.4;
          recorded = run.1;
          law = law;
          steps =
              each_weaker (Known order meaning checks grants o) (λ before x. IsAsFar order (meaning o) (before ++ x ∷ [])) as_far [] stages run.2;
          exact =
              subst (λ (l : List Moment). HasEnded l
              → IsExact (meaning o) (lines_answered l)) run.1 (exact_of stages law);
          lines = sym come.lines ∙ ap lines_answered run.1;
          counted = sym come.counted;
          width = come.width;
          oracle = come.oracle;
        }
