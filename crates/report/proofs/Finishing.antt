-- A run of NEXT until one answers no line, over a quota of an oracle whose checks are endless, ends
-- as the steps do with all checks from the first on, and in their state. Assumes nothing.
use Rattle.std.proofs.Common.{◌≡◌, ℕ, zero, suc, ◌+◌, ◌-◌, ◌≤◌, min, List, [], ◌∷◌, ◌++◌, length, Option, Some, None, Ok, Err}
use Rattle.std.proofs.Common.{inl, inr, refl, sym, ap, ◌∙◌, subst, append-nil, append_assoc, arith}
use Rattle.std.specs.Prelude.{IsSomeAnd}
use Rattle.oracle.specs.Calls.{Checks, Grants, ChecksMean, GrantsMean}
use Rattle.oracle.specs.Meaning.{Meaning, Lawful, Kept, limit}
use Rattle.oracle.specs.declared.CheckRefusal.{CheckRefusal}
use Rattle.oracle.specs.declared.CheckRefusal.TheVariants as check
use Rattle.oracle.proofs.Checks.{kept}
use Rattle.layers.specs.AskedLaws.{Took, QuotaTakes}
use Rattle.layers.specs.Calls.{QuotaChecks, QuotaGrants}
use Rattle.layers.specs.Laws.{quota_lawful}
use Rattle.layers.specs.Meant.{quota_meaning}
use Rattle.layers.specs.QuotaLaws.{quota_checks_mean, quota_takes}
use Rattle.layers.specs.declared.quota.Quota.{Quota}
use Rattle.listing.specs.RunLaws.{IsNotRefused}
use Rattle.listing.specs.Steps.{State, start}
use Rattle.listing.specs.Turns.{Said, listed, all_listed, no_room, refused, Turn}
use Rattle.explainer.specs.AtEach.{AtEach}
use Rattle.explainer.specs.Calls.{width_of, listing_in, IsNew, NextDone, Does}
use Rattle.explainer.specs.Chains.{Told}
use Rattle.explainer.specs.Choosing.{after_line, until_end, HasStopped}
use Rattle.explainer.specs.Led.{Leads, IsLed}
use Rattle.explainer.specs.Moments.{Answer, call_of, next_of, last_made}
use Rattle.explainer.specs.Nexts.{NextLeads}
use Rattle.explainer.specs.Preferring.{preferring}
use Rattle.explainer.specs.Runs.{EndsListing}
use Rattle.explainer.specs.declared.asking.Explainer.{Explainer}
use Rattle.explainer.specs.declared.moments.Call.{Call}
use Rattle.explainer.specs.declared.moments.Call.TheVariants as call
use Rattle.explainer.specs.declared.moments.Made.{Made}
use Rattle.explainer.specs.declared.moments.Made.TheVariants.{Next}
use Rattle.explainer.specs.declared.moments.Moment.{Moment}
use Rattle.explainer.specs.declared.moments.NextAnswer.TheVariants.{Line, End}
use Rattle.explainer.specs.declared.moments.NextRefusal.TheVariants.{Full, Spent}
use Rattle.explainer.proofs.Leading.{led_by}
use Rattle.explainer.proofs.LastMade.{last_push, until_last, until_push}
use Rattle.explainer.proofs.NextFacts.{runs, come_to, next_keeps, refused_is}
use Rattle.explainer.specs.NextLaw.{Answers}
use Rattle.explainer.proofs.NextNumbers.{full_is, passed_on, passed_is}
use Rattle.explainer.proofs.NextReads.{turn_of, IsNext, next_read}
use Rattle.explainer.proofs.Preferred.{preferring_orders}
use Rattle.explainer.proofs.Stagings.{after_append}
use Rattle.explainer.proofs.UntilEnds.{IsMadeNext, made_next, until_end_ended}
use Rattle.report.specs.Ends.{Finished, ends, ended_by, finish, most_turns, finished}
use Rattle.report.specs.LastCall.{ended_next, ended_made}
use Rattle.report.specs.PileRuns.{IsPileRun, EndsAsSteps}
use Rattle.report.specs.Piles.{own_label}
use Rattle.report.specs.declared.texts.Ended.{Ended}
use Rattle.report.specs.declared.texts.Ended.TheVariants as how
use Rattle.report.proofs.Taking.{IsEndless, chain_takes}

-- after a call that ended the listing none is chosen
none_after : (n : Option Answer) → EndsListing n → after_line n ≡ None
none_after None ends = absurd ends
none_after (Some (Ok (Line x))) (inl ended) = absurd (cc)
none_after (Some (Ok (Line x))) (inr (inl full)) = absurd (cc)
none_after (Some (Ok (Line x))) (inr (inr spent)) = let none = spent.1 in absurd (cc)
none_after (Some (Ok End)) ends = refl
none_after (Some (Err e)) ends = refl

stops_then : (past : List Moment) (last : Option Made) → last_made past ≡ last → IsSomeAnd last (λ made. EndsListing (next_of made)) → until_end past ≡ None
stops_then past None is ended = absurd ended
stops_then past (Some made) is ended = until_last past made is ∙ none_after (next_of made) ended

-- a run that has stopped has so many calls at most
few_then : (most : ℕ) (past : List Moment) → HasStopped until_end most past → length past ≤ most
few_then most past (inl full) = omega (arith, full)
few_then most past (inr ended) = omega (arith, ended.0)

-- what is answered to NEXT where the steps say this, and a check is refused with the label of a ticket
AnswersOwn : Said → Answer → Type 0
AnswersOwn (listed x) r = r ≡ Ok (Line x)
AnswersOwn all_listed r = r ≡ Ok End
AnswersOwn no_room r = r ≡ Err Full
AnswersOwn (refused s) r = r ≡ Err (Spent own_label)

module _ {B : Type 0} (meaning : B → Meaning) (checks : Checks B) (grants : Grants B)
    (lawful : (b : B) → Lawful (meaning b)) (check_means : ChecksMean meaning checks)
    (grant_means : GrantsMean meaning grants) (pile : Quota B) (own : pile.label ≡ own_label)
    (endless : IsEndless meaning pile) where
  abbrev means : Quota B → Meaning
  means = quota_meaning meaning

  abbrev asks : Checks (Quota B)
  asks = QuotaChecks meaning checks

  abbrev m0 : Meaning
  m0 = means pile

  law : Lawful m0
  law = quota_lawful pile.number pile.label (meaning pile.below) pile.counted pile.labelled (lawful pile.below)

  asks_mean : ChecksMean means asks
  asks_mean o s r p h = quota_checks_mean meaning checks check_means o p s r h

  takes : QuotaTakes meaning checks
  takes = quota_takes meaning checks check_means

  -- where an explainer over the pile stands: as the steps have come to over what the pile meant at first, with as many
  -- checks left as were not answered
  record Stands (a : Explainer (Quota B)) : Type 0 where
    counts : List ℕ
    listing : listing_in a ≡ come_to preferring m0 counts
    width : width_of a ≡ m0.width
    kept : Kept m0 (means a.oracle)
    left : pile.number ≡ a.oracle.number + (listing_in a).checks
    label : a.oracle.label ≡ own_label
    endless_still : IsEndless meaning a.oracle

  stands_new : (a : Explainer (Quota B)) → IsNew means pile a → Stands a
  stands_new a new = record {
    counts = [];
    listing = new.listing;
    width = new.width;
    kept = subst (λ (q : Quota B). Kept m0 (means q)) (sym new.oracle) (kept m0);
    left = omega (arith, ap (λ (q : Quota B). q.number) new.oracle, ap (λ (st : State). st.checks) new.listing);
    label = ap (λ (q : Quota B). q.label) new.oracle ∙ own;
    endless_still = ap (λ (q : Quota B). (meaning q.below).allowance) new.oracle ∙ endless;
  }

  module _ (a b : Explainer (Quota B)) (stands : Stands a) (told : List Told) (r : Answer)
      (width : width_of b ≡ width_of a)
      (next : IsNext preferring m0.width means asks m0 (come_to preferring m0 stands.counts) a.oracle told r (listing_in b) b.oracle)
    where
      abbrev came : State
      came = come_to preferring m0 stands.counts

      -- the steps with as many checks as were answered, and with all that were left
      abbrev some : Turn
      some = turn_of preferring m0.width m0 (length told) came

      abbrev of_all : Turn
      of_all = turn_of preferring m0.width m0 (pile.number - came.checks) came

      taken : (a.oracle.number ≡ next.last.number + length told)
          × (next.last.label ≡ a.oracle.label) × IsEndless meaning next.last
      taken = chain_takes meaning checks takes told a.oracle next.last stands.endless_still next.chain

      checks_are : (listing_in a).checks ≡ came.checks
      checks_are = ap (λ (s : State). s.checks) stands.listing

      left_over : length told + next.last.number ≡ pile.number - came.checks
      left_over = omega (arith, taken.0, stands.left, checks_are)

      -- with no check refused the steps say and leave the same with all that were left
      more_is_same : IsNotRefused some.said → of_all ≡ some
      more_is_same told_is =
          ap (λ n. turn_of preferring m0.width m0 n came) (sym left_over)
          ∙ runs.10 (preferring m0.width) m0.width m0.fit (length told) next.last.number came told_is

      -- a refused check was refused because nothing was left, with the label of the ticket, and all that were left were
      -- answered
      refused_took : (s : ℕ) (e : CheckRefusal) → e ≡ check.Spent (means next.last).label → asks next.last s (Err e) b.oracle
          → (b.oracle ≡ next.last) × (e ≡ check.Spent own_label) × (next.last.number ≡ 0)
      refused_took s check.Outside is h = absurd (cc)
      refused_took s (check.Spent l) is h =
          let took : Took (Err (check.Spent l)) next.last b.oracle = (takes next.last b.oracle s (Err (check.Spent l)) taken.2 h).0 in
          let own_one = took.1 l refl in
          (took.0, ap (λ x. check.Spent x) (own_one.0 ∙ taken.1 ∙ stands.label), own_one.1)

      refused_so : (s : ℕ) → some.said ≡ refused s → (e : CheckRefusal) → asks next.last s (Err e) b.oracle
          → (b.oracle ≡ next.last) × (e ≡ check.Spent own_label) × (next.last.number ≡ 0)
      refused_so s is e h =
          refused_took s e
          (refused_is preferring preferring_orders means asks asks_mean m0 law stands.counts a.oracle told r (listing_in b) b.oracle next s is e h).1 h

      -- so in each case, by what the steps say: with all that were left they say and leave the same; the answer is so; and
      -- the oracle is the one after the answered checks
      by_said : (x : Said) → some.said ≡ x → Answers asks next.last x r b.oracle → (of_all ≡ some) × AnswersOwn x r × (b.oracle ≡ next.last)
      unfolding AnswersOwn
      by_said (listed l) is answer = (more_is_same (subst IsNotRefused (sym is) tt), answer.0, answer.1)
      by_said all_listed is answer = (more_is_same (subst IsNotRefused (sym is) tt), answer.0, answer.1)
      by_said no_room is answer =
          (more_is_same (subst IsNotRefused (sym is) tt), full_is r answer.0, answer.1)
      by_said (refused s) is answer =
          let took = refused_so s is answer.0 answer.1 in
          let all : pile.number - came.checks ≡ length told = omega (arith, left_over, took.2) in (
            ap (λ n. turn_of preferring m0.width m0 n came) all,
            passed_is r answer.0 answer.2 ∙ ap (λ e. Err (passed_on e)) took.1,
            took.0,
          )

      went : (of_all ≡ some) × AnswersOwn some.said r × (b.oracle ≡ next.last)
      went = by_said some.said refl next.said

      said_own : AnswersOwn of_all.said r
      said_own = subst (λ (t : Turn). AnswersOwn t.said r) (sym went.0) went.1

      left_is : of_all.left ≡ listing_in b
      left_is = ap (λ (t : Turn). t.left) went.0 ∙ next.left

      -- and the explainer stands there
      stands_next : Stands b
      stands_next = record {
        counts = stands.counts ++ length told ∷ [];
        listing = sym next.left ∙ sym (after_append (preferring m0.width) m0.width m0.fit stands.counts (length told ∷ []) start);
        width = width ∙ stands.width;
        kept = next_keeps preferring preferring_orders means asks asks_mean m0 law stands.counts a.oracle told r (listing_in b) b.oracle next;
        left = omega (
          arith,
          taken.0,
          stands.left,
          checks_are,
          next.grown,
          ap (λ (s : State). s.checks) next.left,
          ap (λ (q : Quota B). q.number) went.2,
        );
        label = ap (λ (q : Quota B). q.label) went.2 ∙ taken.1 ∙ stands.label;
        endless_still = ap (λ (q : Quota B). (meaning q.below).allowance) went.2 ∙ taken.2;
      }

  -- a NEXT that an explainer made: as above, read off its calls
  module _ (a b : Explainer (Quota B)) (stands : Stands a) (r : Answer)
      (done : NextDone preferring asks a r b) where
    read : (told : List Told) × IsNext preferring m0.width means asks m0 (come_to preferring m0 stands.counts) a.oracle told r (listing_in b) b.oracle
    read =
        let leads : NextLeads preferring m0.width asks done.told (listing_in a) a.oracle r (listing_in b) b.oracle =
        subst (λ (w : ℕ). NextLeads preferring w asks done.told (listing_in a) a.oracle r (listing_in b) b.oracle) stands.width done.leads in
        next_read preferring m0.width means asks asks_mean m0 done.told (come_to preferring m0 stands.counts) a.oracle r (listing_in b) b.oracle stands.kept
        (subst (λ (s : State). NextLeads preferring m0.width asks done.told s a.oracle r (listing_in b) b.oracle) stands.listing leads)

    -- the steps with all that were left
    abbrev then : Turn
    then = turn_of preferring m0.width m0 (pile.number - (come_to preferring m0 stands.counts).checks) (come_to preferring m0 stands.counts)

    next_went : AnswersOwn then.said r × (then.left ≡ listing_in b) × Stands b
    next_went = (
      said_own a b stands read.0 r done.width read.1,
      left_is a b stands read.0 r done.width read.1,
      stands_next a b stands read.0 r done.width read.1,
    )

  -- how a listing finishes from a state
  from : (turns : ℕ) → State → Finished
  from turns st = finish m0.width m0.fit pile.number turns st

  -- the calls that are chosen, from some on
  Chosen : List Moment → List Moment → Type 0
  Chosen past xs = AtEach (λ before x. until_end before ≡ Some (call_of x.made)) past xs

  -- what is to be shown of the calls from some on: how the steps finish from where the explainer stands, and that the last
  -- call tells so
  Ends : (turns : ℕ) (past xs : List Moment) → State → State → Type 0
  Ends turns past xs st end = (e : Ended) × (from turns st ≡ ends e end) × (ended_made (last_made (past ++ xs)) ≡ Some e)

  -- after a NEXT that answers no line no call is made
  no_more : (past : List Moment) (x : Moment) (xs : List Moment) → after_line (next_of x.made) ≡ None → Chosen (past ++ x ∷ []) xs → xs ≡ []
  unfolding Chosen
  no_more past x [] none chosen = refl
  no_more past x (y ∷ xs) none chosen =
      let two : ◌≡◌ {A = Option Call} None (Some (call_of y.made)) = sym none ∙ sym (until_push past x) ∙ chosen.0 in absurd (cc)

  -- so such a NEXT ends both
  ends_both : (turns : ℕ) (past : List Moment) (x : Moment) (xs : List Moment) (st : State) (m b : Explainer (Quota B)) (e : Ended) (r : Answer)
      → x.made ≡ Next r → after_line (Some r) ≡ None → ended_next (Some r) ≡ Some e → from turns st ≡ ends e (listing_in m)
      → Chosen (past ++ x ∷ []) xs → Leads preferring means asks (QuotaGrants grants) m xs b → Ends turns past (x ∷ xs) st (listing_in b)
  unfolding Ends
  ends_both turns past x xs st m b e r is none ended so chosen leads =
      let last : xs ≡ [] = no_more past x xs (ap (λ made. after_line (next_of made)) is ∙ none) chosen in
      let here : b ≡ m = subst (λ l. Leads preferring means asks (QuotaGrants grants) m l b) last leads in (
        e,
        so ∙ ap (λ (q : Explainer (Quota B)). ends e (listing_in q)) (sym here),
        ap (λ l. ended_made (last_made (past ++ x ∷ l))) last ∙ ap ended_made (last_push past x) ∙ ap (λ made. ended_next (next_of made)) is ∙ ended,
      )

  -- by what the steps say of a NEXT that was made
  ends_by : (turns : ℕ) (past : List Moment) (x : Moment) (xs : List Moment) (st : State) (t : Turn) (m b : Explainer (Quota B)) (r : Answer)
      → (said : Said) → t.said ≡ said → x.made ≡ Next r → AnswersOwn said r → t.left ≡ listing_in m
      → from (suc turns) st ≡ ended_by said t.left (from turns)
      → (until_end (past ++ x ∷ []) ≡ Some call.Next → Ends turns (past ++ x ∷ []) xs (listing_in m) (listing_in b))
      → Chosen (past ++ x ∷ []) xs → Leads preferring means asks (QuotaGrants grants) m xs b → Ends (suc turns) past (x ∷ xs) st (listing_in b)
  unfolding AnswersOwn Ends
  ends_by turns past x xs st t m b r (listed l) said is answer left so onward chosen leads =
      let goes : until_end (past ++ x ∷ []) ≡ Some call.Next =
      until_push past x ∙ ap (λ made. after_line (next_of made)) is ∙ ap (λ q. after_line (Some q)) answer in
      let rest = onward goes in
      (rest.0, so ∙ ap (from turns) left ∙ rest.1, ap (λ (l : List Moment). ended_made (last_made l)) (sym (append_assoc past (x ∷ []) xs)) ∙ rest.2)
  ends_by turns past x xs st t m b r all_listed said is answer left so onward chosen leads =
      ends_both (suc turns) past x xs st m b how.All r is (ap (λ q. after_line (Some q)) answer) (ap (λ q. ended_next (Some q)) answer)
      (so ∙ ap (ends how.All) left) chosen leads
  ends_by turns past x xs st t m b r no_room said is answer left so onward chosen leads =
      ends_both (suc turns) past x xs st m b how.Full r is (ap (λ q. after_line (Some q)) answer) (ap (λ q. ended_next (Some q)) answer)
      (so ∙ ap (ends how.Full) left) chosen leads
  ends_by turns past x xs st t m b r (refused s) said is answer left so onward chosen leads =
      ends_both (suc turns) past x xs st m b (how.Spent own_label) r is (ap (λ q. after_line (Some q)) answer)
      (ap (λ q. ended_next (Some q)) answer) (so ∙ ap (ends (how.Spent own_label)) left) chosen leads

  -- so it is with any calls
  ends_from : (xs : List Moment) (turns : ℕ) (past : List Moment) (a b : Explainer (Quota B)) → Stands a → length xs ≤ turns
      → until_end past ≡ Some call.Next → until_end (past ++ xs) ≡ None → Chosen past xs
      → Leads preferring means asks (QuotaGrants grants) a xs b → Ends turns past xs (listing_in a) (listing_in b)
  unfolding Chosen Ends from finish
  ends_from [] turns past a b stands few goes stops chosen leads =
      let two : ◌≡◌ {A = Option Call} (Some call.Next) None = sym goes ∙ ap until_end (sym (append-nil past)) ∙ stops in absurd (cc)
  ends_from (x ∷ xs) zero past a b stands few goes stops chosen leads = absurd (omega (arith, few))
  ends_from (x ∷ xs) (suc turns) past a b stands few goes stops chosen leads =
      let two : ◌≡◌ {A = Option Call} (Some (call_of x.made)) (Some call.Next) = sym chosen.0 ∙ goes in
      let next : IsMadeNext x.made = made_next x.made (cc) in
      let done : NextDone preferring asks a next.0 leads.0 =
      subst (λ (made : Made). Does preferring asks (QuotaGrants grants) a made leads.0) next.1 leads.1 in
      let st : State = come_to preferring m0 stands.counts in
      let then : Turn = turn_of preferring m0.width m0 (pile.number - st.checks) st in
      let went = next_went a leads.0 stands next.0 done in
      ends_by turns past x xs (listing_in a) then leads.0 b next.0 then.said refl next.1 went.0 went.1
      (ap (finish m0.width m0.fit pile.number (suc turns)) stands.listing)
      (λ on.
      ends_from xs turns (past ++ x ∷ []) leads.0 b went.2 (omega (arith, few)) on (ap until_end (append_assoc past (x ∷ []) xs) ∙ stops) chosen.1 leads.3)
      chosen.1 leads.3

-- a run over a quota of an oracle: how it ended, and that the steps end so in the same state
module _ {B : Type 0} (meaning : B → Meaning) (checks : Checks B) (grants : Grants B)
    (lawful : (b : B) → Lawful (meaning b)) (check_means : ChecksMean meaning checks)
    (grant_means : GrantsMean meaning grants)
  where
    pub finished_as : (below : B) (count : ℕ) (past : List Moment) (b : Explainer (Quota B))
        → (meaning below).allowance ≡ None
        → IsPileRun meaning checks grants below count most_turns past b
        → EndsAsSteps meaning below count past b
    unfolding Chosen Ends from
    finished_as below count past b endless run =
        let q : Quota B = run.pile in
        let still : IsEndless meaning q =
        ap (λ (p : B). (meaning p).allowance) run.quota.below ∙ endless in
        let led : IsLed preferring (quota_meaning meaning) (QuotaChecks meaning checks)
        (QuotaGrants grants) q past b =
        led_by preferring (quota_meaning meaning) (QuotaChecks meaning checks) (QuotaGrants grants) q past b
        run.run.law in
        let stops : until_end past ≡ None =
        stops_then past (last_made past) refl
        (until_end_ended preferring (quota_meaning meaning) (QuotaChecks meaning checks) (QuotaGrants grants) most_turns q past b (omega arith) run.run) in
        let stands = stands_new meaning checks grants lawful check_means grant_means q run.quota.label still led.first led.new in
        let so = ends_from meaning checks grants lawful check_means grant_means q run.quota.label still past most_turns [] led.first b stands
        (few_then most_turns past run.run.stopped) refl stops run.run.chosen led.leads in
        record {
          ended = so.0;
          finishes = ap (λ (p : B). finished (meaning p).width (meaning p).fit (min count limit)) (sym run.quota.below)
              ∙ ap (finished (meaning q.below).width (meaning q.below).fit) (sym run.quota.number)
              ∙ ap (finish (meaning q.below).width (meaning q.below).fit q.number most_turns) (sym led.new.listing)
              ∙ so.1;
          told = so.2;
        }
