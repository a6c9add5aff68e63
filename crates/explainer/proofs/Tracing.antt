-- A run, call by call: where the explainer stands after each, as the steps have it. Assumes
-- nothing.
use Rattle.std.proofs.Common.{◌≡◌, ℕ, ◌≤◌, List, [], ◌∷◌, ◌++◌, length, Option, Some, None, refl, sym, ap, ◌∙◌, subst, append_assoc, append-nil, arith}
use Rattle.sets.specs.Sets.{bits_of}
use Rattle.oracle.specs.Asking.{Taken, Grown}
use Rattle.oracle.specs.Calls.{Checks, Grants, ChecksMean, GrantsMean}
use Rattle.oracle.specs.Meaning.{Meaning, Lawful, Kept}
use Rattle.oracle.proofs.Checks.{kept, kept_on, leaves_kept}
use Rattle.listing.specs.Bill.{bound}
use Rattle.listing.specs.Steps.{State, start}
use Rattle.listing.specs.Turns.{Turn}
use Rattle.explainer.specs.AtEach.{AtEach}
use Rattle.explainer.specs.Calls.{width_of, listing_in, IsNew, Does, moment_of}
use Rattle.explainer.specs.Chains.{Told}
use Rattle.explainer.specs.Law.{IsBounded, KeepsToBound}
use Rattle.explainer.specs.Led.{Leads, IsLed, IsPath}
use Rattle.explainer.specs.Moments.{Answer, next_of, line_of, later_or, last_next, IsNotSpent}
use Rattle.explainer.specs.Nexts.{NextLeads}
use Rattle.explainer.specs.Preferring.{Order, AreOrders}
use Rattle.explainer.specs.Stages.{Stage, moments, oracle_after, lines_listed, checks_answered}
use Rattle.explainer.specs.Tallies.{tally_of}
use Rattle.explainer.specs.declared.asking.Explainer.{Explainer}
use Rattle.explainer.specs.declared.moments.Made.{Made}
use Rattle.explainer.specs.declared.moments.Made.TheVariants.{Next, Grant, Try, Tally}
use Rattle.explainer.specs.declared.moments.Moment.{Moment}
use Rattle.explainer.specs.declared.progress.Progress.{Progress}
use Rattle.explainer.specs.Holding.{state_of}
use Rattle.explainer.proofs.NextFacts.{come_to, next_keeps, next_lines, next_bounded}
use Rattle.explainer.proofs.NextReads.{turn_of, IsNext, next_read}
use Rattle.explainer.proofs.Stagings.{oracle_push, lines_push, checks_push, last_next_push, after_append}

-- where an explainer stands after some calls: its listing is one that the steps come to over the
-- width and the verdict at first; it has the lines that were answered, and the number of the
-- checks; and these keep to the bound
pub record Come {O : Type 0} (order : Order) (meaning : O → Meaning) (o : O) (past : List (Stage O))
    (a : Explainer O) : Type 0 where
  pub counts : List ℕ
  pub listing : listing_in a ≡ come_to order (meaning o) counts
  pub width : width_of a ≡ (meaning o).width
  pub oracle : a.oracle ≡ oracle_after o past
  pub kept : Kept (meaning o) (meaning a.oracle)
  pub lines : lines_listed past ≡ (listing_in a).lines
  pub counted : checks_answered past ≡ (listing_in a).checks
  pub bounded : KeepsToBound (meaning o).width past

-- how a call joins two explainers: a NEXT, by what it was told; another call leaves the listing
abbrev pub Joins : {O : Type 0} → Order → (O → Meaning) → Checks O → Grants O → Meaning
    → Explainer O → Made → List Told → Explainer O → Type 0
Joins order meaning checks grants m0 a (Next r) told b =
    IsNext order m0.width meaning checks m0 (listing_in a) a.oracle told r (listing_in b) b.oracle
Joins order meaning checks grants m0 a (Grant k r) told b =
    grants a.oracle k r b.oracle × (told ≡ [])
Joins order meaning checks grants m0 a (Try set r) told b =
    checks a.oracle (bits_of set) r b.oracle × (told ≡ [])
Joins order meaning checks grants m0 a (Tally t) told b =
    (t ≡ tally_of (width_of a) (listing_in a).lines (listing_in a).checks) × (b ≡ a) × (told ≡ [])

-- a call that was recorded, the explainer after it, and what was told
abbrev pub stage_of : {O : Type 0} → Moment → Explainer O → List Told → Stage O
stage_of x b told = record { moment = x; stands = b; told = told }

-- what is known of a call: where the explainer stood, and how it came to where it stands
pub record Known {O : Type 0} (order : Order) (meaning : O → Meaning) (checks : Checks O)
    (grants : Grants O) (o : O) (past : List (Stage O)) (x : Stage O) : Type 0 where
  pub before : Explainer O
  pub come : Come order meaning o past before
  pub came : Come order meaning o (past ++ x ∷ []) x.stands
  pub moment : x.moment ≡ moment_of meaning before x.moment.made x.stands
  pub joins : Joins order meaning checks grants (meaning o) before x.moment.made x.told x.stands

module _ {O : Type 0} (order : Order) (orders : AreOrders order) (meaning : O → Meaning)
    (checks : Checks O) (grants : Grants O) (lawful : (o : O) → Lawful (meaning o))
    (check_means : ChecksMean meaning checks) (grant_means : GrantsMean meaning grants) (o : O)
  where
    -- before the first call
    pub come_new : (a : Explainer O) → IsNew meaning o a → Come order meaning o [] a
    come_new a new = record {
      counts = [];
      listing = new.listing;
      width = new.width;
      oracle = new.oracle;
      kept = subst (λ (p : O). Kept (meaning o) (meaning p)) (sym new.oracle) (kept (meaning o));
      lines = ap (λ (st : State). st.lines) (sym new.listing);
      counted = ap (λ (st : State). st.checks) (sym new.listing);
      bounded = omega arith;
    }

    module _ (past : List (Stage O)) (a : Explainer O) (come : Come order meaning o past a)
        (x : Stage O) where
      -- a call that is no NEXT, leaves the listing and keeps width and verdict
      stays : next_of x.moment.made ≡ None → x.stands.progress ≡ a.progress → x.told ≡ []
          → Kept (meaning a.oracle) (meaning x.stands.oracle)
          → Come order meaning o (past ++ x ∷ []) x.stands
      stays no_next same nothing keeps =
          let st : listing_in x.stands ≡ listing_in a = ap state_of same in
          let lines : lines_listed (past ++ x ∷ []) ≡ lines_listed past =
          lines_push past x ∙ ap (λ n. lines_listed past ++ line_of n) no_next
          ∙ append-nil (lines_listed past) in
          let count : checks_answered (past ++ x ∷ []) ≡ checks_answered past = omega (arith, checks_push past x, ap length nothing) in
          let before : Option Answer = last_next None (moments past) in
          let last : last_next None (moments (past ++ x ∷ [])) ≡ before =
          last_next_push None past x ∙ ap (later_or before) no_next in
          record {
            counts = come.counts;
            listing = st ∙ come.listing;
            width = ap (λ (p : Progress). p.search.width) same ∙ come.width;
            oracle = sym (oracle_push o past x);
            kept = kept_on (meaning o) (meaning a.oracle) (meaning x.stands.oracle) come.kept keeps;
            lines = lines ∙ come.lines ∙ ap (λ (s : State). s.lines) (sym st);
            counted = count ∙ come.counted ∙ ap (λ (s : State). s.checks) (sym st);
            bounded =
                subst (λ n. IsBounded n (checks_answered (past ++ x ∷ [])) (bound (meaning o).width (lines_listed (past ++ x ∷ [])))) (sym last)
                (subst (λ ls. IsBounded before (checks_answered (past ++ x ∷ [])) (bound (meaning o).width ls)) (sym lines)
                (subst (λ k. IsBounded before k (bound (meaning o).width (lines_listed past))) (sym count) come.bounded));
          }

      -- a NEXT, which goes on from what the steps have come to
      module _ (r : Answer) (is : x.moment.made ≡ Next r) (same_width : width_of x.stands ≡ width_of a)
          (next : IsNext order (meaning o).width meaning checks (meaning o) (listing_in a) a.oracle x.told r (listing_in x.stands) x.stands.oracle)
        where
          from_steps : IsNext order (meaning o).width meaning checks (meaning o) (come_to order (meaning o) come.counts) a.oracle x.told r (listing_in x.stands) x.stands.oracle
          from_steps =
              subst (λ (st : State). IsNext order (meaning o).width meaning checks (meaning o) st a.oracle x.told r (listing_in x.stands) x.stands.oracle) come.listing next

          stepped : Turn
          stepped = turn_of order (meaning o).width (meaning o) (length x.told) (come_to order (meaning o) come.counts)

          went : Come order meaning o (past ++ x ∷ []) x.stands
          unfolding stepped
          went =
              let m0 : Meaning = meaning o in
              let left : stepped.left ≡ listing_in x.stands = from_steps.left in
              let lines : lines_listed (past ++ x ∷ []) ≡ (listing_in x.stands).lines =
              lines_push past x
              ∙ ap (λ made. lines_listed past ++ line_of (next_of made)) is
              ∙ ap (λ ls. ls ++ line_of (Some r)) (come.lines
              ∙ ap (λ (s : State). s.lines) come.listing)
              ∙ next_lines order orders meaning checks check_means m0 (lawful o) come.counts a.oracle x.told r (listing_in x.stands) x.stands.oracle from_steps
              ∙ ap (λ (s : State). s.lines) left in
              let count : checks_answered (past ++ x ∷ []) ≡ (listing_in x.stands).checks =
              omega (
                arith,
                checks_push past x,
                come.counted,
                from_steps.grown,
                ap (λ (s : State). s.checks) come.listing,
                ap (λ (s : State). s.checks) left,
              ) in
              let last : Some r ≡ last_next None (moments (past ++ x ∷ [])) =
              sym (last_next_push None past x
              ∙ ap (λ made. later_or (last_next None (moments past)) (next_of made)) is) in
              let bounded : IsNotSpent r
              → checks_answered (past ++ x ∷ []) ≤ bound m0.width (lines_listed (past ++ x ∷ [])) =
              λ unspent. omega (
                arith,
                next_bounded order orders meaning checks check_means m0 (lawful o) come.counts a.oracle x.told r (listing_in x.stands) x.stands.oracle from_steps unspent,
                count,
                ap (λ (s : State). s.checks) left,
                ap (bound m0.width) (lines ∙ ap (λ (s : State). s.lines) (sym left)),
              ) in
              record {
                counts = come.counts ++ length x.told ∷ [];
                listing =
                    sym left ∙ sym (after_append (order m0.width) m0.width m0.fit come.counts (length x.told ∷ []) start);
                width = same_width ∙ come.width;
                oracle = sym (oracle_push o past x);
                kept =
                    next_keeps order orders meaning checks check_means m0 (lawful o) come.counts a.oracle x.told r (listing_in x.stands) x.stands.oracle from_steps;
                lines = lines;
                counted = count;
                bounded =
                    subst (λ n. IsBounded n (checks_answered (past ++ x ∷ [])) (bound m0.width (lines_listed (past ++ x ∷ [])))) last bounded;
              }

    module _ (past : List (Stage O)) (a : Explainer O) (come : Come order meaning o past a)
        (x : Moment) (b : Explainer O) (is : x ≡ moment_of meaning a x.made b) where
      -- what is known of a call that was recorded, from where the explainer stands after it and how
      -- it was joined
      known : (made : Made) → x.made ≡ made → (told : List Told)
          → Come order meaning o (past ++ stage_of x b told ∷ []) b
          → Joins order meaning checks grants (meaning o) a made told b
          → Known order meaning checks grants o past (stage_of x b told)
      known made same told came joins = record {
        before = a;
        come = come;
        came = came;
        moment = is;
        joins =
            subst (λ (m : Made). Joins order meaning checks grants (meaning o) a m told b) (sym same) joins;
      }

      -- each call comes to somewhere
      pub step : (made : Made) → x.made ≡ made → Does order checks grants a made b
          → (told : List Told) × Known order meaning checks grants o past (stage_of x b told)
      step (Next r) same done =
          let read : (told : List Told)
          × IsNext order (meaning o).width meaning checks (meaning o) (listing_in a) a.oracle told r (listing_in b) b.oracle =
          next_read order (meaning o).width meaning checks check_means (meaning o) done.told (listing_in a) a.oracle r (listing_in b) b.oracle come.kept
          (subst (λ (w : ℕ). NextLeads order w checks done.told (listing_in a) a.oracle r (listing_in b) b.oracle) come.width done.leads) in
          let came = went past a come (stage_of x b read.0) r same done.width read.1 in
          (read.0, known (Next r) same read.0 came read.1)
      step (Grant k r) same done =
          let keeps : Kept (meaning a.oracle) (meaning b.oracle) =
          leaves_kept (Grown k) r (meaning a.oracle) (meaning b.oracle) (grant_means a.oracle k r b.oracle done.0).1 in
          let came = stays past a come (stage_of x b []) (ap next_of same) done.1 refl keeps in
          ([], known (Grant k r) same [] came (done.0, refl))
      step (Try set r) same done =
          let keeps : Kept (meaning a.oracle) (meaning b.oracle) =
          leaves_kept Taken r (meaning a.oracle) (meaning b.oracle) (check_means a.oracle (bits_of set) r b.oracle done.0).1 in
          let came = stays past a come (stage_of x b []) (ap next_of same) done.1 refl keeps in
          ([], known (Try set r) same [] came (done.0, refl))
      step (Tally t) same done =
          let keeps : Kept (meaning a.oracle) (meaning b.oracle) =
          subst (λ (e : Explainer O). Kept (meaning a.oracle) (meaning e.oracle)) (sym done.1) (kept (meaning a.oracle)) in
          let came =
          stays past a come (stage_of x b []) (ap next_of same) (ap (λ (e : Explainer O). e.progress) done.1) refl keeps in
          ([], known (Tally t) same [] came (done.0, done.1, refl))

    -- so a run comes to where its calls lead, and of each is known what is to be
    pub trace : (xs : List Moment) (past : List (Stage O)) (a b : Explainer O)
        → Come order meaning o past a
        → Leads order meaning checks grants a xs b
        → (stages : List (Stage O)) × (moments stages ≡ xs)
        × AtEach (Known order meaning checks grants o) past stages
        × Come order meaning o (past ++ stages) b
        × IsPath order meaning checks grants a stages b
    trace [] past a b come leads = (
      [],
      refl,
      tt,
      subst (λ (l : List (Stage O)). Come order meaning o l b) (sym (append-nil past))
          (subst (λ (e : Explainer O). Come order meaning o past e) (sym leads) come),
      leads,
    )
    trace (x ∷ xs) past a b come leads =
        let one : (told : List Told)
        × Known order meaning checks grants o past (stage_of x leads.0 told) =
        step past a come x leads.0 leads.2 x.made refl leads.1 in
        let y : Stage O = stage_of x leads.0 one.0 in
        let rest : (stages : List (Stage O)) × (moments stages ≡ xs)
        × AtEach (Known order meaning checks grants o) (past ++ y ∷ []) stages
        × Come order meaning o ((past ++ y ∷ []) ++ stages) b
        × IsPath order meaning checks grants leads.0 stages b =
        trace xs (past ++ y ∷ []) leads.0 b one.1.came leads.3 in (
          y ∷ rest.0,
          ap (λ l. x ∷ l) rest.1,
          (one.1, rest.2),
          subst (λ (l : List (Stage O)). Come order meaning o l b)
              (append_assoc past (y ∷ []) rest.0) rest.3,
          (leads.1, leads.2, rest.4),
        )

    -- a whole run
    pub traced : (past : List Moment) (b : Explainer O) (led : IsLed order meaning checks grants o past b)
        → (stages : List (Stage O)) × (moments stages ≡ past)
        × AtEach (Known order meaning checks grants o) [] stages × Come order meaning o stages b
        × IsPath order meaning checks grants led.first stages b
    traced past b led = trace past [] led.first b (come_new led.first led.new) led.leads
