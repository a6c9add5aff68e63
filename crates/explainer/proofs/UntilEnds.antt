-- NEXT until it answers no line: while calls follow, each is a NEXT that answered a line, and after the one that
-- answers none there is none. Assumes nothing.
use Rattle.std.proofs.Common.{◌≡◌, ℕ, suc, ◌≤◌, List, [], ◌∷◌, ◌++◌, length, Option, Some, None, Ok, Err, ◌⊎◌, inl, inr, refl, sym, ap, ◌∙◌, subst, arith, length-append}
use Rattle.std.proofs.lemmas.List.{length-map}
use Rattle.std.specs.Prelude.{IfSome, IsSomeAnd}
use Rattle.oracle.specs.Calls.{Checks, Grants}
use Rattle.oracle.specs.Meaning.{Meaning}
use Rattle.listing.specs.Lines.{most_lines}
use Rattle.explainer.specs.AtEach.{AtEach}
use Rattle.explainer.specs.Choosing.{after_line, until_end, AreChosen, HasStopped}
use Rattle.explainer.specs.Law.{IsTrueAnswer, HoldsAt}
use Rattle.explainer.specs.Moments.{Answer, call_of, next_of, line_of, last_made}
use Rattle.explainer.specs.Preferring.{Order}
use Rattle.explainer.specs.Runs.{EndsListing, UntilEndEnds}
use Rattle.explainer.specs.Stages.{Stage, moments, lines_listed}
use Rattle.explainer.specs.declared.moments.Call.{Call}
use Rattle.explainer.specs.declared.moments.Call.TheVariants as call
use Rattle.explainer.specs.declared.moments.Made.{Made}
use Rattle.explainer.specs.declared.moments.Made.TheVariants.{Next, Grant, Try, Tally}
use Rattle.explainer.specs.declared.moments.Moment.{Moment}
use Rattle.explainer.specs.declared.moments.NextAnswer.TheVariants.{Line, End}
use Rattle.explainer.specs.declared.moments.NextRefusal.TheVariants.{Outside, Full, Spent}
use Rattle.explainer.proofs.AtEachs.{carried, each_both, each_of_map}
use Rattle.explainer.proofs.LastMade.{last_push, until_push}
use Rattle.explainer.proofs.Stagings.{moments_push, lines_push}

-- a call that is NEXT has an answer of NEXT
abbrev pub IsMadeNext : Made → Type 0
IsMadeNext made = (r : Answer) × (made ≡ Next r)

pub made_next : (made : Made) → call_of made ≡ call.Next → IsMadeNext made
made_next (Next r) is = (r, refl)
made_next (Grant checks r) is = absurd (cc)
made_next (Try set r) is = absurd (cc)
made_next (Tally t) is = absurd (cc)

-- what is chosen of the moments of stages
abbrev pub Chosen : {O : Type 0} → List (Stage O) → Stage O → Type 0
Chosen past x = until_end (moments past) ≡ Some (call_of x.moment.made)

pub chosen_stages : {O : Type 0} (stages : List (Stage O)) → AreChosen until_end (moments stages) → AtEach Chosen [] stages
chosen_stages {O} stages chosen =
    each_of_map (λ (x : Stage O). x.moment) (λ before y. until_end before ≡ Some (call_of y.made)) [] stages chosen

-- and after one more
pub chosen_after : {O : Type 0} (past : List (Stage O)) (x : Stage O) → until_end (moments (past ++ x ∷ [])) ≡ after_line (next_of x.moment.made)
chosen_after past x = ap until_end (moments_push past x) ∙ until_push (moments past) x.moment

pub last_after : {O : Type 0} (past : List (Stage O)) (x : Stage O) → last_made (moments (past ++ x ∷ [])) ≡ Some x.moment.made
last_after past x = ap last_made (moments_push past x) ∙ last_push (moments past) x.moment

-- as many lines are listed as there were calls, at most 512, and a further NEXT is chosen
record GoesOn {O : Type 0} (past : List (Stage O)) : Type 0 where
  each_line : length (lines_listed past) ≡ length past
  few : length (lines_listed past) ≤ most_lines
  goes_on : until_end (moments past) ≡ Some call.Next

-- the last call ended the listing, and none is chosen
record HasCome {O : Type 0} (past : List (Stage O)) : Type 0 where
  ended : IsSomeAnd (last_made (moments past)) (λ made. EndsListing (next_of made))
  stops : until_end (moments past) ≡ None

-- a NEXT that ends the listing is the last call
comes : {O : Type 0} (past : List (Stage O)) (x : Stage O) (r : Answer) → x.moment.made ≡ Next r → EndsListing (Some r) → after_line (Some r) ≡ None
    → HasCome (past ++ x ∷ [])
comes past x r is ends none = record {
  ended = subst (λ o. IsSomeAnd o (λ made. EndsListing (next_of made))) (sym (last_after past x ∙ ap (λ m. Some m) is)) ends;
  stops = chosen_after past x ∙ ap (λ m. after_line (next_of m)) is ∙ none;
}

module _ {O : Type 0} (order : Order) (meaning : O → Meaning) (checks : Checks O)
    (grants : Grants O) (o : O) where
  -- each NEXT goes on, or ends it
  goes_or_ends : (past : List (Stage O)) (x : Stage O) (r : Answer) → x.moment.made ≡ Next r → GoesOn past
      → HoldsAt order meaning checks grants o past x → IsTrueAnswer (meaning o) (lines_listed past) x.moment.found r (meaning x.stands.oracle)
      → GoesOn (past ++ x ∷ []) ⊎ HasCome (past ++ x ∷ [])
  goes_or_ends past x (Ok (Line l)) is goes holds truly =
      let grown : lines_listed (past ++ x ∷ []) ≡ lines_listed past ++ l ∷ [] =
      lines_push past x ∙ ap (λ made. lines_listed past ++ line_of (next_of made)) is in
      inl (record {
        each_line = omega (arith, goes.each_line, ap length grown, length-append (lines_listed past) (l ∷ []), length-append past (x ∷ []));
        few = holds.listing.few;
        goes_on = chosen_after past x ∙ ap (λ m. after_line (next_of m)) is;
      })
  goes_or_ends past x (Ok End) is goes holds truly = inr (comes past x (Ok End) is (inl refl) refl)
  goes_or_ends past x (Err Outside) is goes holds truly = absurd (truly.never_outside refl)
  goes_or_ends past x (Err Full) is goes holds truly =
      inr (comes past x (Err Full) is (inr (inl refl)) refl)
  goes_or_ends past x (Err (Spent label)) is goes holds truly =
      inr (comes past x (Err (Spent label)) is (inr (inr (label, refl))) refl)

  -- so it is with any one call more
  one_more : (past : List (Stage O)) (x : Stage O) → GoesOn past ⊎ HasCome past → HoldsAt order meaning checks grants o past x × Chosen past x
      → GoesOn (past ++ x ∷ []) ⊎ HasCome (past ++ x ∷ [])
  one_more past x (inl goes) here =
      let two : ◌≡◌ {A = Option Call} (Some (call_of x.moment.made)) (Some call.Next) = sym here.1 ∙ goes.goes_on in
      let next : IsMadeNext x.moment.made = made_next x.moment.made (cc) in
      let P : Made → Type 0 = λ made. IfSome (next_of made) (λ r. IsTrueAnswer (meaning o) (lines_listed past) x.moment.found r (meaning x.stands.oracle)) in
      goes_or_ends past x next.0 next.1 goes here.0 (subst P next.1 here.0.answer)
  one_more past x (inr come) here =
      let two : ◌≡◌ {A = Option Call} None (Some (call_of x.moment.made)) = sym come.stops ∙ here.1 in absurd (cc)

  -- a run with more turns than there is room for lines that has stopped has come to such a call: while NEXT goes on, no
  -- more calls than that were made, and one more is chosen
  ends_then : (turns : ℕ) (stages : List (Stage O)) → suc most_lines ≤ turns → GoesOn stages ⊎ HasCome stages → HasStopped until_end turns (moments stages)
      → IsSomeAnd (last_made (moments stages)) (λ made. EndsListing (next_of made))
  ends_then turns stages many (inl goes) (inl all) = absurd (omega (arith, goes.each_line, goes.few, length-map stages (λ (x : Stage O). x.moment)))
  ends_then turns stages many (inl goes) (inr stopped) = let two : ◌≡◌ {A = Option Call} (Some call.Next) None = sym goes.goes_on ∙ stopped.1 in absurd (cc)
  ends_then turns stages many (inr come) stopped = come.ended

-- so its last call ended the listing
pub until_end_ended : {O : Type 0} (order : Order) (meaning : O → Meaning) (checks : Checks O) (grants : Grants O) → UntilEndEnds order meaning checks grants
until_end_ended {O} order meaning checks grants turns o past b many run =
    let stages : List (Stage O) = run.law.stages in
    let each : AtEach (λ p x. HoldsAt order meaning checks grants o p x × Chosen p x) [] stages =
    each_both (HoldsAt order meaning checks grants o) Chosen [] stages run.law.law
    (chosen_stages stages (subst (AreChosen until_end) (sym run.law.recorded) run.chosen)) in
    let come : GoesOn stages ⊎ HasCome stages =
    carried (λ p. GoesOn p ⊎ HasCome p) (λ p x. HoldsAt order meaning checks grants o p x × Chosen p x) (one_more order meaning checks grants o) [] stages
    (inl (record { each_line = refl; few = omega arith; goes_on = refl })) each in
    subst (λ (l : List Moment). IsSomeAnd (last_made l) (λ made. EndsListing (next_of made))) run.law.recorded
    (ends_then order meaning checks grants o turns stages many come (subst (HasStopped until_end turns) (sym run.law.recorded) run.stopped))
