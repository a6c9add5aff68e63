-- What holds of a listing that ended: of its lines, of how it ended and of its checks, over a
-- verdict of which every part of a fit set is fit. Assumes nothing.
use Rattle.std.proofs.Common.{◌≡◌, ℕ, zero, suc, ◌+◌, ◌-◌, ◌<◌, ◌≤◌, ◌↔◌, Bool, List, [], ◌∷◌, ◌++◌}
use Rattle.std.proofs.Common.{length, refl, sym, ap, ◌∙◌, subst, arith, Option, Some, None, IfSome}
use Rattle.std.proofs.lemmas.List.{length_push}
use Rattle.sets.specs.Requests.{widest}
use Rattle.oracle.specs.Meaning.{Downward}
use Rattle.listing.specs.Bill.{bound, most_answers}
use Rattle.listing.specs.Lines.{most_lines, IsWhole}
use Rattle.listing.specs.Listings.{IsListing}
use Rattle.listing.specs.Orders.{keeps_more}
use Rattle.listing.specs.RunLaws.{lines_after, IsTurn, IsNotRefused}
use Rattle.listing.specs.Steps.{State, start}
use Rattle.listing.specs.Turns.{Said, listed, all_listed, no_room, refused, Turn, turn, after}
use Rattle.listing.specs.declared.lines.Line.{Line}
use Rattle.listing.proofs.HalveHeld.{size_within}
use Rattle.listing.proofs.Orders.{order_laws}
use Rattle.listing.proofs.SoundRuns.{sound_laws}
use Rattle.listing.specs.Sound.{IsSound, IsSoundHalving, checks_open}
use Rattle.listing.specs.Steps.{Open}
use Rattle.explainer.proofs.NextFacts.{runs}
use Rattle.explainer.proofs.Stagings.{after_append}
use Rattle.report.specs.Ends.{Finished, ended_by, finish, most_turns, finished}
use Rattle.report.specs.Piles.{own_label}
use Rattle.report.specs.declared.texts.Ended.{Ended}
use Rattle.report.specs.declared.texts.Ended.TheVariants as how
use Rattle.report.proofs.PaidLines.{IsPaid, paid_turn, paid_after, paid_start}
use Rattle.report.proofs.FewChecks.{few_answered}

-- 512 lines, and more are to be listed
abbrev pub IsFilled : (width : ℕ) (fit : ℕ → Bool) → List Line → Type 0
IsFilled width fit lines = (length lines ≡ most_lines) × (IsWhole width fit lines → ⊥)

-- how it ended, by its lines
pub record EndsBy (width : ℕ) (fit : ℕ → Bool) (ended : Ended) (lines : List Line) : Type 0 where
  pub whole : (ended ≡ how.All) ↔ IsWhole width fit lines
  pub filled : (ended ≡ how.Full) ↔ IsFilled width fit lines
  pub spent : (ended ≡ how.Spent own_label)
      ↔ ((IsWhole width fit lines → ⊥) × (IsFilled width fit lines → ⊥))
  pub own : (label : ℕ) → ended ≡ how.Spent label → label ≡ own_label

-- what holds of a listing that ended, with so many checks in all
pub record IsFinished (width : ℕ) (fit : ℕ → Bool) (most : ℕ) (done : Finished) : Type 0 where
  pub listing : IsListing (keeps_more width) width fit done.state.lines
  pub by_lines : EndsBy width fit done.ended done.state.lines
  pub few_checks : done.state.checks ≤ most
  pub exhausted : done.ended ≡ how.Spent own_label → done.state.checks ≡ most
  pub bounded : (done.ended ≡ how.Spent own_label → ⊥)
      → done.state.checks ≤ bound width done.state.lines
  pub paid : length done.state.lines ≤ done.state.checks
  pub near : done.state.checks < bound width done.state.lines + most_answers

-- an open halving has had few answers
open_few : (width : ℕ) (lines : List Line) (o : Option Open) → width ≤ widest
    → IfSome o (IsSoundHalving width lines) → checks_open o ≤ 63
open_few width lines None narrow sound = omega arith
open_few width lines (Some h) narrow sound =
    omega (arith, narrow, sound.few, size_within width h.seed narrow sound.within)

module _ (width : ℕ) (narrow : width ≤ widest) (fit : ℕ → Bool) (downward : Downward width fit)
    (most : ℕ) where
  -- the state after NEXTs with so many checks each, and the next one with what is left of all
  come_to : List ℕ → State
  come_to given = after (keeps_more width) width fit given start

  then_left : List ℕ → ℕ
  then_left given = most - (come_to given).checks

  then_turn : List ℕ → Turn
  then_turn given = turn (keeps_more width) width fit (then_left given) (come_to given)

  -- the lines are a listing
  is_listing : (given : List ℕ) → IsListing (keeps_more width) width fit (come_to given).lines
  unfolding come_to
  is_listing given = runs.0 (keeps_more width) width fit given narrow (order_laws.0 width) downward

  is_turn : (given : List ℕ)
      → IsTurn (keeps_more width) width fit (come_to given)
      (then_turn given).said (then_turn given).left
  unfolding come_to then_turn
  is_turn given =
      runs.1 (keeps_more width) width fit given (then_left given) narrow (order_laws.0 width)
      downward

  -- what a NEXT leaves is come to by one NEXT more
  left_is : (given : List ℕ) → come_to (given ++ then_left given ∷ []) ≡ (then_turn given).left
  unfolding come_to then_turn
  left_is given = after_append (keeps_more width) width fit given (then_left given ∷ []) start

  listing_left : (given : List ℕ)
      → IsListing (keeps_more width) width fit (then_turn given).left.lines
  listing_left given =
      subst (λ (st : State). IsListing (keeps_more width) width fit st.lines) (left_is given)
      (is_listing (given ++ then_left given ∷ []))

  -- no more checks are counted than there are in all
  few_left : (given : List ℕ) → (come_to given).checks ≤ most → (then_turn given).left.checks ≤ most
  unfolding then_turn then_left
  few_left given few =
      omega (arith, few_answered (keeps_more width) width fit (then_left given) (come_to given))

  -- where one is refused they are as many
  all_left : (given : List ℕ) → (come_to given).checks ≤ most → (s : ℕ)
      → (then_turn given).said ≡ refused s → (then_turn given).left.checks ≡ most
  unfolding then_turn then_left
  all_left given few s told =
      omega (
        arith,
        (runs.8 (keeps_more width) width fit (then_left given) s (come_to given) told).0,
      )

  -- how a NEXT that lists no line ends the listing
  ends_all : (given : List ℕ) → (then_turn given).said ≡ all_listed
      → EndsBy width fit how.All (come_to given).lines
  ends_all given told =
      let is = is_turn given in record {
        whole = (λ e. is.whole.0 told, λ whole. refl);
        filled = (λ e. absurd (cc), λ no. absurd (no.1 (is.whole.0 told)));
        spent = (λ e. absurd (cc), λ no. absurd (no.0 (is.whole.0 told)));
        own = λ label e. absurd (cc);
      }

  ends_full : (given : List ℕ) → (then_turn given).said ≡ no_room
      → EndsBy width fit how.Full (come_to given).lines
  ends_full given told =
      let is = is_turn given in record {
        whole = (λ e. absurd (cc), λ whole. absurd ((is.filled.0 told).1 whole));
        filled = (λ e. is.filled.0 told, λ no. refl);
        spent = (λ e. absurd (cc), λ no. absurd (no.1 (is.filled.0 told)));
        own = λ label e. absurd (cc);
      }

  ends_spent : (given : List ℕ) (s : ℕ) → (then_turn given).said ≡ refused s
      → EndsBy width fit (how.Spent own_label) (come_to given).lines
  ends_spent given s told =
      let is = is_turn given in
      let not_whole : IsWhole width fit (come_to given).lines → ⊥ =
      λ whole.
      let two : ◌≡◌ {A = Said} (refused s) all_listed = sym told ∙ is.whole.1 whole in cc in
      let not_filled : IsFilled width fit (come_to given).lines → ⊥ =
      λ filled.
      let two : ◌≡◌ {A = Said} (refused s) no_room = sym told ∙ is.filled.1 filled in cc in
      record {
        whole = (λ e. absurd (cc), λ whole. absurd (not_whole whole));
        filled = (λ e. absurd (cc), λ filled. absurd (not_filled filled));
        spent = (λ e. (not_whole, not_filled), λ no. refl);
        own = λ label e. cc;
      }

  -- the checks keep to the bound where none is refused
  bounded_left : (given : List ℕ) (said : Said) → (then_turn given).said ≡ said
      → IsNotRefused said
      → (then_turn given).left.checks ≤ bound width (then_turn given).left.lines
  bounded_left given said told unrefused =
      (is_turn given).bounded (subst IsNotRefused (sym told) unrefused)

  paid_left : (given : List ℕ)
      → length (then_turn given).left.lines ≤ (then_turn given).left.checks
  unfolding come_to then_turn
  paid_left given =
      let is : IsPaid (then_turn given).left =
      paid_turn (keeps_more width) width fit (then_left given) (come_to given)
      (paid_after (keeps_more width) width fit given start paid_start) in
      omega (arith, is)

  near_left : (given : List ℕ)
      → (then_turn given).left.checks < bound width (then_turn given).left.lines + most_answers
  unfolding come_to
  near_left given =
      let next : List ℕ = given ++ then_left given ∷ [] in
      let sound : IsSound width (come_to next) =
      sound_laws.4 (keeps_more width) width fit next narrow (order_laws.0 width) in
      let is : IsSound width (then_turn given).left = subst (IsSound width) (left_is given) sound in
      let left : State = (then_turn given).left in
      omega (arith, is.bounded, open_few width left.lines left.halving narrow is.halving)

  lines_left : (given : List ℕ) (said : Said) → (then_turn given).said ≡ said
      → (then_turn given).left.lines ≡ lines_after (come_to given).lines said
  lines_left given said told =
      (is_turn given).grows ∙ ap (lines_after (come_to given).lines) told

  -- a NEXT ends the listing so, by what it says; where it lists a line there is one line more
  ends_so : (given : List ℕ) (turns : ℕ) (said : Said) → (then_turn given).said ≡ said
      → (come_to given).checks ≤ most
      → (length (then_turn given).left.lines ≡ length (come_to given).lines + 1
      → IsFinished width fit most (finish width fit most turns (then_turn given).left))
      → IsFinished width fit most
      (ended_by said (then_turn given).left (finish width fit most turns))
  ends_so given turns (listed x) told few onward =
      onward (ap length (lines_left given (listed x) told) ∙ length_push (come_to given).lines x)
  ends_so given turns all_listed told few onward = record {
    listing = listing_left given;
    by_lines =
        subst (EndsBy width fit how.All) (sym (lines_left given all_listed told))
        (ends_all given told);
    few_checks = few_left given few;
    near = near_left given;
    paid = paid_left given;
    exhausted = λ e. absurd (cc);
    bounded = λ no. bounded_left given all_listed told tt;
  }
  ends_so given turns no_room told few onward = record {
    listing = listing_left given;
    by_lines =
        subst (EndsBy width fit how.Full) (sym (lines_left given no_room told))
        (ends_full given told);
    few_checks = few_left given few;
    near = near_left given;
    paid = paid_left given;
    exhausted = λ e. absurd (cc);
    bounded = λ no. bounded_left given no_room told tt;
  }
  ends_so given turns (refused s) told few onward = record {
    listing = listing_left given;
    by_lines =
        subst (EndsBy width fit (how.Spent own_label)) (sym (lines_left given (refused s) told))
        (ends_spent given s told);
    few_checks = few_left given few;
    near = near_left given;
    paid = paid_left given;
    exhausted = λ e. all_left given few s told;
    bounded = λ no. absurd (no refl);
  }

  -- so it is after any NEXTs, while lines and turns together are more than 512: each NEXT that goes
  -- on lists a line, and there are 512 at most, so the turns do not run out
  finish_is : (turns : ℕ) (given : List ℕ) → (come_to given).checks ≤ most
      → most_lines < length (come_to given).lines + turns
      → IsFinished width fit most (finish width fit most turns (come_to given))
  unfolding finish then_turn then_left
  finish_is zero given few many = absurd (omega (arith, (is_listing given).few, many))
  finish_is (suc turns) given few many =
      ends_so given turns (then_turn given).said refl few
      (λ longer.
      let next : List ℕ = given ++ then_left given ∷ [] in
      let same : come_to next ≡ (then_turn given).left = left_is given in
      subst (λ st. IsFinished width fit most (finish width fit most turns st)) same
      (finish_is turns next
      (subst (λ (st : State). st.checks ≤ most) (sym same) (few_left given few))
      (omega (arith, ap (λ (st : State). length st.lines) same, longer, many))))

  -- and from the first on
  pub finished_is : IsFinished width fit most (finished width fit most)
  unfolding come_to
  finished_is = finish_is most_turns [] (omega arith) (omega arith)
