-- The law of every run of the steps, from the laws of orders, lines, halvings and bills. Assumes nothing.
use Rattle.std.proofs.Common.{ℕ, ◌≤◌, Bool, List, le_refl}
use Rattle.oracle.specs.Meaning.{Downward}
use Rattle.sets.specs.Requests.{widest}
use Rattle.listing.specs.Bill.{most_answers, BillLaws}
use Rattle.listing.specs.HalvingLaws.{HalvingLaws}
use Rattle.listing.specs.LineLaws.{LineLaws}
use Rattle.listing.specs.Lines.{most_lines}
use Rattle.listing.specs.OrderLaws.{OrderLaws}
use Rattle.listing.specs.Orders.{IsOrder}
use Rattle.listing.specs.RunLaws.{EveryListing, EveryTurn, DueWithin, CheckedWithin, FewAnswers, EnoughAnswers, EndsInTime, AsUnrefused, WithinDecides, RunLaws}
use Rattle.listing.specs.Steps.{start, check}
use Rattle.listing.specs.Turns.{after}
use Rattle.listing.proofs.RunChecked.{sets_within, checked_count, refused_counts}
use Rattle.listing.proofs.RunEnough.{enough, ends_by}
use Rattle.listing.proofs.RunEvery.{after_reached, turn_is, listing_is}
use Rattle.listing.proofs.RunFew.{between_lines}
use Rattle.listing.proofs.RunMoves.{of_move}
use Rattle.listing.proofs.RunReached.{IsGiven, IsReached, start_reached}
use Rattle.listing.proofs.RunTurns.{refused_goes_on, more_is_same}
use Rattle.listing.proofs.RunUnrefused.{all_unrefused}
use Rattle.listing.proofs.RunWithin.{turn_same, sets_same, after_same}

module _ (orders : OrderLaws) (lines : LineLaws) (halvings : HalvingLaws) (bills : BillLaws) where
  with_laws : (before : ℕ → ℕ → Bool) (width : ℕ) (fit : ℕ → Bool) → width ≤ widest → IsOrder width before → Downward width fit → IsGiven before width fit
  with_laws before width fit narrow order down = record {
    narrow = narrow;
    order = order;
    down = down;
    orders = orders;
    lines = lines;
    halvings = halvings;
    bills = bills;
  }

  -- every state after NEXTs is reached
  reached : (before : ℕ → ℕ → Bool) (width : ℕ) (fit : ℕ → Bool) → IsGiven before width fit → (allowed : List ℕ) → IsReached before width fit (after before width fit allowed start)
  reached before width fit given allowed = after_reached before width fit given allowed start (start_reached before width fit)

  every_listing : EveryListing
  every_listing before width fit allowed narrow order down =
      let given : IsGiven before width fit = with_laws before width fit narrow order down in
      listing_is before width fit given (after before width fit allowed start) (reached before width fit given allowed)

  every_turn : EveryTurn
  every_turn before width fit allowed g narrow order down =
      let given : IsGiven before width fit = with_laws before width fit narrow order down in
      turn_is before width fit given g (after before width fit allowed start) (reached before width fit given allowed)

  due_within : DueWithin
  due_within before width fit allowed s narrow order down e =
      let given : IsGiven before width fit = with_laws before width fit narrow order down in
      (of_move before width fit given (after before width fit allowed start) (reached before width fit given allowed) (check s) e).0

  checked_within : CheckedWithin
  checked_within before width fit allowed g narrow order down =
      let given : IsGiven before width fit = with_laws before width fit narrow order down in
      sets_within before width fit given g (after before width fit allowed start) (reached before width fit given allowed)

  few_answers : FewAnswers
  few_answers before width fit allowed more g narrow order down same =
      let given : IsGiven before width fit = with_laws before width fit narrow order down in
      between_lines before width fit given more g (after before width fit allowed start) (reached before width fit given allowed) same

  enough_answers : EnoughAnswers
  enough_answers before width fit allowed narrow order down =
      let given : IsGiven before width fit = with_laws before width fit narrow order down in
      enough before width fit given most_answers (le_refl most_answers) (after before width fit allowed start) (reached before width fit given allowed)

  ends_in_time : EndsInTime
  ends_in_time before width fit narrow order down =
      ends_by before width fit (with_laws before width fit narrow order down) most_answers most_lines (le_refl most_answers) (le_refl most_lines)

  as_unrefused : AsUnrefused
  as_unrefused before width fit allowed narrow order down =
      all_unrefused before width fit (with_laws before width fit narrow order down) most_answers (le_refl most_answers) allowed

  within_decides : WithinDecides
  within_decides before width fit same allowed g narrow order down agree =
      let given : IsGiven before width fit = with_laws before width fit narrow order down in
      let r : IsReached before width fit (after before width fit allowed start) = reached before width fit given allowed in (
        after_same before width fit same given agree allowed start (start_reached before width fit),
        turn_same before width fit same given agree g (after before width fit allowed start) r,
        sets_same before width fit same given agree g (after before width fit allowed start) r,
      )

  pub run_laws : RunLaws
  run_laws = (
    every_listing,
    every_turn,
    due_within,
    checked_within,
    checked_count,
    few_answers,
    enough_answers,
    ends_in_time,
    refused_counts,
    refused_goes_on,
    more_is_same,
    as_unrefused,
    within_decides,
  )
