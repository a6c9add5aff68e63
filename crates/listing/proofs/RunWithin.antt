-- What a verdict says of sets outside the width changes nothing. Assumes nothing.
use Rattle.std.proofs.Common.{◌≡◌, ℕ, zero, suc, Bool, List, [], ◌∷◌, Option, Some, None, refl, sym, ap, ◌∙◌}
use Rattle.sets.specs.Requests.{Within}
use Rattle.listing.specs.Steps.{State, Move, check, lists, all, full, move, Moved, answered}
use Rattle.listing.specs.Turns.{Turn, turn_at, line_or, moved_or, turn, after, sets_at, sets_later, sets_after, sets_checked}
use Rattle.listing.specs.declared.lines.Line.{Line}
use Rattle.listing.proofs.RunChecked.{sets_checked-zero, sets_checked-suc}
use Rattle.listing.proofs.RunEvery.{turn_reached}
use Rattle.listing.proofs.RunMoves.{of_move}
use Rattle.listing.proofs.RunReached.{IsGiven, IsReached, answered_reached}
use Rattle.listing.proofs.RunTurns.{turn-zero, turn-suc}

-- two turns are the same if they are at the check that is due
same_at : (m : Move) (st : State) (f g : ℕ → Turn) → ((s : ℕ) → m ≡ check s → f s ≡ g s) → turn_at m st f ≡ turn_at m st g
same_at (check s) st f g same = same s refl
same_at (lists x) st f g same = refl
same_at all st f g same = refl
same_at full st f g same = refl

same_later : (o : Option Line) (st : State) (f g : State → Turn) → f st ≡ g st → line_or o st f ≡ line_or o st g
same_later (Some x) st f g same = refl
same_later None st f g same = same

-- and so are the sets that are checked
same_sets_at : (m : Move) (f g : ℕ → List ℕ) → ((s : ℕ) → m ≡ check s → f s ≡ g s) → sets_at m f ≡ sets_at m g
same_sets_at (check s) f g same = ap (λ rest. s ∷ rest) (same s refl)
same_sets_at (lists x) f g same = refl
same_sets_at all f g same = refl
same_sets_at full f g same = refl

same_sets_later : (o : Option Line) (st : State) (f g : State → List ℕ) → f st ≡ g st → sets_later o st f ≡ sets_later o st g
same_sets_later (Some x) st f g same = refl
same_sets_later None st f g same = same

module _ (before : ℕ → ℕ → Bool) (width : ℕ) (fit same : ℕ → Bool) (given : IsGiven before width fit) (agree : (s : ℕ) → Within width s → same s ≡ fit s) where
  -- what is answered to a check that is due is the same
  same_answer : (st : State) (s : ℕ) → IsReached before width fit st → move before width st ≡ check s → answered before width st (same s) ≡ answered before width st (fit s)
  same_answer st s r m = ap (answered before width st) (agree s (of_move before width fit given st r (check s) m).0)

  pub turn_same : (g : ℕ) (st : State) → IsReached before width fit st → turn before width same g st ≡ turn before width fit g st
  turn_same zero st r = turn-zero before width same st ∙ sym (turn-zero before width fit st)
  turn_same (suc g) st r =
      let goes : (s : ℕ) → move before width st ≡ check s → moved_or (answered before width st (same s)) (turn before width same g) ≡ moved_or (answered before width st (fit s)) (turn before width fit g) =
      λ s m.
      let a : Moved = answered before width st (fit s) in
      ap (λ b. moved_or b (turn before width same g)) (same_answer st s r m)
      ∙ same_later a.line a.state (turn before width same g) (turn before width fit g) (turn_same g a.state (answered_reached before width fit given st s r m))
      in turn-suc before width same g st
      ∙ same_at (move before width st) st (λ s. moved_or (answered before width st (same s)) (turn before width same g)) (λ s. moved_or (answered before width st (fit s)) (turn before width fit g)) goes
      ∙ sym (turn-suc before width fit g st)

  pub sets_same : (g : ℕ) (st : State) → IsReached before width fit st → sets_checked before width same g st ≡ sets_checked before width fit g st
  sets_same zero st r = sets_checked-zero before width same st ∙ sym (sets_checked-zero before width fit st)
  sets_same (suc g) st r =
      let goes : (s : ℕ) → move before width st ≡ check s
      → sets_after (answered before width st (same s)) (sets_checked before width same g) ≡ sets_after (answered before width st (fit s)) (sets_checked before width fit g) =
      λ s m.
      let a : Moved = answered before width st (fit s) in
      ap (λ b. sets_after b (sets_checked before width same g)) (same_answer st s r m)
      ∙ same_sets_later a.line a.state (sets_checked before width same g) (sets_checked before width fit g) (sets_same g a.state (answered_reached before width fit given st s r m))
      in sets_checked-suc before width same g st
      ∙ same_sets_at (move before width st) (λ s. sets_after (answered before width st (same s)) (sets_checked before width same g)) (λ s. sets_after (answered before width st (fit s)) (sets_checked before width fit g)) goes
      ∙ sym (sets_checked-suc before width fit g st)

  pub after_same : (allowed : List ℕ) (st : State) → IsReached before width fit st → after before width same allowed st ≡ after before width fit allowed st
  after_same [] st r = refl
  after_same (g ∷ allowed) st r =
      ap (λ t. after before width same allowed t.left) (turn_same g st r)
      ∙ after_same allowed (turn before width fit g st).left (turn_reached before width fit given g st r)
