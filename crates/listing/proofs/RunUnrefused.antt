-- A state is one that is come to where no check is refused: after some NEXTs, and part of one more. Assumes nothing.
use Rattle.std.proofs.Common.{◌≡◌, ℕ, zero, suc, ◌+◌, ◌-◌, ◌≤◌, Bool, List, [], ◌∷◌, replicate, inl, inr, refl, sym, ap, ◌∙◌, subst, arith}
use Rattle.std.proofs.lemmas.Bool.{cases_lt}
use Rattle.listing.specs.Bill.{most_answers}
use Rattle.listing.specs.RunLaws.{IsNotRefused}
use Rattle.listing.specs.Steps.{State, start}
use Rattle.listing.specs.Turns.{turn, after}
use Rattle.listing.proofs.RunEnough.{refused_or_not, enough}
use Rattle.listing.proofs.RunEvery.{after_reached}
use Rattle.listing.proofs.RunReached.{IsGiven, IsReached, start_reached}
use Rattle.listing.proofs.RunTurns.{turn-zero, refused_goes_on, more_is_same}

-- the state after one NEXT more
after_more : (before : ℕ → ℕ → Bool) (width : ℕ) (fit : ℕ → Bool) (n g : ℕ) (st : State)
    → after before width fit (replicate (suc n) g) st ≡ (turn before width fit g (after before width fit (replicate n g) st)).left
after_more before width fit zero g st = refl
after_more before width fit (suc n) g st = after_more before width fit n g (turn before width fit g st).left

-- two turns that were refused nothing are the same
same_turn : (before : ℕ → ℕ → Bool) (width : ℕ) (fit : ℕ → Bool) (g m : ℕ) (st : State) → IsNotRefused (turn before width fit g st).said → IsNotRefused (turn before width fit m st).said
    → turn before width fit g st ≡ turn before width fit m st
same_turn before width fit g m st told_g told_m =
    elim (cases_lt g m) [
      | inl fewer ↦
          let sum : g + (m - g) ≡ m = omega arith in
          sym (more_is_same before width fit g (m - g) st told_g) ∙ ap (λ k. turn before width fit k st) sum
      | inr more ↦
          let sum : m + (g - m) ≡ g = omega arith in
          ap (λ k. turn before width fit k st) (sym sum) ∙ more_is_same before width fit m (g - m) st told_m
    ]

module _ (before : ℕ → ℕ → Bool) (width : ℕ) (fit : ℕ → Bool) (given : IsGiven before width fit) (most : ℕ) (many : most_answers ≤ most) where
  -- a state is one of the runs that are refused nothing
  abbrev pub IsUnrefused : State → Type 0
  IsUnrefused st = (n : ℕ) × (g : ℕ) × (st ≡ (turn before width fit g (after before width fit (replicate n most) start)).left)

  start_unrefused : IsUnrefused start
  start_unrefused = (0, 0, sym (ap (λ t. t.left) (turn-zero before width fit start)))

  -- and so is the state that a turn leaves
  part_unrefused : (n g h : ℕ) → IsUnrefused (turn before width fit h (turn before width fit g (after before width fit (replicate n most) start)).left).left
  part_unrefused n g h =
      let st : State = after before width fit (replicate n most) start in
      elim (refused_or_not (turn before width fit g st).said) [
        | inl refusal ↦ (n, g + h, ap (λ t. t.left) (sym (refused_goes_on before width fit g h refusal.0 st refusal.1)))
        | inr told ↦
            let r : IsReached before width fit st = after_reached before width fit given (replicate n most) start (start_reached before width fit) in
            let same : turn before width fit g st ≡ turn before width fit most st = same_turn before width fit g most st told (enough before width fit given most many st r) in
            let next : (turn before width fit g st).left ≡ after before width fit (replicate (suc n) most) start = ap (λ t. t.left) same ∙ sym (after_more before width fit n most start) in
            (suc n, h, ap (λ s. (turn before width fit h s).left) next)
      ]

  turn_unrefused : (h : ℕ) (st : State) → IsUnrefused st → IsUnrefused (turn before width fit h st).left
  turn_unrefused h st u = subst (λ s. IsUnrefused (turn before width fit h s).left) (sym u.2) (part_unrefused u.0 u.1 h)

  after_unrefused : (allowed : List ℕ) (st : State) → IsUnrefused st → IsUnrefused (after before width fit allowed st)
  after_unrefused [] st u = u
  after_unrefused (h ∷ allowed) st u = after_unrefused allowed (turn before width fit h st).left (turn_unrefused h st u)

  pub all_unrefused : (allowed : List ℕ) → IsUnrefused (after before width fit allowed start)
  all_unrefused allowed = after_unrefused allowed start start_unrefused
