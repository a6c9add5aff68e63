-- A NEXT of which 64 checks may be answered is not refused one, and 512 such list all that they can. Assumes nothing.
use Rattle.std.proofs.Common.{◌≡◌, ℕ, zero, suc, ◌+◌, ◌≤◌, Bool, length, replicate, ◌⊎◌, inl, inr, refl, sym, ap, ◌∙◌, subst, arith}
use Rattle.std.proofs.lemmas.List.{length_push}
use Rattle.listing.specs.Bill.{most_answers}
use Rattle.listing.specs.Lines.{most_lines, IsWhole}
use Rattle.listing.specs.RunLaws.{lines_after, IsNotRefused, ListsNoMore}
use Rattle.listing.specs.Steps.{State, start}
use Rattle.listing.specs.Turns.{Said, listed, all_listed, no_room, refused, turn, after}
use Rattle.listing.specs.declared.lines.Line.{Line}
use Rattle.listing.proofs.RunChecked.{refused_counts}
use Rattle.listing.proofs.RunEvery.{turn_grows, turn_reached, turn_is, after_reached}
use Rattle.listing.proofs.RunFew.{remaining_few, left_over, answer_spares, turn_spares}
use Rattle.listing.proofs.RunReached.{IsGiven, IsReached, start_reached}

-- what is said is a refusal or none
pub refused_or_not : (said : Said) → ((s : ℕ) × (said ≡ refused s)) ⊎ IsNotRefused said
refused_or_not (listed x) = inr tt
refused_or_not all_listed = inr tt
refused_or_not no_room = inr tt
refused_or_not (refused s) = inl (s, refl)

-- what is no refusal lists a line or is an end
line_or_end : (said : Said) → IsNotRefused said → ((x : Line) × (said ≡ listed x)) ⊎ ListsNoMore said
line_or_end (listed x) told = inl (x, refl)
line_or_end all_listed told = inr tt
line_or_end no_room told = inr tt
line_or_end (refused s) told = absurd told

-- what is an end says that all is listed, or that there is no room
which_end : (said : Said) → ListsNoMore said → (said ≡ all_listed) ⊎ (said ≡ no_room)
which_end (listed x) end = absurd end
which_end all_listed end = inl refl
which_end no_room end = inr refl
which_end (refused s) end = absurd end

is_end : (said : Said) → (said ≡ all_listed) ⊎ (said ≡ no_room) → ListsNoMore said
is_end (listed x) (inl e) = absurd (cc)
is_end (listed x) (inr e) = absurd (cc)
is_end all_listed e = tt
is_end no_room e = tt
is_end (refused s) (inl e) = absurd (cc)
is_end (refused s) (inr e) = absurd (cc)

module _ (before : ℕ → ℕ → Bool) (width : ℕ) (fit : ℕ → Bool) (given : IsGiven before width fit) where
  -- with 64 checks allowed none is refused: one that is due would be the 65th since the line before
  pub enough : (g : ℕ) → most_answers ≤ g → (st : State) → IsReached before width fit st → IsNotRefused (turn before width fit g st).said
  enough g many st r =
      elim (refused_or_not (turn before width fit g st).said) [
        | inr told ↦ told
        | inl refusal ↦
            let left : State = (turn before width fit g st).left in
            let counts = refused_counts before width fit g refusal.0 st refusal.1 in
            let due = answer_spares before width fit given left refusal.0 (fit refusal.0) (turn_reached before width fit given g st r) counts.1 in
            absurd (omega (arith, turn_spares before width fit given g st r, ap (λ said. left_over said left) refusal.1, due, counts.0, remaining_few st))
      ]

  -- after an end the next NEXT says one too
  ends_again : (g : ℕ) (st : State) → IsReached before width fit st → ListsNoMore (turn before width fit g st).said → ListsNoMore (turn before width fit g (turn before width fit g st).left).said
  ends_again g st r end =
      let left : State = (turn before width fit g st).left in
      let here = turn_is before width fit given g st r in
      let later = turn_is before width fit given g left (turn_reached before width fit given g st r) in
      is_end (turn before width fit g left).said
      (elim (which_end (turn before width fit g st).said end) [
        | inl e ↦
            let kept : left.lines ≡ st.lines = here.grows ∙ ap (lines_after st.lines) e in
            inl (later.whole.1 (subst (IsWhole width fit) (sym kept) (here.whole.0 e)))
        | inr e ↦
            let kept : left.lines ≡ st.lines = here.grows ∙ ap (lines_after st.lines) e in
            inr (later.filled.1 (subst (λ ls. (length ls ≡ most_lines) × (IsWhole width fit ls → ⊥)) (sym kept) (here.filled.0 e)))
      ])

  ends_ever : (g n : ℕ) (st : State) → IsReached before width fit st → ListsNoMore (turn before width fit g st).said → ListsNoMore (turn before width fit g (after before width fit (replicate n g) st)).said
  ends_ever g zero st r end = end
  ends_ever g (suc n) st r end = ends_ever g n (turn before width fit g st).left (turn_reached before width fit given g st r) (ends_again g st r end)

  -- after so many NEXTs either there is an end or so many more lines
  ends_or_lists : (g n : ℕ) → most_answers ≤ g → (st : State) → IsReached before width fit st
      → ListsNoMore (turn before width fit g (after before width fit (replicate n g) st)).said ⊎ (length st.lines + n ≤ length (after before width fit (replicate n g) st).lines)
  ends_or_lists g zero many st r = inr (omega arith)
  ends_or_lists g (suc n) many st r =
      let left : State = (turn before width fit g st).left in
      elim (line_or_end (turn before width fit g st).said (enough g many st r)) [
        | inr end ↦ inl (ends_ever g (suc n) st r end)
        | inl line ↦
            let grows : left.lines ≡ lines_after st.lines (listed line.0) = turn_grows before width fit g st ∙ ap (lines_after st.lines) line.1 in
            elim (ends_or_lists g n many left (turn_reached before width fit given g st r)) [
              | inl end ↦ inl end
              | inr more ↦ inr (omega (arith, more, ap length grows, length_push st.lines line.0))
            ]
      ]

  -- with 512 lines there is no further one
  ends_full : (g : ℕ) → most_answers ≤ g → (st : State) → IsReached before width fit st → most_lines ≤ length st.lines → ListsNoMore (turn before width fit g st).said
  ends_full g many st r long =
      let left : State = (turn before width fit g st).left in
      elim (line_or_end (turn before width fit g st).said (enough g many st r)) [
        | inr end ↦ end
        | inl line ↦
            let grows : left.lines ≡ lines_after st.lines (listed line.0) = turn_grows before width fit g st ∙ ap (lines_after st.lines) line.1 in
            absurd (omega (arith, ap length grows, length_push st.lines line.0, (turn_reached before width fit given g st r).listed.few))
      ]

  pub ends_by : (g n : ℕ) → most_answers ≤ g → most_lines ≤ n → ListsNoMore (turn before width fit g (after before width fit (replicate n g) start)).said
  ends_by g n many long =
      elim (ends_or_lists g n many start (start_reached before width fit)) [
        | inl end ↦ end
        | inr more ↦
            ends_full g many (after before width fit (replicate n g) start) (after_reached before width fit given (replicate n g) start (start_reached before width fit)) (omega (arith, more))
      ]
