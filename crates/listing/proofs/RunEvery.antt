-- What holds of every listing and every turn. Assumes nothing.
use Rattle.std.proofs.Common.{◌≡◌, ℕ, zero, suc, ◌≤◌, ◌↔◌, Bool, List, [], ◌∷◌, ◌++◌, length, Option, Some, None, inl, inr, refl, ap, ◌∙◌, subst, arith}
use Rattle.std.specs.Prelude.{IfSome}
use Rattle.sets.specs.Requests.{Within}
use Rattle.listing.specs.Bill.{bound}
use Rattle.listing.specs.Lines.{most_lines, NothingLeft, IsWhole}
use Rattle.listing.specs.RunLaws.{lines_after, IsNotRefused, IsTurn}
use Rattle.listing.specs.Steps.{Open, State, check, lists, all, full, answered}
use Rattle.listing.specs.Turns.{all_listed, no_room, refused, turn, after}
use Rattle.listing.specs.declared.lines.Line.{Line}
use Rattle.listing.proofs.RunListed.{AreListed, all_true}
use Rattle.listing.proofs.RunMoves.{of_move, with_option, is_answer, ends_closed}
use Rattle.listing.proofs.RunReached.{IsGiven, IsAt, IsReached, answered_reached, listed_reached}
use Rattle.listing.proofs.RunTurns.{by_turns}
use Rattle.listing.specs.Listings.{IsListing}

-- an answer that lists no line leaves the lines as they were, and one that lists a line closes the halving
kept_lines : (before : ℕ → ℕ → Bool) (width : ℕ) (st : State) (b : Bool) → (answered before width st b).line ≡ None → (answered before width st b).state.lines ≡ st.lines
kept_lines before width st b e = (is_answer before width st b).grown ∙ ap (with_option st.lines) e

line_lines : (before : ℕ → ℕ → Bool) (width : ℕ) (st : State) (b : Bool) (x : Line) → (answered before width st b).line ≡ Some x → (answered before width st b).state.lines ≡ st.lines ++ x ∷ []
line_lines before width st b x e = (is_answer before width st b).grown ∙ ap (with_option st.lines) e

if_some : {A : Type 0} (o : Option A) (P : Type 0) (x : A) → o ≡ Some x → IfSome o (λ y. P) → P
if_some (Some y) P x e p = p
if_some None P x e p = absurd (cc)

line_closes : (before : ℕ → ℕ → Bool) (width : ℕ) (st : State) (b : Bool) (x : Line) → (answered before width st b).line ≡ Some x → (answered before width st b).state.halving ≡ None
line_closes before width st b x e = if_some (answered before width st b).line ((answered before width st b).state.halving ≡ None) x e (is_answer before width st b).closed

-- a turn grows the listing by what it says
pub turn_grows : (before : ℕ → ℕ → Bool) (width : ℕ) (fit : ℕ → Bool) (g : ℕ) (st : State) → (turn before width fit g st).left.lines ≡ lines_after st.lines (turn before width fit g st).said
turn_grows before width fit g st =
    by_turns before width fit (λ s t. t.left.lines ≡ lines_after s.lines t.said)
    (λ s x m. refl) (λ s m. refl) (λ s m. refl) (λ s q m. refl)
    (λ s q x m e. line_lines before width s (fit q) x e)
    (λ s q t m e p. subst (λ ls. t.left.lines ≡ lines_after ls t.said) (kept_lines before width s (fit q) e) p)
    g st

-- and closes the halving, unless it was refused a check
turn_closes : (before : ℕ → ℕ → Bool) (width : ℕ) (fit : ℕ → Bool) (g : ℕ) (st : State) → IsNotRefused (turn before width fit g st).said → (turn before width fit g st).left.halving ≡ None
turn_closes before width fit g st =
    by_turns before width fit (λ s t. IsNotRefused t.said → t.left.halving ≡ None)
    (λ s x m told. refl) (λ s m told. ends_closed before width s (inl m)) (λ s m told. ends_closed before width s (inr m)) (λ s q m told. absurd told)
    (λ s q x m e told. line_closes before width s (fit q) x e)
    (λ s q t m e p. p)
    g st

-- with no halving open the checks are within the bound
closed_bounded : (before : ℕ → ℕ → Bool) (width : ℕ) (fit : ℕ → Bool) (lines : List Line) (n : ℕ) (h : Option Open) → IsAt before width fit lines n h → h ≡ None → n ≤ bound width lines
closed_bounded before width fit lines zero h at closed = omega arith
closed_bounded before width fit lines (suc n) None at closed = at.1
closed_bounded before width fit lines (suc n) (Some h) at closed = absurd (cc)

module _ (before : ℕ → ℕ → Bool) (width : ℕ) (fit : ℕ → Bool) (given : IsGiven before width fit) where
  -- every turn from a state that was reached reaches another
  pub turn_reached : (g : ℕ) (st : State) → IsReached before width fit st → IsReached before width fit (turn before width fit g st).left
  turn_reached g st =
      by_turns before width fit (λ s t. IsReached before width fit s → IsReached before width fit t.left)
      (λ s x m r. listed_reached before width fit given s x r m) (λ s m r. r) (λ s m r. r) (λ s q m r. r)
      (λ s q x m e r. answered_reached before width fit given s q r m)
      (λ s q t m e p r. p (answered_reached before width fit given s q r m))
      g st

  pub after_reached : (allowed : List ℕ) (st : State) → IsReached before width fit st → IsReached before width fit (after before width fit allowed st)
  after_reached [] st r = r
  after_reached (g ∷ allowed) st r = after_reached allowed (turn before width fit g st).left (turn_reached g st r)

  -- what is refused lies within the width
  turn_within : (g : ℕ) (st : State) → IsReached before width fit st → (s : ℕ) → (turn before width fit g st).said ≡ refused s → Within width s
  turn_within g st =
      by_turns before width fit (λ s t. IsReached before width fit s → (k : ℕ) → t.said ≡ refused k → Within width k)
      (λ s x m r k e. absurd (cc)) (λ s m r k e. absurd (cc)) (λ s m r k e. absurd (cc))
      (λ s q m r k e. let same : q ≡ k = cc in subst (Within width) same (of_move before width fit given s r (check q) m).0)
      (λ s q x m f r k e. absurd (cc))
      (λ s q t m f p r. p (answered_reached before width fit given s q r m))
      g st

  -- all is said to be listed exactly where nothing is left
  turn_all : (g : ℕ) (st : State) → IsReached before width fit st → ((turn before width fit g st).said ≡ all_listed) ↔ NothingLeft width st.lines
  turn_all g st =
      by_turns before width fit (λ s t. IsReached before width fit s → (t.said ≡ all_listed) ↔ NothingLeft width s.lines)
      (λ s x m r. (λ e. absurd (cc), λ whole. absurd ((of_move before width fit given s r (lists x) m).1 whole)))
      (λ s m r. (λ e. of_move before width fit given s r all m, λ whole. refl))
      (λ s m r. (λ e. absurd (cc), λ whole. absurd ((of_move before width fit given s r full m).1 whole)))
      (λ s q m r. (λ e. absurd (cc), λ whole. absurd ((of_move before width fit given s r (check q) m).2 whole)))
      (λ s q x m f r. (λ e. absurd (cc), λ whole. absurd ((of_move before width fit given s r (check q) m).2 whole)))
      (λ s q t m f p r. subst (λ ls. (t.said ≡ all_listed) ↔ NothingLeft width ls) (kept_lines before width s (fit q) f) (p (answered_reached before width fit given s q r m)))
      g st

  -- and no room to be left exactly where 512 lines are listed and something is
  turn_full : (g : ℕ) (st : State) → IsReached before width fit st → ((turn before width fit g st).said ≡ no_room) ↔ ((length st.lines ≡ most_lines) × (NothingLeft width st.lines → ⊥))
  turn_full g st =
      by_turns before width fit (λ s t. IsReached before width fit s → (t.said ≡ no_room) ↔ ((length s.lines ≡ most_lines) × (NothingLeft width s.lines → ⊥)))
      (λ s x m r. (λ e. absurd (cc), λ f. absurd (omega (arith, (of_move before width fit given s r (lists x) m).0, f.0))))
      (λ s m r. (λ e. absurd (cc), λ f. absurd (f.1 (of_move before width fit given s r all m))))
      (λ s m r. (λ e. of_move before width fit given s r full m, λ f. refl))
      (λ s q m r. (λ e. absurd (cc), λ f. absurd (omega (arith, (of_move before width fit given s r (check q) m).1, f.0))))
      (λ s q x m c r. (λ e. absurd (cc), λ f. absurd (omega (arith, (of_move before width fit given s r (check q) m).1, f.0))))
      (λ s q t m c p r.
      subst (λ ls. (t.said ≡ no_room) ↔ ((length ls ≡ most_lines) × (NothingLeft width ls → ⊥))) (kept_lines before width s (fit q) c)
      (p (answered_reached before width fit given s q r m)))
      g st

  -- nothing is left exactly where the listing is whole
  whole_is : (st : State) → IsReached before width fit st → NothingLeft width st.lines ↔ IsWhole width fit st.lines
  whole_is st r = given.lines.2 width fit st.lines given.down (all_true r.listed)

  -- so a turn is what it is to be
  pub turn_is : (g : ℕ) (st : State) → IsReached before width fit st → IsTurn before width fit st (turn before width fit g st).said (turn before width fit g st).left
  turn_is g st r =
      let whole = whole_is st r in
      let every = turn_all g st r in
      let room = turn_full g st r in
      let left : IsReached before width fit (turn before width fit g st).left = turn_reached g st r in
      record {
        grows = turn_grows before width fit g st;
        whole = (λ e. whole.0 (every.0 e), λ w. every.1 (whole.1 w));
        filled = (
          λ e. let f = room.0 e in (f.0, λ w. f.1 (whole.1 w)),
          λ f. room.1 (f.0, λ w. f.1 (whole.0 w)),
        );
        bounded = λ told.
            closed_bounded before width fit (turn before width fit g st).left.lines (turn before width fit g st).left.checks (turn before width fit g st).left.halving left.holds
            (turn_closes before width fit g st told);
        within = turn_within g st r;
      }

  -- and so are the lines
  pub listing_is : (st : State) → IsReached before width fit st → IsListing before width fit st.lines
  listing_is st r =
      let l : AreListed before width fit st.lines = r.listed in
      let falls = given.lines.3 before width fit st.lines given.down (all_true l) l.foremost in
      record { few = l.few; once = l.once; due = l.due; preferred = l.preferred; fall = falls.0; follow = falls.1 }
