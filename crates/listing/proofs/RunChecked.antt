-- How many checks a NEXT is answered, and which. Assumes nothing.
use Rattle.std.proofs.Common.{◌≡◌, ℕ, zero, suc, ◌+◌, Bool, List, [], length, Option, Some, None, sym, ap, ◌∙◌, subst, refl, arith}
use Rattle.std.specs.List.{All}
use Rattle.std.proofs.lemmas.List.Elements.{All-nil, All-cons}
use Rattle.sets.specs.Requests.{Within}
use Rattle.listing.specs.RunLaws.{CheckedCount, RefusedCounts}
use Rattle.listing.specs.Steps.{State, Move, check, lists, all, full, move, Moved, answered}
use Rattle.listing.specs.Turns.{refused, Turn, says, turn_at, line_or, moved_or, turn, sets_at, sets_later, sets_after, sets_checked}
use Rattle.listing.specs.declared.lines.Line.{Line}
use Rattle.listing.proofs.RunMoves.{of_move, is_answer}
use Rattle.listing.proofs.RunReached.{IsGiven, IsReached, answered_reached}
use Rattle.listing.proofs.RunTurns.{turn-zero, turn-suc, refused_stays}

-- the sets of a NEXT with no check allowed, and of one with one more
pub sets_checked-zero : (before : ℕ → ℕ → Bool) (width : ℕ) (fit : ℕ → Bool) (st : State) → sets_checked before width fit 0 st ≡ []
unfolding sets_checked
sets_checked-zero before width fit st = refl

pub sets_checked-suc : (before : ℕ → ℕ → Bool) (width : ℕ) (fit : ℕ → Bool) (g : ℕ) (st : State)
    → sets_checked before width fit (suc g) st ≡ sets_at (move before width st) (λ s. sets_after (answered before width st (fit s)) (sets_checked before width fit g))
unfolding sets_checked
sets_checked-suc before width fit g st = refl

-- with no check allowed none is counted
none_counted : (m : Move) (st : State) → (turn_at m st (λ k. says (refused k) st)).left.checks ≡ st.checks
none_counted (check k) st = refl
none_counted (lists x) st = refl
none_counted all st = refl
none_counted full st = refl

-- a check counts for one, and those after it as many as they are
counted_at : (m : Move) (st : State) (rest : ℕ → List ℕ) (asked : ℕ → Turn) → ((s : ℕ) → suc st.checks + length (rest s) ≡ (asked s).left.checks)
    → st.checks + length (sets_at m rest) ≡ (turn_at m st asked).left.checks
counted_at (check s) st rest asked later = omega (arith, later s)
counted_at (lists x) st rest asked later = omega arith
counted_at all st rest asked later = omega arith
counted_at full st rest asked later = omega arith

counted_later : (o : Option Line) (st : State) (rest : State → List ℕ) (go_on : State → Turn) → (st.checks + length (rest st) ≡ (go_on st).left.checks)
    → st.checks + length (sets_later o st rest) ≡ (line_or o st go_on).left.checks
counted_later (Some x) st rest go_on later = omega arith
counted_later None st rest go_on later = later

pub checked_count : CheckedCount
checked_count before width fit zero st =
    omega (
      arith,
      ap length (sets_checked-zero before width fit st),
      ap (λ t. t.left.checks) (turn-zero before width fit st),
      none_counted (move before width st) st,
    )
checked_count before width fit (suc g) st =
    let sets : State → List ℕ = sets_checked before width fit g in
    let go_on : State → Turn = turn before width fit g in
    let counts : st.checks + length (sets_at (move before width st) (λ s. sets_after (answered before width st (fit s)) sets))
    ≡ (turn_at (move before width st) st (λ s. moved_or (answered before width st (fit s)) go_on)).left.checks =
    counted_at (move before width st) st (λ s. sets_after (answered before width st (fit s)) sets) (λ s. moved_or (answered before width st (fit s)) go_on)
    (λ s.
    let m : Moved = answered before width st (fit s) in
    let later : m.state.checks + length (sets_later m.line m.state sets) ≡ (line_or m.line m.state go_on).left.checks =
    counted_later m.line m.state sets go_on (checked_count before width fit g m.state)
    in omega (arith, later, (is_answer before width st (fit s)).counted))
    in ap (λ xs. st.checks + length xs) (sets_checked-suc before width fit g st) ∙ counts ∙ ap (λ t. t.left.checks) (sym (turn-suc before width fit g st))

-- with no check allowed, what is refused is the check that is due
refused_due : (m : Move) (st : State) (s : ℕ) → (turn_at m st (λ k. says (refused k) st)).said ≡ refused s → m ≡ check s
refused_due (check k) st s e = let same : k ≡ s = cc in ap (λ q. check q) same
refused_due (lists x) st s e = absurd (cc)
refused_due all st s e = absurd (cc)
refused_due full st s e = absurd (cc)

-- what holds of a turn that was refused a check, if it does after each answer
refused_holds_at : (P : Turn → Type 0) (m : Move) (st : State) (f : ℕ → Turn) (s : ℕ) → ((k : ℕ) → (f k).said ≡ refused s → P (f k)) → (turn_at m st f).said ≡ refused s → P (turn_at m st f)
refused_holds_at P (check k) st f s later e = later k e
refused_holds_at P (lists x) st f s later e = absurd (cc)
refused_holds_at P all st f s later e = absurd (cc)
refused_holds_at P full st f s later e = absurd (cc)

refused_holds_later : (P : Turn → Type 0) (o : Option Line) (st : State) (f : State → Turn) (s : ℕ) → ((f st).said ≡ refused s → P (f st)) → (line_or o st f).said ≡ refused s → P (line_or o st f)
refused_holds_later P (Some x) st f s later e = absurd (cc)
refused_holds_later P None st f s later e = later e

-- it has counted so many checks, and this one is due next
HasCounted : (before : ℕ → ℕ → Bool) (width n s : ℕ) → Turn → Type 0
HasCounted before width n s t = (t.left.checks ≡ n) × (move before width t.left ≡ check s)

refused_has_counted : (before : ℕ → ℕ → Bool) (width : ℕ) (fit : ℕ → Bool) (g n s : ℕ) (st : State) → st.checks + g ≡ n → (turn before width fit g st).said ≡ refused s
    → HasCounted before width n s (turn before width fit g st)
unfolding HasCounted
refused_has_counted before width fit zero n s st sum e =
    let whole : turn before width fit 0 st ≡ turn_at (move before width st) st (λ k. says (refused k) st) = turn-zero before width fit st in
    let said = sym (ap (λ t. t.said) whole) ∙ e in
    let stays : (turn before width fit 0 st).left ≡ st = ap (λ t. t.left) whole ∙ refused_stays (move before width st) st s said in
    (omega (arith, ap (λ l. l.checks) stays), ap (move before width) stays ∙ refused_due (move before width st) st s said)
refused_has_counted before width fit (suc g) n s st sum e =
    let whole = turn-suc before width fit g st in
    subst (HasCounted before width n s) (sym whole)
    (refused_holds_at (HasCounted before width n s) (move before width st) st (λ k. moved_or (answered before width st (fit k)) (turn before width fit g)) s
    (λ k. refused_holds_later (HasCounted before width n s) (answered before width st (fit k)).line (answered before width st (fit k)).state (turn before width fit g) s
    (refused_has_counted before width fit g n s (answered before width st (fit k)).state (omega (arith, sum, (is_answer before width st (fit k)).counted))))
    (sym (ap (λ t. t.said) whole) ∙ e))

pub refused_counts : RefusedCounts
unfolding HasCounted
refused_counts before width fit g s st e = refused_has_counted before width fit g (st.checks + g) s st refl e

-- what holds of every set of a turn, if it does of the check that is due and of those after it
every_at : (P : ℕ → Type 0) (m : Move) (rest : ℕ → List ℕ) → ((s : ℕ) → m ≡ check s → P s × All P (rest s)) → All P (sets_at m rest)
every_at P (check s) rest later = let both = later s refl in All-cons P s (rest s) both.0 both.1
every_at P (lists x) rest later = All-nil P
every_at P all rest later = All-nil P
every_at P full rest later = All-nil P

every_later : (P : ℕ → Type 0) (o : Option Line) (st : State) (rest : State → List ℕ) → All P (rest st) → All P (sets_later o st rest)
every_later P (Some x) st rest later = All-nil P
every_later P None st rest later = later

-- every set that a NEXT checks lies within the width
pub sets_within : (before : ℕ → ℕ → Bool) (width : ℕ) (fit : ℕ → Bool) → IsGiven before width fit → (g : ℕ) (st : State) → IsReached before width fit st → All (Within width) (sets_checked before width fit g st)
sets_within before width fit given zero st r = subst (All (Within width)) (sym (sets_checked-zero before width fit st)) (All-nil (Within width))
sets_within before width fit given (suc g) st r =
    subst (All (Within width)) (sym (sets_checked-suc before width fit g st))
    (every_at (Within width) (move before width st) (λ s. sets_after (answered before width st (fit s)) (sets_checked before width fit g))
    (λ s m. (
      (of_move before width fit given st r (check s) m).0,
      every_later (Within width) (answered before width st (fit s)).line (answered before width st (fit s)).state (sets_checked before width fit g)
          (sets_within before width fit given g (answered before width st (fit s)).state (answered_reached before width fit given st s r m)),
    )))
