-- The steps of a NEXT: what it does about each move, what holds of it by induction, and that it goes on after a refusal as if nothing had been refused. Assumes nothing.
use Rattle.std.proofs.Common.{◌≡◌, ℕ, zero, suc, ◌+◌, Bool, Option, Some, None, refl, sym, ap, ◌∙◌, subst, arith}
use Rattle.listing.specs.RunLaws.{IsNotRefused, RefusedGoesOn, MoreIsSame}
use Rattle.listing.specs.Steps.{State, Move, check, lists, all, full, move, with_line, answered}
use Rattle.listing.specs.Turns.{listed, all_listed, no_room, refused, Turn, says, turn_at, line_or, moved_or, turn}
use Rattle.listing.specs.declared.lines.Line.{Line}

-- a NEXT with no check allowed, and one with one more
pub turn-zero : (before : ℕ → ℕ → Bool) (width : ℕ) (fit : ℕ → Bool) (st : State) → turn before width fit 0 st ≡ turn_at (move before width st) st (λ s. says (refused s) st)
unfolding turn
turn-zero before width fit st = refl

pub turn-suc : (before : ℕ → ℕ → Bool) (width : ℕ) (fit : ℕ → Bool) (g : ℕ) (st : State)
    → turn before width fit (suc g) st ≡ turn_at (move before width st) st (λ s. moved_or (answered before width st (fit s)) (turn before width fit g))
unfolding turn
turn-suc before width fit g st = refl

-- what holds of a turn, by its move
at_move : (P : Turn → Type 0) (m : Move) (st : State) (asked : ℕ → Turn) → ((s : ℕ) → m ≡ check s → P (asked s)) → ((x : Line) → m ≡ lists x → P (says (listed x) (with_line st x)))
    → (m ≡ all → P (says all_listed st)) → (m ≡ full → P (says no_room st)) → P (turn_at m st asked)
at_move P (check s) st asked c l a f = c s refl
at_move P (lists x) st asked c l a f = l x refl
at_move P all st asked c l a f = a refl
at_move P full st asked c l a f = f refl

-- and by whether a line was listed
at_line : (P : Turn → Type 0) (o : Option Line) (st : State) (go_on : State → Turn) → ((x : Line) → o ≡ Some x → P (says (listed x) st)) → (o ≡ None → P (go_on st)) → P (line_or o st go_on)
at_line P (Some x) st go_on some none = some x refl
at_line P None st go_on some none = none refl

-- what holds of a state and its turn, if each move and each answer keeps it
pub by_turns : (before : ℕ → ℕ → Bool) (width : ℕ) (fit : ℕ → Bool) (P : State → Turn → Type 0)
    → ((st : State) (x : Line) → move before width st ≡ lists x → P st (says (listed x) (with_line st x)))
    → ((st : State) → move before width st ≡ all → P st (says all_listed st))
    → ((st : State) → move before width st ≡ full → P st (says no_room st))
    → ((st : State) (s : ℕ) → move before width st ≡ check s → P st (says (refused s) st))
    → ((st : State) (s : ℕ) (x : Line) → move before width st ≡ check s → (answered before width st (fit s)).line ≡ Some x → P st (says (listed x) (answered before width st (fit s)).state))
    → ((st : State) (s : ℕ) (t : Turn) → move before width st ≡ check s → (answered before width st (fit s)).line ≡ None → P (answered before width st (fit s)).state t → P st t)
    → (g : ℕ) (st : State) → P st (turn before width fit g st)
by_turns before width fit P l a f r c n zero st =
    subst (P st) (sym (turn-zero before width fit st))
    (at_move (P st) (move before width st) st (λ s. says (refused s) st) (r st) (l st) (a st) (f st))
by_turns before width fit P l a f r c n (suc g) st =
    subst (P st) (sym (turn-suc before width fit g st))
    (at_move (P st) (move before width st) st (λ s. moved_or (answered before width st (fit s)) (turn before width fit g))
    (λ s m. at_line (P st) (answered before width st (fit s)).line (answered before width st (fit s)).state (turn before width fit g)
    (λ x e. c st s x m e)
    (λ e. n st s (turn before width fit g (answered before width st (fit s)).state) m e (by_turns before width fit P l a f r c n g (answered before width st (fit s)).state)))
    (l st) (a st) (f st))

-- a refused check leaves the state as it was
pub refused_stays : (m : Move) (st : State) (s : ℕ) → (turn_at m st (λ k. says (refused k) st)).said ≡ refused s → (turn_at m st (λ k. says (refused k) st)).left ≡ st
refused_stays (check k) st s e = refl
refused_stays (lists x) st s e = absurd (cc)
refused_stays all st s e = refl
refused_stays full st s e = refl

-- what follows on a refusal follows if it does after each answer
refused_asked : (H : Turn → Turn) (m : Move) (st : State) (f g : ℕ → Turn) (s : ℕ) → ((k : ℕ) → (f k).said ≡ refused s → g k ≡ H (f k)) → (turn_at m st f).said ≡ refused s → turn_at m st g ≡ H (turn_at m st f)
refused_asked H (check k) st f g s later e = later k e
refused_asked H (lists x) st f g s later e = absurd (cc)
refused_asked H all st f g s later e = absurd (cc)
refused_asked H full st f g s later e = absurd (cc)

refused_moved : (H : Turn → Turn) (o : Option Line) (st : State) (f g : State → Turn) (s : ℕ) → ((f st).said ≡ refused s → g st ≡ H (f st)) → (line_or o st f).said ≡ refused s → line_or o st g ≡ H (line_or o st f)
refused_moved H (Some x) st f g s later e = absurd (cc)
refused_moved H None st f g s later e = later e

pub refused_goes_on : RefusedGoesOn
refused_goes_on before width fit zero h s st e =
    let whole : turn before width fit 0 st ≡ turn_at (move before width st) st (λ k. says (refused k) st) = turn-zero before width fit st in
    let stays : (turn before width fit 0 st).left ≡ st = ap (λ t. t.left) whole ∙ refused_stays (move before width st) st s (sym (ap (λ t. t.said) whole) ∙ e) in
    ap (λ k. turn before width fit k st) (omega arith) ∙ ap (turn before width fit h) (sym stays)
refused_goes_on before width fit (suc g) h s st e =
    let few : ℕ → Turn = λ k. moved_or (answered before width st (fit k)) (turn before width fit g) in
    let more : ℕ → Turn = λ k. moved_or (answered before width st (fit k)) (turn before width fit (g + h)) in
    let then_h : Turn → Turn = λ t. turn before width fit h t.left in
    let whole : turn before width fit (suc g) st ≡ turn_at (move before width st) st few = turn-suc before width fit g st in
    let goes_on : turn_at (move before width st) st more ≡ then_h (turn_at (move before width st) st few) =
    refused_asked then_h (move before width st) st few more s
    (λ k. refused_moved then_h (answered before width st (fit k)).line (answered before width st (fit k)).state (turn before width fit g) (turn before width fit (g + h)) s
    (refused_goes_on before width fit g h s (answered before width st (fit k)).state))
    (sym (ap (λ t. t.said) whole) ∙ e)
    in ap (λ k. turn before width fit k st) (omega arith) ∙ turn-suc before width fit (g + h) st ∙ goes_on ∙ ap then_h (sym whole)

-- what is said without a refusal is the same if it is after each answer
told_asked : (m : Move) (st : State) (f g : ℕ → Turn) → ((k : ℕ) → IsNotRefused (f k).said → g k ≡ f k) → IsNotRefused (turn_at m st f).said → turn_at m st g ≡ turn_at m st f
told_asked (check k) st f g same told = same k told
told_asked (lists x) st f g same told = refl
told_asked all st f g same told = refl
told_asked full st f g same told = refl

told_moved : (o : Option Line) (st : State) (f g : State → Turn) → (IsNotRefused (f st).said → g st ≡ f st) → IsNotRefused (line_or o st f).said → line_or o st g ≡ line_or o st f
told_moved (Some x) st f g same told = refl
told_moved None st f g same told = same told

-- without a check allowed, what any grant does is the same
told_none : (m : Move) (st : State) (f : ℕ → Turn) → IsNotRefused (turn_at m st (λ k. says (refused k) st)).said → turn_at m st f ≡ turn_at m st (λ k. says (refused k) st)
told_none m st f told = told_asked m st (λ k. says (refused k) st) f (λ k no. absurd no) told

pub more_is_same : MoreIsSame
more_is_same before width fit zero zero st told = refl
more_is_same before width fit zero (suc h) st told =
    let whole : turn before width fit 0 st ≡ turn_at (move before width st) st (λ k. says (refused k) st) = turn-zero before width fit st in
    ap (λ k. turn before width fit k st) (omega arith)
    ∙ turn-suc before width fit h st
    ∙ told_none (move before width st) st (λ k. moved_or (answered before width st (fit k)) (turn before width fit h)) (subst (λ t. IsNotRefused t.said) whole told)
    ∙ sym whole
more_is_same before width fit (suc g) h st told =
    let few : ℕ → Turn = λ k. moved_or (answered before width st (fit k)) (turn before width fit g) in
    let more : ℕ → Turn = λ k. moved_or (answered before width st (fit k)) (turn before width fit (g + h)) in
    let whole : turn before width fit (suc g) st ≡ turn_at (move before width st) st few = turn-suc before width fit g st in
    let same : turn_at (move before width st) st more ≡ turn_at (move before width st) st few =
    told_asked (move before width st) st few more
    (λ k. told_moved (answered before width st (fit k)).line (answered before width st (fit k)).state (turn before width fit g) (turn before width fit (g + h))
    (more_is_same before width fit g h (answered before width st (fit k)).state))
    (subst (λ t. IsNotRefused t.said) whole told)
    in ap (λ k. turn before width fit k st) (omega arith) ∙ turn-suc before width fit (g + h) st ∙ same ∙ sym whole
