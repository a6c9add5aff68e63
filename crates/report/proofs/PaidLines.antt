-- Each line takes a check of its own. Assumes nothing.
use Rattle.std.proofs.Common.{◌≡◌, ℕ, zero, suc, ◌+◌, ◌<◌, ◌≤◌, Bool, true, false, cond, nat_le}
use Rattle.std.proofs.Common.{nat_eq, List, [], ◌∷◌, length, Option, Some, None, refl, sym, subst}
use Rattle.std.proofs.Common.{arith}
use Rattle.std.proofs.lemmas.List.{length_push}
use Rattle.listing.specs.Lines.{most_lines, conflict, relaxation}
use Rattle.listing.specs.Orders.{foremost}
use Rattle.listing.specs.Steps.{Open, State, Move, start, check, lists, all, full, move, move_if}
use Rattle.listing.specs.Steps.{later_move, seed_move, answered, answered_if, answered_later}
use Rattle.listing.specs.Steps.{answered_seed}
use Rattle.listing.specs.Turns.{Turn, refused, says, turn_at, line_or, moved_or, turn, after}
use Rattle.listing.specs.declared.lines.Line.{Line}
use Rattle.listing.proofs.RunTurns.{turn-zero, turn-suc}
use Rattle.sets.specs.Members.{none}

-- how many halvings are open
abbrev pub opened : Option Open → ℕ
opened None = 0
opened (Some h) = 1

-- as many lines as checks at most, and one check more where a halving is open
abbrev pub IsPaid : State → Type 0
IsPaid st = length st.lines + opened st.halving ≤ st.checks

-- so it stays when a check is answered, which is counted before
keeps_seed : (st : State) (o : Option ℕ) (fit : Bool)
    → length st.lines + opened st.halving < st.checks
    → IsPaid (answered_seed st o fit).state
keeps_seed st None fit more = omega (arith, more)
keeps_seed st (Some seed) true more = omega (arith, more, length_push st.lines (relaxation seed))
keeps_seed st (Some seed) false more = omega (arith, more)

keeps_later : (before : ℕ → ℕ → Bool) (width : ℕ) (st : State) (o : Option Open) (fit : Bool)
    → length st.lines + opened st.halving < st.checks
    → IsPaid (answered_later before width st o fit).state
keeps_later before width st (Some h) fit more = omega (arith, more)
keeps_later before width st None fit more = keeps_seed st (foremost before width st.lines) fit more

keeps_if : (b : Bool) (before : ℕ → ℕ → Bool) (width : ℕ) (st : State) (fit : Bool)
    → length st.lines + opened st.halving < st.checks
    → IsPaid (answered_if b before width st fit).state
keeps_if true before width st true more = omega (arith, more)
keeps_if true before width st false more =
    omega (arith, more, length_push st.lines (conflict none))
keeps_if false before width st fit more = keeps_later before width st st.halving fit more

keeps_answered : (before : ℕ → ℕ → Bool) (width : ℕ) (st : State) (fit : Bool) → IsPaid st
    → IsPaid (answered before width st fit).state
keeps_answered before width st fit here =
    keeps_if (nat_eq st.checks 0) before width (record st { checks = suc st.checks }) fit
    (omega (arith, here))

-- only an open halving lists a line without a check
no_seed_lists : (b : Bool) (seed : ℕ) (x : Line) → cond b full (check seed) ≡ lists x → ⊥
no_seed_lists true seed x e = cc
no_seed_lists false seed x e = cc

seed_lists : (lines : List Line) (o : Option ℕ) (x : Line) → seed_move lines o ≡ lists x → ⊥
seed_lists lines None x e = cc
seed_lists lines (Some seed) x e = no_seed_lists (nat_le most_lines (length lines)) seed x e

later_lists : (before : ℕ → ℕ → Bool) (width : ℕ) (lines : List Line) (o : Option Open) (x : Line)
    → later_move before width lines o ≡ lists x → opened o ≡ 1
later_lists before width lines (Some h) x e = refl
later_lists before width lines None x e =
    absurd (seed_lists lines (foremost before width lines) x e)

if_lists : (b : Bool) (before : ℕ → ℕ → Bool) (width : ℕ) (st : State) (x : Line)
    → move_if b before width st ≡ lists x → opened st.halving ≡ 1
if_lists true before width st x e = absurd (cc)
if_lists false before width st x e = later_lists before width st.lines st.halving x e

paid_at : (m : Move) (st : State) (asked : ℕ → Turn) → IsPaid st
    → ((x : Line) → m ≡ lists x → opened st.halving ≡ 1) → ((s : ℕ) → IsPaid (asked s).left)
    → IsPaid (turn_at m st asked).left
paid_at (check s) st asked here one later = later s
paid_at (lists x) st asked here one later =
    omega (arith, here, one x refl, length_push st.lines x)
paid_at all st asked here one later = here
paid_at full st asked here one later = here

paid_later : (o : Option Line) (st : State) (go_on : State → Turn) → IsPaid st
    → IsPaid (go_on st).left → IsPaid (line_or o st go_on).left
paid_later (Some x) st go_on here later = here
paid_later None st go_on here later = later

-- and over a NEXT, and any NEXTs
pub paid_turn : (before : ℕ → ℕ → Bool) (width : ℕ) (fit : ℕ → Bool) (g : ℕ) (st : State)
    → IsPaid st → IsPaid (turn before width fit g st).left
paid_turn before width fit zero st here =
    subst (λ (t : Turn). IsPaid t.left) (sym (turn-zero before width fit st))
    (paid_at (move before width st) st (λ s. says (refused s) st) here
    (if_lists (nat_eq st.checks 0) before width st) (λ s. here))
paid_turn before width fit (suc g) st here =
    subst (λ (t : Turn). IsPaid t.left) (sym (turn-suc before width fit g st))
    (paid_at (move before width st) st
    (λ s. moved_or (answered before width st (fit s)) (turn before width fit g)) here
    (if_lists (nat_eq st.checks 0) before width st)
    (λ s.
    let next : State = (answered before width st (fit s)).state in
    let kept : IsPaid next = keeps_answered before width st (fit s) here in
    paid_later (answered before width st (fit s)).line next (turn before width fit g) kept
    (paid_turn before width fit g next kept)))

pub paid_after : (before : ℕ → ℕ → Bool) (width : ℕ) (fit : ℕ → Bool) (gs : List ℕ) (st : State)
    → IsPaid st → IsPaid (after before width fit gs st)
paid_after before width fit [] st here = here
paid_after before width fit (g ∷ gs) st here =
    paid_after before width fit gs (turn before width fit g st).left
    (paid_turn before width fit g st here)

pub paid_start : IsPaid start
paid_start = omega arith
