-- A NEXT is answered no more checks than it is allowed. Assumes nothing.
use Rattle.std.proofs.Common.{◌≡◌, ℕ, zero, suc, ◌+◌, ◌≤◌, Bool, Option, Some, None}
use Rattle.std.proofs.Common.{sym, subst, arith}
use Rattle.listing.specs.Steps.{State, Move, check, lists, all, full, move, answered}
use Rattle.listing.specs.Turns.{Turn, refused, says, turn_at, line_or, moved_or, turn}
use Rattle.listing.specs.declared.lines.Line.{Line}
use Rattle.listing.proofs.RunMoves.{is_answer}
use Rattle.listing.proofs.RunTurns.{turn-zero, turn-suc}

-- whatever the move, if no check leads to more
few_at : (m : Move) (st : State) (asked : ℕ → Turn) (n : ℕ) → st.checks ≤ n
    → ((s : ℕ) → (asked s).left.checks ≤ n) → (turn_at m st asked).left.checks ≤ n
few_at (check s) st asked n here later = later s
few_at (lists x) st asked n here later = here
few_at all st asked n here later = here
few_at full st asked n here later = here

few_later : (o : Option Line) (st : State) (go_on : State → Turn) (n : ℕ) → st.checks ≤ n
    → (go_on st).left.checks ≤ n → (line_or o st go_on).left.checks ≤ n
few_later (Some x) st go_on n here later = here
few_later None st go_on n here later = later

pub few_answered : (before : ℕ → ℕ → Bool) (width : ℕ) (fit : ℕ → Bool) (g : ℕ) (st : State)
    → (turn before width fit g st).left.checks ≤ st.checks + g
few_answered before width fit zero st =
    subst (λ (t : Turn). t.left.checks ≤ st.checks + 0) (sym (turn-zero before width fit st))
    (few_at (move before width st) st (λ s. says (refused s) st) (st.checks + 0) (omega arith)
    (λ s. omega arith))
few_answered before width fit (suc g) st =
    subst (λ (t : Turn). t.left.checks ≤ st.checks + suc g)
    (sym (turn-suc before width fit g st))
    (few_at (move before width st) st
    (λ s. moved_or (answered before width st (fit s)) (turn before width fit g))
    (st.checks + suc g) (omega arith)
    (λ s.
    let next : State = (answered before width st (fit s)).state in
    let counted : next.checks ≡ suc st.checks = (is_answer before width st (fit s)).counted in
    few_later (answered before width st (fit s)).line next (turn before width fit g)
    (st.checks + suc g) (omega (arith, counted))
    (omega (arith, counted, few_answered before width fit g next))))
