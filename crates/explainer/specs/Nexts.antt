-- NEXT: which calls it makes of its oracle, and what it answers. Assumes nothing.
use Rattle.std.specs.Prelude.{◌≡◌, ℕ, Bool, List, [], ◌∷◌, Ok, MatchOption}
use Rattle.oracle.specs.Asking.{verdict}
use Rattle.oracle.specs.Calls.{Checks}
use Rattle.oracle.specs.Refused.{IsRefusedWith}
use Rattle.listing.specs.Steps.{State, Move, check, lists, all, full, move, with_line, answered}
use Rattle.explainer.specs.Moments.{Answer}
use Rattle.explainer.specs.Preferring.{Order}
use Rattle.explainer.specs.Refused.{next_tells, IsRefusedBy}
use Rattle.explainer.specs.declared.moments.NextAnswer.TheVariants.{Line, End}

-- where no further check is answered: what the steps are to do is answered and no call is made, or
-- the set that is due is checked once, and its refusal is passed on; where there is no room it is
-- refused with number 12 and no value
abbrev pub Ends : {O : Type 0} → Checks O → Move → State → O → Answer → State → O → Type 0
Ends checks (check s) st o r st' p = IsRefusedBy checks o s r p × (st' ≡ st)
Ends checks (lists x) st o r st' p = (r ≡ Ok (Line x)) × (p ≡ o) × (st' ≡ with_line st x)
Ends checks all st o r st' p = (r ≡ Ok End) × (p ≡ o) × (st' ≡ st)
Ends checks full st o r st' p = IsRefusedWith next_tells r 12 [] × (p ≡ o) × (st' ≡ st)

-- NEXT from a state and an oracle, where these answers were told to it: each by one CHECK of the
-- set that the steps are to check, until one of them lists a line
abbrev pub NextLeads : {O : Type 0} → Order → (width : ℕ) → Checks O → (told : List Bool) → State
    → O → Answer → State → O → Type 0
NextLeads order width checks [] st o r st' p =
    Ends checks (move (order width) width st) st o r st' p
NextLeads {O} order width checks (fit ∷ told) st o r st' p =
    (s : ℕ) × (q : O) × (move (order width) width st ≡ check s) × checks o s (Ok (verdict fit)) q
    × MatchOption (answered (order width) width st fit).line
    (NextLeads order width checks told (answered (order width) width st fit).state q r st' p)
    (λ x. (told ≡ []) × (r ≡ Ok (Line x)) × (p ≡ q)
    × (st' ≡ (answered (order width) width st fit).state))
