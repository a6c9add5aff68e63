-- The stages of a run with one more at the end, and the steps after some NEXTs and one more. Assumes nothing.
use Rattle.std.proofs.Common.{◌≡◌, ℕ, ◌+◌, Bool, List, [], ◌∷◌, ◌++◌, length, Option, refl, sym, ap, ◌∙◌, append_assoc, append-nil, arith}
use Rattle.std.proofs.lemmas.List.{map-append}
use Rattle.listing.specs.Steps.{State}
use Rattle.listing.specs.Turns.{turn, after}
use Rattle.explainer.specs.Moments.{Answer, next_of, line_of, lines_answered, later_or, last_next}
use Rattle.explainer.specs.Stages.{Stage, moments, oracle_after, lines_listed, checks_answered}
use Rattle.explainer.specs.declared.moments.Moment.{Moment}

-- what is recorded
pub moments_push : {O : Type 0} (stages : List (Stage O)) (x : Stage O) → moments (stages ++ x ∷ []) ≡ moments stages ++ x.moment ∷ []
moments_push {O} stages x = map-append (λ (y : Stage O). y.moment) stages (x ∷ [])

-- the oracle after the last stage is that of its explainer
pub oracle_push : {O : Type 0} (o : O) (stages : List (Stage O)) (x : Stage O) → oracle_after o (stages ++ x ∷ []) ≡ x.stands.oracle
oracle_push o [] x = refl
oracle_push o (y ∷ stages) x = oracle_push y.stands.oracle stages x

-- the lines of moments and of those behind them
answered_append : (xs ys : List Moment) → lines_answered (xs ++ ys) ≡ lines_answered xs ++ lines_answered ys
answered_append [] ys = refl
answered_append (x ∷ xs) ys =
    ap (λ l. line_of (next_of x.made) ++ l) (answered_append xs ys)
    ∙ sym (append_assoc (line_of (next_of x.made)) (lines_answered xs) (lines_answered ys))

-- and of stages,
pub listed_append : {O : Type 0} (xs ys : List (Stage O)) → lines_listed (xs ++ ys) ≡ lines_listed xs ++ lines_listed ys
listed_append {O} xs ys = ap lines_answered (map-append (λ (x : Stage O). x.moment) xs ys) ∙ answered_append (moments xs) (moments ys)

-- and of one more
pub lines_push : {O : Type 0} (stages : List (Stage O)) (x : Stage O) → lines_listed (stages ++ x ∷ []) ≡ lines_listed stages ++ line_of (next_of x.moment.made)
lines_push stages x = listed_append stages (x ∷ []) ∙ ap (λ l. lines_listed stages ++ l) (append-nil (line_of (next_of x.moment.made)))

-- how many checks were answered to NEXT
pub checks_push : {O : Type 0} (stages : List (Stage O)) (x : Stage O) → checks_answered (stages ++ x ∷ []) ≡ checks_answered stages + length x.told
checks_push [] x = omega arith
checks_push (y ∷ stages) x = omega (arith, checks_push stages x)

-- the last answer of NEXT
pub last_next_push : {O : Type 0} (before : Option Answer) (stages : List (Stage O)) (x : Stage O)
    → last_next before (moments (stages ++ x ∷ [])) ≡ later_or (last_next before (moments stages)) (next_of x.moment.made)
last_next_push before [] x = refl
last_next_push before (y ∷ stages) x = last_next_push (later_or before (next_of y.moment.made)) stages x

-- the state after NEXTs and further NEXTs
pub after_append : (before : ℕ → ℕ → Bool) (width : ℕ) (fit : ℕ → Bool) (first later : List ℕ) (st : State)
    → after before width fit (first ++ later) st ≡ after before width fit later (after before width fit first st)
after_append before width fit [] later st = refl
after_append before width fit (g ∷ first) later st = after_append before width fit first later (turn before width fit g st).left
