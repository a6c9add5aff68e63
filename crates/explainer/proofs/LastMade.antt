-- The last call of some moments: the one that stands at the last place, and the one that was put behind the others. Assumes nothing.
use Rattle.std.proofs.Common.{◌≡◌, ℕ, zero, suc, List, [], ◌∷◌, ◌++◌, length, get_or, Some, refl, sym, ap, arith}
use Rattle.explainer.specs.Choosing.{after_line, until_end}
use Rattle.explainer.specs.Moments.{next_of, last_made}
use Rattle.explainer.specs.declared.moments.Made.{Made}
use Rattle.explainer.specs.declared.moments.Moment.{Moment}

-- the one at the last place
pub last_at : (moments : List Moment) (i : ℕ) (x : Moment) → suc i ≡ length moments → x ≡ get_or moments i x → last_made moments ≡ Some x.made
last_at [] i x e is = absurd (omega (arith, e))
last_at (a ∷ []) zero x e is = ap (λ y. Some y.made) (sym is)
last_at (a ∷ []) (suc i) x e is = absurd (omega (arith, e))
last_at (a ∷ (b ∷ xs)) zero x e is = absurd (omega (arith, e))
last_at (a ∷ (b ∷ xs)) (suc i) x e is = last_at (b ∷ xs) i x (omega (arith, e)) is

-- the one behind the others
pub last_push : (past : List Moment) (x : Moment) → last_made (past ++ x ∷ []) ≡ Some x.made
last_push [] x = refl
last_push (y ∷ []) x = refl
last_push (y ∷ (z ∷ past)) x = last_push (z ∷ past) x

-- until a NEXT answers no line, what is chosen follows on the last one
pub until_last : (moments : List Moment) (made : Made) → last_made moments ≡ Some made → until_end moments ≡ after_line (next_of made)
until_last [] made is = absurd (cc)
until_last (x ∷ []) made is = let same : x.made ≡ made = cc in ap (λ m. after_line (next_of m)) same
until_last (x ∷ (y ∷ ys)) made is = until_last (y ∷ ys) made is

pub until_push : (past : List Moment) (x : Moment) → until_end (past ++ x ∷ []) ≡ after_line (next_of x.made)
until_push past x = until_last (past ++ x ∷ []) x.made (last_push past x)
