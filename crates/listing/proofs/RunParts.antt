-- A state by its parts, and what it does after the first check. Assumes nothing.
use Rattle.std.proofs.Common.{◌≡◌, ℕ, suc, Bool, true, false, cond, List, Option, Some, None, refl, ap, arith}
use Rattle.std.specs.Prelude.{nat_eq, nat_le, length}
use Rattle.std.proofs.lemmas.Bool.{ne_eqb}
use Rattle.listing.specs.Lines.{most_lines}
use Rattle.listing.specs.Steps.{Open, State, check, lists, full, seed_move, later_move, move_if, move, answered_later, answered_if, answered}
use Rattle.listing.specs.declared.lines.Line.{Line}

-- a state by its parts
abbrev pub held : List Line → ℕ → Option Open → State
held lines n h = record { lines = lines; checks = n; halving = h }

-- after the first check the empty set is not checked again
not_first : (n : ℕ) → nat_eq (suc n) 0 ≡ false
not_first n = ne_eqb (suc n) 0 (λ e. omega arith)

pub move_later : (before : ℕ → ℕ → Bool) (width : ℕ) (lines : List Line) (n : ℕ) (h : Option Open) → move before width (held lines (suc n) h) ≡ later_move before width lines h
move_later before width lines n h = ap (λ b. move_if b before width (held lines (suc n) h)) (not_first n)

pub answer_later : (before : ℕ → ℕ → Bool) (width : ℕ) (lines : List Line) (n : ℕ) (h : Option Open) (b : Bool)
    → answered before width (held lines (suc n) h) b ≡ answered_later before width (held lines (suc (suc n)) h) h b
answer_later before width lines n h b = ap (λ f. answered_if f before width (held lines (suc (suc n)) h) b) (not_first n)

-- a seed that is checked is one for which there is room
pub seed_checked : (b : Bool) (seed s : ℕ) → cond b full (check seed) ≡ check s → (b ≡ false) × (seed ≡ s)
seed_checked true seed s e = absurd (cc)
seed_checked false seed s e = (refl, cc)

-- and no line
cond_lists : (b : Bool) (s : ℕ) (x : Line) → cond b full (check s) ≡ lists x → ⊥
cond_lists true s x e = cc
cond_lists false s x e = cc

pub seed_lists : (lines : List Line) (x : Line) (o : Option ℕ) → seed_move lines o ≡ lists x → ⊥
seed_lists lines x None e = cc
seed_lists lines x (Some s) e = cond_lists (nat_le most_lines (length lines)) s x e
