-- What a move says of the state, and what an answer changes in it. Assumes nothing.
use Rattle.std.proofs.Common.{◌≡◌, ℕ, zero, suc, ◌<◌, Bool, true, false, List, [], ◌∷◌, ◌++◌, length, Option, Some, None, ◌⊎◌, inl, inr, refl, sym, ap, ◌∙◌, subst, pow_pos, pow_mono, lt_of_lt_of_le, arith}
use Rattle.std.specs.Prelude.{IfSome, nat_le, nat_eq}
use Rattle.std.proofs.lemmas.Bool.{leb-true, leb-false, cond_both}
use Rattle.sets.specs.Members.{none}
use Rattle.sets.specs.Requests.{widest, Within}
use Rattle.sets.proofs.Parts.{part_below}
use Rattle.listing.specs.Halving.{Halved, asks, ends, halving_of}
use Rattle.listing.specs.Lines.{most_lines, NothingLeft}
use Rattle.listing.specs.Orders.{foremost}
use Rattle.listing.specs.Steps.{Open, State, Move, check, lists, all, full, halving_move, seed_move, move, Moved, answered_seed, answered_later, answered_if, answered}
use Rattle.listing.specs.declared.lines.Line.{Line}
use Rattle.listing.proofs.RunListed.{AreListed}
use Rattle.listing.proofs.RunParts.{held, move_later}
use Rattle.listing.proofs.RunReached.{IsGiven, IsAt, IsOpen, IsReached}

-- what a move says of the state: what is checked lies within the width; a check and a line need room, and something that is left; all is
-- listed where nothing is left, and there is no room where 512 lines are listed and something is left
abbrev pub OfMove : (width : ℕ) (lines : List Line) → Move → Type 0
OfMove width lines (check s) = Within width s × (length lines < most_lines) × (NothingLeft width lines → ⊥)
OfMove width lines (lists x) = (length lines < most_lines) × (NothingLeft width lines → ⊥)
OfMove width lines all = NothingLeft width lines
OfMove width lines full = (length lines ≡ most_lines) × (NothingLeft width lines → ⊥)

module _ (before : ℕ → ℕ → Bool) (width : ℕ) (fit : ℕ → Bool) (given : IsGiven before width fit) (lines : List Line) (l : AreListed before width fit lines) where
  -- the first check
  of_first : lines ≡ [] → OfMove width lines (check none)
  of_first nothing = (
    pow_pos width,
    omega (arith, ap length nothing),
    λ whole. (subst (NothingLeft width) nothing whole) none (pow_pos width, refl),
  )

  -- a seed, or none
  of_seed : (o : Option ℕ) → foremost before width lines ≡ o → OfMove width lines (seed_move lines o)
  of_seed None found = (given.orders.2 before width lines given.order).0 found
  of_seed (Some s) found =
      let f = (given.orders.1 before width lines s given.order).0 found in
      let some : NothingLeft width lines → ⊥ = λ whole. whole s f.0 in
      cond_both (nat_le most_lines (length lines)) full (check s) (OfMove width lines)
      (λ no_more. (omega (arith, leb-true most_lines (length lines) no_more, l.few), some))
      (λ more. (f.0.0, leb-false most_lines (length lines) more, some))

  -- an open halving
  of_halving : (h : Open) → IsOpen before width fit lines h → (x : Halved) → halving_of h.seed h.answers ≡ x → OfMove width lines (halving_move x)
  of_halving h o (asks s) is =
      let small : Within widest h.seed = lt_of_lt_of_le o.foremost.0.0 (pow_mono given.narrow) in
      (part_below width s h.seed (given.halvings.3 h.seed s h.answers small is) o.foremost.0.0, o.room, λ whole. whole h.seed o.foremost.0)
  of_halving h o (ends result rest) is = (o.room, λ whole. whole h.seed o.foremost.0)

  of_parts : (n : ℕ) (h : Option Open) → IsAt before width fit lines n h → OfMove width lines (move before width (held lines n h))
  of_parts zero None at = of_first at
  of_parts zero (Some h) at = absurd at
  of_parts (suc n) None at = subst (OfMove width lines) (sym (move_later before width lines n None)) (of_seed (foremost before width lines) refl)
  of_parts (suc n) (Some h) at = subst (OfMove width lines) (sym (move_later before width lines n (Some h))) (of_halving h at.0 (halving_of h.seed h.answers) refl)

pub of_move : (before : ℕ → ℕ → Bool) (width : ℕ) (fit : ℕ → Bool) → IsGiven before width fit → (st : State) → IsReached before width fit st → (m : Move) → move before width st ≡ m → OfMove width st.lines m
of_move before width fit given st r m e = subst (OfMove width st.lines) e (of_parts before width fit given st.lines r.listed st.checks st.halving r.holds)

-- a list with one line more, if there is one
abbrev pub with_option : List Line → Option Line → List Line
with_option lines None = lines
with_option lines (Some x) = lines ++ x ∷ []

-- what an answer changes: it is counted, a line is listed or none, and after a line no halving is open
pub record IsAnswer (st : State) (m : Moved) : Type 0 where
  pub counted : m.state.checks ≡ suc st.checks
  pub grown : m.state.lines ≡ with_option st.lines m.line
  pub closed : IfSome m.line (λ x. m.state.halving ≡ None)

seed_answer : (st : State) (o : Option ℕ) (b : Bool) → IsAnswer st (answered_seed (record st { checks = suc st.checks }) o b)
seed_answer st None b = record { counted = refl; grown = refl; closed = tt }
seed_answer st (Some s) true = record { counted = refl; grown = refl; closed = refl }
seed_answer st (Some s) false = record { counted = refl; grown = refl; closed = tt }

later_answer : (before : ℕ → ℕ → Bool) (width : ℕ) (st : State) (h : Option Open) (b : Bool) → IsAnswer st (answered_later before width (record st { checks = suc st.checks }) h b)
later_answer before width st None b = seed_answer st (foremost before width st.lines) b
later_answer before width st (Some h) b = record { counted = refl; grown = refl; closed = tt }

any_answer : (before : ℕ → ℕ → Bool) (width : ℕ) (st : State) (first b : Bool) → IsAnswer st (answered_if first before width (record st { checks = suc st.checks }) b)
any_answer before width st true true = record { counted = refl; grown = refl; closed = tt }
any_answer before width st true false = record { counted = refl; grown = refl; closed = refl }
any_answer before width st false b = later_answer before width st st.halving b

pub is_answer : (before : ℕ → ℕ → Bool) (width : ℕ) (st : State) (b : Bool) → IsAnswer st (answered before width st b)
is_answer before width st b = any_answer before width st (nat_eq st.checks 0) b

-- where all is listed, or there is no room, no halving is open
halving_goes_on : (x : Halved) → (halving_move x ≡ all → ⊥) × (halving_move x ≡ full → ⊥)
halving_goes_on (asks s) = (λ e. cc, λ e. cc)
halving_goes_on (ends result rest) = (λ e. cc, λ e. cc)

parts_closed : (before : ℕ → ℕ → Bool) (width : ℕ) (lines : List Line) (n : ℕ) (h : Option Open) → (move before width (held lines n h) ≡ all) ⊎ (move before width (held lines n h) ≡ full) → h ≡ None
parts_closed before width lines n None e = refl
parts_closed before width lines zero (Some h) (inl e) = absurd (cc)
parts_closed before width lines zero (Some h) (inr e) = absurd (cc)
parts_closed before width lines (suc n) (Some h) (inl e) = absurd ((halving_goes_on (halving_of h.seed h.answers)).0 (sym (move_later before width lines n (Some h)) ∙ e))
parts_closed before width lines (suc n) (Some h) (inr e) = absurd ((halving_goes_on (halving_of h.seed h.answers)).1 (sym (move_later before width lines n (Some h)) ∙ e))

pub ends_closed : (before : ℕ → ℕ → Bool) (width : ℕ) (st : State) → (move before width st ≡ all) ⊎ (move before width st ≡ full) → st.halving ≡ None
ends_closed before width st e = parts_closed before width st.lines st.checks st.halving e
