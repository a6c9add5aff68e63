-- How many checks are left to be answered before a line is listed: fewer after each answer that lists none. Assumes nothing.
use Rattle.std.proofs.Common.{◌≡◌, ℕ, zero, suc, ◌-◌, ◌<◌, ◌≤◌, Bool, true, false, List, [], ◌∷◌, ◌++◌, length, refl, Option, Some, None, sym, ap, ◌∙◌, subst, arith}
use Rattle.std.specs.Prelude.{nat_eq}
use Rattle.std.proofs.lemmas.Bool.{ne_eqb}
use Rattle.std.proofs.lemmas.List.{length_push}
use Rattle.sets.specs.Requests.{widest}
use Rattle.listing.specs.Orders.{foremost}
use Rattle.listing.specs.Sound.{IsSound}
use Rattle.listing.specs.Steps.{Open, State, check, seed_move, move, Moved, answered_empty, answered_seed, answered_later, answered}
use Rattle.listing.specs.declared.lines.Line.{Line}
use Rattle.listing.proofs.RunParts.{held, move_later, answer_later}
use Rattle.listing.proofs.SoundStates.{sound_answered}
use Rattle.explainer.specs.Preferring.{Order, AreOrders}
use Rattle.explainer.proofs.Progressing.{answers_most}

-- with an open halving at most 62 answers, and one for its end; before its seed is answered two more; and one more before the empty set is
abbrev pub left_open : Option Open → ℕ
left_open None = 65
left_open (Some h) = 63 - length h.answers

abbrev pub left_if : Bool → Option Open → ℕ
left_if true h = 66
left_if false h = left_open h

abbrev pub left_of : State → ℕ
left_of st = left_if (nat_eq st.checks 0) st.halving

left_later : (lines : List Line) (n : ℕ) (h : Option Open) → left_of (held lines (suc n) h) ≡ left_open h
left_later lines n h = ap (λ f. left_if f h) (ne_eqb (suc n) 0 (λ e. omega arith))

-- what an answer leads to lists a line, or it is sound and fewer are left than so many
abbrev pub Falls : (width limit : ℕ) → Moved → Type 0
Falls width limit m = m.line ≡ None → IsSound width m.state → left_of m.state < limit

module _ (order : Order) (orders : AreOrders order) (width : ℕ) (lines : List Line) where
  empty_falls : (h : Option Open) → h ≡ None → (b : Bool) → Falls width 66 (answered_empty (held lines 1 h) b)
  empty_falls None nothing true line_is sound = omega arith
  empty_falls (Some h) nothing true line_is sound = absurd (cc)
  empty_falls h nothing false line_is sound = absurd (cc)

  seed_falls : (n s : ℕ) (o : Option ℕ) → seed_move lines o ≡ check s → (b : Bool) → Falls width 65 (answered_seed (held lines (suc (suc n)) None) o b)
  seed_falls n s None due b line_is sound = absurd (cc)
  seed_falls n s (Some seed) due true line_is sound = absurd (cc)
  seed_falls n s (Some seed) due false line_is sound = omega (arith, left_later lines (suc n) (Some (record { seed = seed; answers = [] })))

  open_falls : (n : ℕ) (h : Open) (b : Bool)
      → Falls width (63 - length h.answers) (answered_later (order width) width (held lines (suc (suc n)) (Some h)) (Some h) b)
  open_falls n h b line_is sound =
      let more : Open = record h { answers = h.answers ++ b ∷ [] } in
      omega (arith, left_later lines (suc n) (Some more), answers_most width lines more sound.halving, length_push h.answers b)

  parts_fall : (n s : ℕ) (h : Option Open) → IsSound width (held lines n h) → move (order width) width (held lines n h) ≡ check s → (b : Bool)
      → Falls width (left_of (held lines n h)) (answered (order width) width (held lines n h) b)
  parts_fall zero s h sound due b = empty_falls h (sound.first refl).1 b
  parts_fall (suc n) s None sound due b =
      subst (λ m. Falls width (left_of (held lines (suc n) None)) m) (sym (answer_later (order width) width lines n None b))
      (subst (λ k. Falls width k (answered_seed (held lines (suc (suc n)) None) (foremost (order width) width lines) b)) (sym (left_later lines n None))
      (seed_falls n s (foremost (order width) width lines) (sym (move_later (order width) width lines n None) ∙ due) b))
  parts_fall (suc n) s (Some h) sound due b =
      subst (λ m. Falls width (left_of (held lines (suc n) (Some h))) m) (sym (answer_later (order width) width lines n (Some h) b))
      (subst (λ k. Falls width k (answered_later (order width) width (held lines (suc (suc n)) (Some h)) (Some h) b)) (sym (left_later lines n (Some h)))
      (open_falls n h b))

-- an answer that lists no line leaves fewer
pub falls : (order : Order) → AreOrders order → (width : ℕ) (st : State) (s : ℕ) (fit : Bool) → width ≤ widest → IsSound width st → move (order width) width st ≡ check s
    → (answered (order width) width st fit).line ≡ None → left_of (answered (order width) width st fit).state < left_of st
falls order orders width st s fit narrow sound due line_is =
    parts_fall order orders width st.lines st.checks s st.halving sound due fit line_is
    (sound_answered (order width) width st s fit narrow (orders width) sound due)
