-- That what is listed and what is answered keep a state sound, and leave room for it. Assumes nothing.
use Rattle.std.proofs.Common.{◌≡◌, ◌≢◌, ◌⊎◌, inl, inr, true, false, ◌+◌, add-one, ℕ, zero, suc, ◌<◌, ◌≤◌, List, [], ◌∷◌, ◌++◌, length, refl, sym, ap, ◌∙◌, subst, Bool, cond, Option, Some, None, arith}
use Rattle.std.specs.Prelude.{nat_le, nat_eq, IfSome}
use Rattle.std.proofs.lemmas.Bool.{lt-ltb, eqb-true, eqb-false}
use Rattle.std.proofs.lemmas.List.{length_push}
use Rattle.sets.specs.Members.{none}
use Rattle.listing.specs.Listed.{with_one}
use Rattle.listing.specs.Lines.{most_lines, conflict, relaxation}
use Rattle.listing.specs.Orders.{foremost}
use Rattle.listing.specs.Searches.{lines_in}
use Rattle.listing.specs.Sound.{IsSoundHalving, checks_open, IsSound}
use Rattle.listing.specs.Steps.{Open, State, Moved, check, lists, seed_move, move, with_line, no_line, a_line, answered, answered_empty, answered_later, answered_seed}
use Rattle.listing.specs.declared.lines.Line.{Line}
use Rattle.listing.proofs.RunParts.{held, move_later, answer_later, seed_checked}
use Rattle.listing.proofs.SoundRuns.{sound_laws}
use Rattle.explainer.specs.Holding.{state_of, move_of, answered_by}
use Rattle.explainer.specs.Opened.{open_of}
use Rattle.explainer.specs.Preferring.{Order, AreOrders}
use Rattle.explainer.specs.declared.progress.Progress.{Progress}
use Rattle.explainer.proofs.Counting.{size_most, bound_most}

-- where there is room, a listing has one line more
pub with_room : (lines : List Line) (x : Line) → length lines < most_lines → with_one lines x ≡ lines ++ x ∷ []
with_room lines x room = ap (λ b. cond b (lines ++ x ∷ []) lines) (lt-ltb (length lines) most_lines room)

-- a sound halving has at most 62 answers
pub answers_most : (width : ℕ) (lines : List Line) (o : Open) → IsSoundHalving width lines o → length o.answers ≤ 62
answers_most width lines o sound = omega (arith, sound.few, size_most o.seed)

open_most : (width : ℕ) (lines : List Line) (h : Option Open) → IfSome h (IsSoundHalving width lines) → checks_open h ≤ 63
open_most width lines None sound = omega arith
open_most width lines (Some o) sound = omega (arith, answers_most width lines o sound)

-- so few checks were answered
pub checks_most : (p : Progress) → p.checks ≤ 200000
checks_most p =
    let lines = lines_in p.search in
    omega (arith, p.sound.bounded, bound_most p.search.width lines p.sound.few, open_most p.search.width lines (open_of p.halving) p.sound.halving)

-- an open halving keeps the answer
led_open : (order : Order) (width : ℕ) (lines : List Line) (n : ℕ) (h : Option Open) (o : Open) (fit : Bool) → IsSound width (held lines n h) → h ≡ Some o
    → answered (order width) width (held lines n h) fit ≡ no_line (held lines (suc n) (Some (record o { answers = o.answers ++ fit ∷ [] })))
led_open order width lines zero h o fit sound e = let shut : h ≡ None = (sound.first refl).1 in absurd (cc)
led_open order width lines (suc n) h o fit sound e =
    answer_later (order width) width lines n h fit ∙ ap (λ x. answered_later (order width) width (held lines (suc (suc n)) x) x fit) e

-- a first answer is that for the empty set
led_first : (order : Order) (width : ℕ) (lines : List Line) (n s : ℕ) (h : Option Open) (fit : Bool) → n ≡ 0 → move (order width) width (held lines n h) ≡ check s
    → (none ≡ s) × (answered (order width) width (held lines n h) fit ≡ answered_empty (held lines (suc n) h) fit)
led_first order width lines zero s h fit e due = (cc, refl)
led_first order width lines (suc n) s h fit e due = absurd (omega (arith, e))

-- one with no halving open is that for a seed
foremost_checked : (lines : List Line) (s : ℕ) (o : Option ℕ) → seed_move lines o ≡ check s → o ≡ Some s
foremost_checked lines s None e = absurd (cc)
foremost_checked lines s (Some seed) e = ap (λ q. Some q) (seed_checked (nat_le most_lines (length lines)) seed s e).1

led_seed : (order : Order) (width : ℕ) (lines : List Line) (n s : ℕ) (h : Option Open) (fit : Bool) → n ≢ 0 → h ≡ None
    → move (order width) width (held lines n h) ≡ check s
    → answered (order width) width (held lines n h) fit ≡ answered_seed (held lines (suc n) h) (Some s) fit
led_seed order width lines zero s h fit later e due = absurd (later refl)
led_seed order width lines (suc n) s None fit later e due =
    let found : foremost (order width) width lines ≡ Some s =
    foremost_checked lines s (foremost (order width) width lines) (sym (move_later (order width) width lines n None) ∙ due)
    in answer_later (order width) width lines n None fit ∙ ap (λ o. answered_seed (held lines (suc (suc n)) None) o fit) found
led_seed order width lines (suc n) s (Some h) fit later e due = absurd (cc)

-- the line that an answer leads to: the empty set as a conflict, or a seed as a relaxation
abbrev pub IsLed : (n s : ℕ) (fit : Bool) → Line → Type 0
IsLed n s fit x = ((nat_eq n 0 ≡ true) × (fit ≡ false) × (conflict s ≡ x)) ⊎ ((nat_eq n 0 ≡ false) × (fit ≡ true) × (relaxation s ≡ x))

module _ (order : Order) (orders : AreOrders order) (p : Progress) where
  abbrev lines : List Line
  lines = lines_in p.search

  -- a line that is due keeps the state sound, and there is room for it
  pub list_sound : (x : Line) → move_of order p ≡ lists x → IsSound p.search.width (with_line (state_of p) x)
  list_sound x due = sound_laws.1 (order p.search.width) p.search.width (state_of p) x p.search.narrow (orders p.search.width) p.sound due

  pub list_room : (x : Line) → move_of order p ≡ lists x → length lines < most_lines
  list_room x due = omega (arith, length_push lines x, (list_sound x due).few)

module _ (order : Order) (orders : AreOrders order) (p : Progress) (s : ℕ) (fit : Bool)
    (due : move_of order p ≡ check s) where
  abbrev listed : List Line
  listed = lines_in p.search

  -- the state that an answer leads to is sound
  led_sound : (m : Moved) → answered_by order p fit ≡ m → IsSound p.search.width m.state
  led_sound m e =
      subst (λ x. IsSound p.search.width x.state) e
      (sound_laws.2 (order p.search.width) p.search.width (state_of p) s fit p.search.narrow (orders p.search.width) p.sound due)

  -- the answer of an open halving has room, and is kept
  abbrev kept : Open → State
  kept o = held listed (p.checks + 1) (Some (record o { answers = o.answers ++ fit ∷ [] }))

  open_leads : (o : Open) → open_of p.halving ≡ Some o → answered_by order p fit ≡ no_line (kept o)
  open_leads o e =
      led_open order p.search.width listed p.checks (open_of p.halving) o fit p.sound e
      ∙ ap (λ k. no_line (held listed k (Some (record o { answers = o.answers ++ fit ∷ [] })))) (sym (add-one p.checks))

  pub open_sound : (o : Open) → open_of p.halving ≡ Some o → IsSound p.search.width (kept o)
  open_sound o e = led_sound (no_line (kept o)) (open_leads o e)

  pub open_room : (o : Open) → open_of p.halving ≡ Some o → length o.answers < 62
  open_room o e = omega (arith, length_push o.answers fit, answers_most p.search.width listed (record o { answers = o.answers ++ fit ∷ [] }) (open_sound o e).halving)

  -- of a seed that is unfit a halving is opened
  abbrev opened_now : State
  opened_now = held listed (p.checks + 1) (Some (record { seed = s; answers = [] }))

  unfit_leads : nat_eq p.checks 0 ≡ false → open_of p.halving ≡ None → fit ≡ false → answered_by order p fit ≡ no_line opened_now
  unfit_leads e shut unfit =
      led_seed order p.search.width listed p.checks s (open_of p.halving) fit (eqb-false p.checks 0 e) shut due
      ∙ ap (λ b. answered_seed (held listed (suc p.checks) (open_of p.halving)) (Some s) b) unfit
      ∙ ap (λ k. no_line (held listed k (Some (record { seed = s; answers = [] })))) (sym (add-one p.checks))

  pub unfit_sound : nat_eq p.checks 0 ≡ false → open_of p.halving ≡ None → fit ≡ false → IsSound p.search.width opened_now
  unfit_sound e shut unfit = led_sound (no_line opened_now) (unfit_leads e shut unfit)

  -- the line that an answer leads to is listed
  line_later : (x : Line) → open_of p.halving ≡ None → IsLed p.checks s fit x → answered_by order p fit ≡ a_line (held listed (suc p.checks) (open_of p.halving)) x
  line_later x shut (inl (e, unfit, is)) =
      let first = led_first order p.search.width listed p.checks s (open_of p.halving) fit (eqb-true p.checks 0 e) due in
      first.1 ∙ ap (λ b. answered_empty (held listed (suc p.checks) (open_of p.halving)) b) unfit
      ∙ ap (λ y. a_line (held listed (suc p.checks) (open_of p.halving)) y) (ap conflict first.0 ∙ is)
  line_later x shut (inr (e, fits, is)) =
      led_seed order p.search.width listed p.checks s (open_of p.halving) fit (eqb-false p.checks 0 e) shut due
      ∙ ap (λ b. answered_seed (held listed (suc p.checks) (open_of p.halving)) (Some s) b) fits
      ∙ ap (λ y. a_line (held listed (suc p.checks) (open_of p.halving)) y) is

  abbrev with_it : Line → State
  with_it x = held (listed ++ x ∷ []) (p.checks + 1) None

  line_leads : (x : Line) → open_of p.halving ≡ None → IsLed p.checks s fit x → answered_by order p fit ≡ a_line (held listed (p.checks + 1) (open_of p.halving)) x
  line_leads x shut is = line_later x shut is ∙ ap (λ k. a_line (held listed k (open_of p.halving)) x) (sym (add-one p.checks))

  pub line_sound : (x : Line) → open_of p.halving ≡ None → IsLed p.checks s fit x → IsSound p.search.width (with_it x)
  line_sound x shut is = led_sound (a_line (held listed (p.checks + 1) (open_of p.halving)) x) (line_leads x shut is)

  pub line_room : (x : Line) → open_of p.halving ≡ None → IsLed p.checks s fit x → length listed < most_lines
  line_room x shut is = omega (arith, length_push listed x, (line_sound x shut is).few)
