-- The first state is sound, and each listed line and each answered check keep a state so; what a sound state checks lies within the width. Assumes nothing.
use Rattle.std.proofs.Common.{◌≡◌, ℕ, zero, suc, ◌+◌, ◌<◌, ◌≤◌, Bool, true, false, List, [], ◌∷◌, ◌++◌, length, Option, Some, None, refl, sym, ap, ◌∙◌, subst, pow_pos, arith}
use Rattle.std.specs.Prelude.{nat_le}
use Rattle.std.proofs.lemmas.Bool.{leb-false}
use Rattle.std.proofs.lemmas.List.{length_push}
use Rattle.sets.specs.Members.{none, size}
use Rattle.sets.specs.Requests.{widest, Within}
use Rattle.sets.proofs.Parts.{part_below}
use Rattle.listing.specs.Bill.{depth, bill, bound}
use Rattle.listing.specs.Halving.{Halved, asks, ends, halving_of}
use Rattle.listing.specs.Lines.{most_lines, conflict, relaxation}
use Rattle.listing.specs.Orders.{IsOrder, foremost}
use Rattle.listing.specs.Sound.{IsSoundHalving, IsSound, SoundStart, SoundLists, SoundAnswered, SoundChecks}
use Rattle.listing.specs.Steps.{Open, check, lists, halving_move, seed_move, move, with_line, answered_empty, answered_seed, answered}
use Rattle.listing.specs.declared.lines.Line.{Line}
use Rattle.listing.proofs.Bills.{bill_laws}
use Rattle.listing.proofs.HalveBill.{reads_by_bill}
use Rattle.listing.proofs.HalveHeld.{small_of}
use Rattle.listing.proofs.HalvePrefix.{reads_all}
use Rattle.listing.proofs.HalveReads.{asks_few}
use Rattle.listing.proofs.HalveWithin.{asks_within}
use Rattle.listing.proofs.Orders.{order_laws}
use Rattle.listing.proofs.RunLists.{bound_conflict, bound_relaxation}
use Rattle.listing.proofs.RunParts.{held, move_later, answer_later, seed_checked, seed_lists}
use Rattle.listing.proofs.RunRest.{no_answers_left}

-- at first nothing is listed, checked or open
pub sound_start : SoundStart
sound_start width = record { few = omega arith; first = λ e. (refl, refl); halving = tt; bounded = omega arith }

-- after the first check a state is sound with no halving open, and with a sound one, where its checks keep to the bound
closed : (width : ℕ) (lines : List Line) (n : ℕ) → length lines ≤ most_lines → suc n ≤ bound width lines → IsSound width (held lines (suc n) None)
closed width lines n few enough = record { few = few; first = λ e. absurd (omega arith); halving = tt; bounded = omega arith }

opened : (width : ℕ) (lines : List Line) (n : ℕ) (h : Open) → IsSoundHalving width lines h → suc n ≤ bound width lines + (1 + length h.answers) → IsSound width (held lines (suc n) (Some h))
opened width lines n h sound enough = record { few = omega (arith, sound.room); first = λ e. absurd (omega arith); halving = sound; bounded = enough }

-- it stays so with one conflict or relaxation more, where there is room and the bound allows for the line
conflict_listed : (width : ℕ) (lines : List Line) (n s : ℕ) → length lines < most_lines → suc n ≤ bound width lines + 1 + bill (depth width) (size s)
    → IsSound width (held (lines ++ conflict s ∷ []) (suc n) None)
conflict_listed width lines n s room enough =
    closed width (lines ++ conflict s ∷ []) n (omega (arith, length_push lines (conflict s))) (omega (arith, enough, bound_conflict width lines s))

relaxation_listed : (width : ℕ) (lines : List Line) (n s : ℕ) → length lines < most_lines → suc n ≤ bound width lines + 1 → IsSound width (held (lines ++ relaxation s ∷ []) (suc n) None)
relaxation_listed width lines n s room enough =
    closed width (lines ++ relaxation s ∷ []) n (omega (arith, length_push lines (relaxation s))) (omega (arith, enough, bound_relaxation width lines s))

-- the empty set is answered
empty_answered : (width : ℕ) (lines : List Line) → lines ≡ [] → (b : Bool) → IsSound width (answered_empty (held lines 1 None) b).state
empty_answered width lines nothing true = closed width lines 0 (omega (arith, ap length nothing)) (omega arith)
empty_answered width lines nothing false = conflict_listed width lines 0 none (omega (arith, ap length nothing)) (omega arith)

-- an open halving has no answers at first,
no_answers : (width : ℕ) (lines : List Line) (s : ℕ) → Within width s → length lines < most_lines → IsSoundHalving width lines (record { seed = s; answers = [] })
no_answers width lines s within room = record { within = within; room = room; few = omega arith; read = no_answers_left s }

-- and one more with each
one_more : (width : ℕ) (lines : List Line) (h : Open) (s : ℕ) (b : Bool) → width ≤ widest → IsSoundHalving width lines h → halving_of h.seed h.answers ≡ asks s
    → IsSoundHalving width lines (record h { answers = h.answers ++ b ∷ [] })
one_more width lines h s b narrow sound asked = record {
  within = sound.within;
  room = sound.room;
  few = omega (arith, length_push h.answers b, asks_few h.seed s h.answers (small_of width h.seed narrow sound.within) asked);
  read = λ result rest e. reads_all h.seed s result h.answers rest b asked e;
}

module _ (before : ℕ → ℕ → Bool) (width : ℕ) (lines : List Line) (narrow : width ≤ widest) (order : IsOrder width before) where
  -- a seed lies within the width
  seed_within : (s : ℕ) → foremost before width lines ≡ Some s → Within width s
  seed_within s found = ((order_laws.1 before width lines s order).0 found).0.0

  -- a seed is answered
  seed_answered : (n s : ℕ) → suc n ≤ bound width lines → (o : Option ℕ) → foremost before width lines ≡ o → seed_move lines o ≡ check s → (b : Bool)
      → IsSound width (answered_seed (held lines (suc (suc n)) None) o b).state
  seed_answered n s enough None found e b = absurd (cc)
  seed_answered n s enough (Some seed) found e true =
      let checked = seed_checked (nat_le most_lines (length lines)) seed s e in
      relaxation_listed width lines (suc n) seed (leb-false most_lines (length lines) checked.0) (omega arith)
  seed_answered n s enough (Some seed) found e false =
      let checked = seed_checked (nat_le most_lines (length lines)) seed s e in
      opened width lines (suc n) (record { seed = seed; answers = [] })
      (no_answers width lines seed (seed_within seed found) (leb-false most_lines (length lines) checked.0)) (omega arith)

  -- what an open halving asks is answered
  open_answered : (n s : ℕ) (h : Open) → IsSoundHalving width lines h → suc n ≤ bound width lines + (1 + length h.answers) → (x : Halved) → halving_of h.seed h.answers ≡ x
      → halving_move x ≡ check s → (b : Bool) → IsSound width (held lines (suc (suc n)) (Some (record h { answers = h.answers ++ b ∷ [] })))
  open_answered n s h sound enough (asks q) is e b =
      opened width lines (suc n) (record h { answers = h.answers ++ b ∷ [] }) (one_more width lines h q b narrow sound is) (omega (arith, enough, length_push h.answers b))
  open_answered n s h sound enough (ends result rest) is e b = absurd (cc)

  -- the result of an open halving is listed
  result_listed : (n : ℕ) (h : Open) (result : ℕ) (rest : List Bool) → IsSoundHalving width lines h → suc n ≤ bound width lines + (1 + length h.answers)
      → halving_of h.seed h.answers ≡ ends result rest → IsSound width (with_line (held lines (suc n) (Some h)) (conflict result))
  result_listed n h result rest sound enough e =
      let all_read : rest ≡ [] = sound.read result rest e in
      let few : length h.answers ≤ length rest + bill (depth width) (size result) =
      reads_by_bill width (depth width) h.seed result h.answers rest narrow (bill_laws.0 width narrow) sound.within e
      in conflict_listed width lines n result sound.room (omega (arith, enough, few, ap length all_read))

  open_listed : (n : ℕ) (h : Open) (x : Line) → IsSoundHalving width lines h → suc n ≤ bound width lines + (1 + length h.answers) → (y : Halved) → halving_of h.seed h.answers ≡ y
      → halving_move y ≡ lists x → IsSound width (with_line (held lines (suc n) (Some h)) x)
  open_listed n h x sound enough (asks q) is e = absurd (cc)
  open_listed n h x sound enough (ends result rest) is e =
      let same : conflict result ≡ x = cc in
      subst (λ y. IsSound width (with_line (held lines (suc n) (Some h)) y)) same (result_listed n h result rest sound enough is)

  -- a seed that is checked, and what an open halving asks, lies within the width
  seed_checks : (s : ℕ) (o : Option ℕ) → foremost before width lines ≡ o → seed_move lines o ≡ check s → Within width s
  seed_checks s None found e = absurd (cc)
  seed_checks s (Some seed) found e =
      let checked = seed_checked (nat_le most_lines (length lines)) seed s e in subst (Within width) checked.1 (seed_within seed found)

  open_checks : (s : ℕ) (h : Open) → IsSoundHalving width lines h → (x : Halved) → halving_of h.seed h.answers ≡ x → halving_move x ≡ check s → Within width s
  open_checks s h sound (asks q) is e =
      let same : q ≡ s = cc in
      let inside : Within width q = part_below width q h.seed (asks_within h.seed q h.answers (small_of width h.seed narrow sound.within) is) sound.within in
      subst (Within width) same inside
  open_checks s h sound (ends result rest) is e = absurd (cc)

  -- the same of a state by its parts
  parts_answered : (n s : ℕ) (h : Option Open) → IsSound width (held lines n h) → move before width (held lines n h) ≡ check s → (b : Bool)
      → IsSound width (answered before width (held lines n h) b).state
  parts_answered zero s None sound e b = empty_answered width lines (sound.first refl).0 b
  parts_answered zero s (Some h) sound e b = let not_open : Some h ≡ None = (sound.first refl).1 in absurd (cc)
  parts_answered (suc n) s None sound e b =
      subst (λ m. IsSound width m.state) (sym (answer_later before width lines n None b))
      (seed_answered n s (omega (arith, sound.bounded)) (foremost before width lines) refl (sym (move_later before width lines n None) ∙ e) b)
  parts_answered (suc n) s (Some h) sound e b =
      subst (λ m. IsSound width m.state) (sym (answer_later before width lines n (Some h) b))
      (open_answered n s h sound.halving sound.bounded (halving_of h.seed h.answers) refl (sym (move_later before width lines n (Some h)) ∙ e) b)

  parts_listed : (n : ℕ) (h : Option Open) (x : Line) → IsSound width (held lines n h) → move before width (held lines n h) ≡ lists x → IsSound width (with_line (held lines n h) x)
  parts_listed zero h x sound e = absurd (cc)
  parts_listed (suc n) None x sound e = absurd (seed_lists lines x (foremost before width lines) (sym (move_later before width lines n None) ∙ e))
  parts_listed (suc n) (Some h) x sound e = open_listed n h x sound.halving sound.bounded (halving_of h.seed h.answers) refl (sym (move_later before width lines n (Some h)) ∙ e)

  parts_check : (n s : ℕ) (h : Option Open) → IsSound width (held lines n h) → move before width (held lines n h) ≡ check s → Within width s
  parts_check zero s h sound e = let empty : none ≡ s = cc in subst (Within width) empty (pow_pos width)
  parts_check (suc n) s None sound e = seed_checks s (foremost before width lines) refl (sym (move_later before width lines n None) ∙ e)
  parts_check (suc n) s (Some h) sound e = open_checks s h sound.halving (halving_of h.seed h.answers) refl (sym (move_later before width lines n (Some h)) ∙ e)

pub sound_lists : SoundLists
sound_lists before width st x narrow order sound e = parts_listed before width st.lines narrow order st.checks st.halving x sound e

pub sound_answered : SoundAnswered
sound_answered before width st s fit narrow order sound e = parts_answered before width st.lines narrow order st.checks s st.halving sound e fit

pub sound_checks : SoundChecks
sound_checks before width st s narrow order sound e = parts_check before width st.lines narrow order st.checks s st.halving sound e
