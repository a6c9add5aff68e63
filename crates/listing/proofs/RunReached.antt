-- What holds of every state that NEXTs lead to, and that each answered check and each listed line keep it. Assumes nothing.
use Rattle.std.proofs.Common.{◌≡◌, ℕ, zero, suc, ◌+◌, ◌<◌, ◌≤◌, Bool, true, false, List, [], ◌∷◌, ◌++◌, length, take, Option, Some, None, ◌⊎◌, inl, inr, refl, sym, ap, ◌∙◌, subst, arith}
use Rattle.std.specs.Prelude.{nat_le}
use Rattle.std.proofs.lemmas.Bool.{leb-false, cases_lt, both_ways, or_parts}
use Rattle.std.proofs.lemmas.List.{length_push, take-append-le, take_at}
use Rattle.oracle.specs.Meaning.{Downward}
use Rattle.sets.specs.Members.{none, size}
use Rattle.sets.specs.Requests.{widest, part}
use Rattle.sets.proofs.Parts.{true_part}
use Rattle.listing.specs.Bill.{depth, bill, bound, BillLaws}
use Rattle.listing.specs.Halving.{Halved, asks, ends, halving_of, AreAnswers}
use Rattle.listing.specs.HalvingLaws.{IsLeastUnfit, HalvingLaws}
use Rattle.listing.specs.LineLaws.{LineLaws}
use Rattle.listing.specs.Lines.{most_lines, conflict, relaxation, IsUnexplored, NothingLeft}
use Rattle.listing.specs.OrderLaws.{OrderLaws}
use Rattle.listing.specs.Orders.{IsOrder, IsForemost, foremost}
use Rattle.listing.specs.Steps.{Open, State, start, check, lists, halving_move, seed_move, move, with_line, answered_empty, answered_seed, answered}
use Rattle.listing.specs.declared.lines.Line.{Line}
use Rattle.listing.proofs.RunListed.{AreListed, IsNext, next_listed, none_listed}
use Rattle.listing.proofs.RunLists.{get_push, get_last, bound_conflict, bound_relaxation}
use Rattle.listing.proofs.RunNext.{empty_next, seed_next, result_next}
use Rattle.listing.proofs.RunParts.{held, move_later, answer_later, seed_checked, seed_lists}
use Rattle.listing.proofs.RunRest.{no_answers_left}

-- what is given of the order, the width and the verdict, and the laws that all rests on
pub record IsGiven (before : ℕ → ℕ → Bool) (width : ℕ) (fit : ℕ → Bool) : Type 0 where
  pub narrow : width ≤ widest
  pub order : IsOrder width before
  pub down : Downward width fit
  pub orders : OrderLaws
  pub lines : LineLaws
  pub halvings : HalvingLaws
  pub bills : BillLaws

-- an open halving: its seed is the foremost unexplored set, and unfit; its answers are the verdict's, and if it ends it has read them all
pub record IsOpen (before : ℕ → ℕ → Bool) (width : ℕ) (fit : ℕ → Bool) (lines : List Line) (h : Open) : Type 0 where
  pub room : length lines < most_lines
  pub empty_fit : fit none ≡ true
  pub foremost : IsForemost before (IsUnexplored width lines) h.seed
  pub unfit : fit h.seed ≡ false
  pub answered : AreAnswers fit h.seed h.answers
  pub read : (result : ℕ) (rest : List Bool) → halving_of h.seed h.answers ≡ ends result rest → rest ≡ []

-- what holds of the checks and the halving: before the first check nothing is listed; after it the empty set is fit or nothing is left, and
-- the checks are within the bound, with one for the seed of an open halving and one for each of its answers
abbrev pub IsAt : (before : ℕ → ℕ → Bool) (width : ℕ) (fit : ℕ → Bool) (lines : List Line) (n : ℕ) → Option Open → Type 0
IsAt before width fit lines zero None = lines ≡ []
IsAt before width fit lines zero (Some h) = ⊥
IsAt before width fit lines (suc n) None = ((fit none ≡ true) ⊎ NothingLeft width lines) × (suc n ≤ bound width lines)
IsAt before width fit lines (suc n) (Some h) = IsOpen before width fit lines h × (suc n ≤ bound width lines + 1 + length h.answers)

-- what holds of a state
pub record IsReached (before : ℕ → ℕ → Bool) (width : ℕ) (fit : ℕ → Bool) (st : State) : Type 0 where
  pub listed : AreListed before width fit st.lines
  pub holds : IsAt before width fit st.lines st.checks st.halving

-- it holds at the start
pub start_reached : (before : ℕ → ℕ → Bool) (width : ℕ) (fit : ℕ → Bool) → IsReached before width fit start
start_reached before width fit = record { listed = none_listed before width fit; holds = refl }

-- with one answer more they are still the verdict's
answers_push : (fit : ℕ → Bool) (seed s : ℕ) (answers : List Bool) → AreAnswers fit seed answers → halving_of seed answers ≡ asks s → AreAnswers fit seed (answers ++ fit s ∷ [])
answers_push fit seed s answers are asked i q low e =
    elim (cases_lt i (length answers)) [
      | inl earlier ↦
          let short : take i (answers ++ fit s ∷ []) ≡ take i answers = take-append-le i answers (fit s ∷ []) (omega arith) in
          get_push answers (fit s) i earlier ∙ are i q earlier (ap (halving_of seed) (sym short) ∙ e)
      | inr later ↦
          let end : length answers ≡ i = omega (arith, length_push answers (fit s)) in
          let whole : take i (answers ++ fit s ∷ []) ≡ answers = take_at answers (fit s ∷ []) i end in
          let again : asks s ≡ asks q = sym asked ∙ ap (halving_of seed) (sym whole) ∙ e in
          let same : s ≡ q = cc in
          get_last answers (fit s) i end ∙ ap (λ k. Some (fit k)) same
    ]

-- with the empty set listed as a conflict nothing is left
empty_explores : (width : ℕ) → NothingLeft width (conflict none ∷ [])
empty_explores width s u = both_ways (part none s) (or_parts (part none s) false u.1).0 (true_part none s refl)

module _ (before : ℕ → ℕ → Bool) (width : ℕ) (fit : ℕ → Bool) (given : IsGiven before width fit) (lines : List Line) (l : AreListed before width fit lines) where
  -- the empty set is answered
  empty_answered : lines ≡ [] → (b : Bool) → fit none ≡ b → IsReached before width fit (answered_empty (held lines 1 None) b).state
  empty_answered nothing true e = record { listed = l; holds = (inl e, omega arith) }
  empty_answered nothing false e = record {
    listed = next_listed before width fit lines (conflict none) l (subst (λ ls. IsNext before width fit ls (conflict none)) (sym nothing) (empty_next before width fit e));
    holds = (inr (subst (λ ls. NothingLeft width (ls ++ conflict none ∷ [])) (sym nothing) (empty_explores width)), omega (arith, bound_conflict width lines none));
  }

  -- a seed leaves something, so the empty set is fit
  pub seed_leaves : (n s : ℕ) → IsAt before width fit lines (suc n) None → IsUnexplored width lines s → fit none ≡ true
  seed_leaves n s at u = elim at.0 [ inl empty_fit ↦ empty_fit | inr nothing ↦ absurd (nothing s u) ]

  -- a seed is answered
  seed_fit : (n s : ℕ) → IsAt before width fit lines (suc n) None → length lines < most_lines → IsForemost before (IsUnexplored width lines) s → fit s ≡ true
      → IsReached before width fit (with_line (held lines (suc (suc n)) None) (relaxation s))
  seed_fit n s at room f is = record {
    listed = next_listed before width fit lines (relaxation s) l (seed_next before width fit lines given.order given.down l room given.lines.0 given.lines.1 s f is);
    holds = (inl (seed_leaves n s at f.0), omega (arith, at.1, bound_relaxation width lines s));
  }

  seed_unfit : (n s : ℕ) → IsAt before width fit lines (suc n) None → length lines < most_lines → IsForemost before (IsUnexplored width lines) s → fit s ≡ false
      → IsReached before width fit (held lines (suc (suc n)) (Some (record { seed = s; answers = [] })))
  seed_unfit n s at room f is = record {
    listed = l;
    holds = (
      record {
        room = room;
        empty_fit = seed_leaves n s at f.0;
        foremost = f;
        unfit = is;
        answered = λ i q low e. absurd (omega arith);
        read = no_answers_left s;
      },
      omega (arith, at.1),
    );
  }

  -- where one is told, it is the foremost unexplored set, and there is room for its line
  seed_is : (s : ℕ) → foremost before width lines ≡ Some s → IsForemost before (IsUnexplored width lines) s
  seed_is s found = (given.orders.1 before width lines s given.order).0 found

  seed_answered : (n s : ℕ) → IsAt before width fit lines (suc n) None → (o : Option ℕ) → foremost before width lines ≡ o → seed_move lines o ≡ check s → (b : Bool) → fit s ≡ b
      → IsReached before width fit (answered_seed (held lines (suc (suc n)) None) o b).state
  seed_answered n s at None found e b is = absurd (cc)
  seed_answered n s at (Some seed) found e true is =
      let checked = seed_checked (nat_le most_lines (length lines)) seed s e in
      seed_fit n seed at (leb-false most_lines (length lines) checked.0) (seed_is seed found) (ap fit checked.1 ∙ is)
  seed_answered n s at (Some seed) found e false is =
      let checked = seed_checked (nat_le most_lines (length lines)) seed s e in
      seed_unfit n seed at (leb-false most_lines (length lines) checked.0) (seed_is seed found) (ap fit checked.1 ∙ is)

  -- a check of an open halving is answered
  halving_answered : (n s : ℕ) (h : Open) → IsAt before width fit lines (suc n) (Some h) → halving_of h.seed h.answers ≡ asks s
      → IsReached before width fit (held lines (suc (suc n)) (Some (record h { answers = h.answers ++ fit s ∷ [] })))
  halving_answered n s h at asked = record {
    listed = l;
    holds = (
      record {
        room = at.0.room;
        empty_fit = at.0.empty_fit;
        foremost = at.0.foremost;
        unfit = at.0.unfit;
        answered = answers_push fit h.seed s h.answers at.0.answered asked;
        read = λ result rest e. given.halvings.8 h.seed s result h.answers rest (fit s) asked e;
      },
      omega (arith, at.1, length_push h.answers (fit s)),
    );
  }

  -- what an open halving asks is answered
  pub open_answered : (n s : ℕ) (h : Open) → IsAt before width fit lines (suc n) (Some h) → (x : Halved) → halving_of h.seed h.answers ≡ x → halving_move x ≡ check s
      → IsReached before width fit (held lines (suc (suc n)) (Some (record h { answers = h.answers ++ fit s ∷ [] })))
  open_answered n s h at (asks q) is e = let same : q ≡ s = cc in halving_answered n s h at (is ∙ ap (λ k. asks k) same)
  open_answered n s h at (ends result rest) is e = absurd (cc)

  -- the result of an open halving is listed
  result_listed : (n : ℕ) (h : Open) → IsAt before width fit lines (suc n) (Some h) → (result : ℕ) (rest : List Bool) → halving_of h.seed h.answers ≡ ends result rest
      → IsReached before width fit (with_line (held lines (suc n) (Some h)) (conflict result))
  result_listed n h at result rest e =
      let least : IsLeastUnfit fit h.seed result =
      given.halvings.0 width fit h.seed h.answers rest result given.narrow given.down at.0.foremost.0.0 at.0.empty_fit at.0.unfit at.0.answered e
      in let all_read : rest ≡ [] = at.0.read result rest e in
      let few : length h.answers ≤ length rest + bill (depth width) (size result) =
      given.halvings.5 width (depth width) h.seed result h.answers rest given.narrow (given.bills.0 width given.narrow) at.0.foremost.0.0 e
      in record {
        listed = next_listed before width fit lines (conflict result) l
            (result_next before width fit lines given.order given.down l at.0.room given.lines.1 given.halvings.1 given.halvings.2 h.seed result at.0.foremost least);
        holds = (inl at.0.empty_fit, omega (arith, at.1, few, ap length all_read, bound_conflict width lines result));
      }

  open_listed : (n : ℕ) (h : Open) (x : Line) → IsAt before width fit lines (suc n) (Some h) → (y : Halved) → halving_of h.seed h.answers ≡ y → halving_move y ≡ lists x
      → IsReached before width fit (with_line (held lines (suc n) (Some h)) x)
  open_listed n h x at (asks q) is e = absurd (cc)
  open_listed n h x at (ends result rest) is e =
      let same : conflict result ≡ x = cc in
      subst (λ y. IsReached before width fit (with_line (held lines (suc n) (Some h)) y)) same (result_listed n h at result rest is)

  -- each answered check keeps what holds
  parts_answered : (n s : ℕ) (h : Option Open) → IsAt before width fit lines n h → move before width (held lines n h) ≡ check s → IsReached before width fit (answered before width (held lines n h) (fit s)).state
  parts_answered zero s None at e = let empty : none ≡ s = cc in empty_answered at (fit s) (ap fit empty)
  parts_answered zero s (Some h) at e = absurd at
  parts_answered (suc n) s None at e =
      subst (λ m. IsReached before width fit m.state) (sym (answer_later before width lines n None (fit s)))
      (seed_answered n s at (foremost before width lines) refl (sym (move_later before width lines n None) ∙ e) (fit s) refl)
  parts_answered (suc n) s (Some h) at e =
      subst (λ m. IsReached before width fit m.state) (sym (answer_later before width lines n (Some h) (fit s)))
      (open_answered n s h at (halving_of h.seed h.answers) refl (sym (move_later before width lines n (Some h)) ∙ e))

  -- and so does each line
  parts_listed : (n : ℕ) (h : Option Open) (x : Line) → IsAt before width fit lines n h → move before width (held lines n h) ≡ lists x → IsReached before width fit (with_line (held lines n h) x)
  parts_listed zero h x at e = absurd (cc)
  parts_listed (suc n) None x at e = absurd (seed_lists lines x (foremost before width lines) (sym (move_later before width lines n None) ∙ e))
  parts_listed (suc n) (Some h) x at e = open_listed n h x at (halving_of h.seed h.answers) refl (sym (move_later before width lines n (Some h)) ∙ e)

-- each answered check and each line keep what holds of a state
pub answered_reached : (before : ℕ → ℕ → Bool) (width : ℕ) (fit : ℕ → Bool) → IsGiven before width fit → (st : State) (s : ℕ) → IsReached before width fit st → move before width st ≡ check s
    → IsReached before width fit (answered before width st (fit s)).state
answered_reached before width fit given st s r e = parts_answered before width fit given st.lines r.listed st.checks s st.halving r.holds e

pub listed_reached : (before : ℕ → ℕ → Bool) (width : ℕ) (fit : ℕ → Bool) → IsGiven before width fit → (st : State) (x : Line) → IsReached before width fit st → move before width st ≡ lists x
    → IsReached before width fit (with_line st x)
listed_reached before width fit given st x r e = parts_listed before width fit given st.lines r.listed st.checks st.halving x r.holds e
