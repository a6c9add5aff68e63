-- How many checks are answered from one line to the next. Assumes nothing.
use Rattle.std.proofs.Common.{◌≡◌, ℕ, zero, suc, ◌+◌, ◌-◌, ◌/◌, ◌<◌, ◌≤◌, Bool, true, false, List, [], ◌∷◌, ◌++◌, length, Option, Some, None, refl, sym, ap, ◌∙◌, subst, le_refl, pow_mono, lt_of_lt_of_le, arith}
use Rattle.std.proofs.lemmas.List.{length_push}
use Rattle.std.proofs.lemmas.Nat.{mod_below}
use Rattle.sets.specs.Members.{size_in, size}
use Rattle.sets.specs.Requests.{widest, Within}
use Rattle.listing.specs.Halving.{Halved, asks, ends, halving_of}
use Rattle.listing.specs.Orders.{foremost}
use Rattle.listing.specs.RunLaws.{lines_after}
use Rattle.listing.specs.Steps.{Open, State, check, halving_move, seed_move, move, Moved, no_line, answered_empty, answered_seed, answered}
use Rattle.listing.specs.Turns.{Said, listed, all_listed, no_room, refused, turn, after}
use Rattle.listing.specs.declared.lines.Line.{Line}
use Rattle.listing.proofs.RunEvery.{turn_grows, turn_reached, after_reached}
use Rattle.listing.proofs.RunMoves.{is_answer}
use Rattle.listing.proofs.RunParts.{held, move_later, answer_later}
use Rattle.listing.proofs.RunReached.{IsGiven, IsAt, IsOpen, IsReached, answered_reached}
use Rattle.listing.proofs.RunTurns.{by_turns}

-- a set has at most 32 requests
size_in_few : (count n : ℕ) → size_in count n ≤ count
size_in_few zero n = omega arith
size_in_few (suc count) n = omega (arith, size_in_few count (n / 2), mod_below n 2 (omega arith))

size_few : (n : ℕ) → size n ≤ 32
unfolding size
size_few n = size_in_few 32 n

-- how many answers may come before the next line, at most: the empty set's, a seed's, and 62 of its halving
abbrev remaining_at : ℕ → Option Open → ℕ
remaining_at zero h = 64
remaining_at (suc n) None = 63
remaining_at (suc n) (Some h) = 62 - length h.answers

abbrev pub remaining : State → ℕ
remaining st = remaining_at st.checks st.halving

remaining_at_few : (n : ℕ) (h : Option Open) → remaining_at n h ≤ 64
remaining_at_few zero h = omega arith
remaining_at_few (suc n) None = omega arith
remaining_at_few (suc n) (Some h) = omega arith

pub remaining_few : (st : State) → remaining st ≤ 64
remaining_few st = remaining_at_few st.checks st.halving

-- how many then, where no line was listed
abbrev spared : Option Line → State → ℕ
spared None st = remaining st
spared (Some x) st = 0

-- each answer leaves fewer, unless it lists a line
Spares : (n : ℕ) → Moved → Type 0
Spares n m = spared m.line m.state < n

empty_spares : (lines : List Line) (b : Bool) → Spares 64 (answered_empty (held lines 1 None) b)
unfolding Spares
empty_spares lines true = omega arith
empty_spares lines false = omega arith

seed_spares : (lines : List Line) (n s : ℕ) (o : Option ℕ) → seed_move lines o ≡ check s → (b : Bool) → Spares 63 (answered_seed (held lines (suc (suc n)) None) o b)
unfolding Spares
seed_spares lines n s None e b = absurd (cc)
seed_spares lines n s (Some k) e true = omega arith
seed_spares lines n s (Some k) e false = omega arith

halving_spares : (lines : List Line) (n : ℕ) (h : Open) → length h.answers < 62 → (b : Bool) → Spares (62 - length h.answers) (no_line (held lines (suc (suc n)) (Some (record h { answers = h.answers ++ b ∷ [] }))))
unfolding Spares
halving_spares lines n h few b = omega (arith, length_push h.answers b)

-- what a turn leaves to come, where it lists no line
abbrev pub left_over : Said → State → ℕ
left_over (listed x) st = 0
left_over all_listed st = remaining st
left_over no_room st = remaining st
left_over (refused s) st = remaining st

-- what is said leaves no fewer lines, and where it leaves as many it is no line
said_longer : (lines : List Line) (said : Said) → length lines ≤ length (lines_after lines said)
said_longer lines (listed x) = omega (arith, length_push lines x)
said_longer lines all_listed = omega arith
said_longer lines no_room = omega arith
said_longer lines (refused s) = omega arith

nothing_said : (lines : List Line) (said : Said) (st : State) → length (lines_after lines said) ≤ length lines → (lines_after lines said ≡ lines) × (left_over said st ≡ remaining st)
nothing_said lines (listed x) st short = absurd (omega (arith, length_push lines x))
nothing_said lines all_listed st short = (refl, refl)
nothing_said lines no_room st short = (refl, refl)
nothing_said lines (refused s) st short = (refl, refl)

module _ (before : ℕ → ℕ → Bool) (width : ℕ) (fit : ℕ → Bool) (given : IsGiven before width fit) where
  -- a halving that asks has fewer than 62 answers
  asks_few : (lines : List Line) (s : ℕ) (h : Open) → IsOpen before width fit lines h → (x : Halved) → halving_of h.seed h.answers ≡ x → halving_move x ≡ check s → length h.answers < 62
  asks_few lines s h o (asks q) is e =
      let small : Within widest h.seed = lt_of_lt_of_le o.foremost.0.0 (pow_mono given.narrow) in omega (arith, given.halvings.7 h.seed q h.answers small is, size_few h.seed)
  asks_few lines s h o (ends result rest) is e = absurd (cc)

  parts_spare : (lines : List Line) (n s : ℕ) (h : Option Open) → IsAt before width fit lines n h → move before width (held lines n h) ≡ check s → (b : Bool)
      → Spares (remaining_at n h) (answered before width (held lines n h) b)
  parts_spare lines zero s None at e b = empty_spares lines b
  parts_spare lines zero s (Some h) at e b = absurd at
  parts_spare lines (suc n) s None at e b =
      subst (Spares 63) (sym (answer_later before width lines n None b)) (seed_spares lines n s (foremost before width lines) (sym (move_later before width lines n None) ∙ e) b)
  parts_spare lines (suc n) s (Some h) at e b =
      let few : length h.answers < 62 = asks_few lines s h at.0 (halving_of h.seed h.answers) refl (sym (move_later before width lines n (Some h)) ∙ e) in
      subst (Spares (62 - length h.answers)) (sym (answer_later before width lines n (Some h) b)) (halving_spares lines n h few b)

  pub answer_spares : (st : State) (s : ℕ) (b : Bool) → IsReached before width fit st → move before width st ≡ check s → spared (answered before width st b).line (answered before width st b).state < remaining st
  unfolding Spares
  answer_spares st s b r e = parts_spare st.lines st.checks s st.halving r.holds e b

  -- so a turn answers no more than remained, and with what it leaves to come no more either
  pub turn_spares : (g : ℕ) (st : State) → IsReached before width fit st
      → (turn before width fit g st).left.checks + left_over (turn before width fit g st).said (turn before width fit g st).left ≤ st.checks + remaining st
  turn_spares g st =
      by_turns before width fit (λ s t. IsReached before width fit s → t.left.checks + left_over t.said t.left ≤ s.checks + remaining s)
      (λ s x m r. omega arith) (λ s m r. le_refl (s.checks + remaining s)) (λ s m r. le_refl (s.checks + remaining s)) (λ s q m r. le_refl (s.checks + remaining s))
      (λ s q x m e r. omega (arith, (is_answer before width s (fit q)).counted, answer_spares s q (fit q) r m))
      (λ s q t m e p r.
      let fewer : spared None (answered before width s (fit q)).state < remaining s =
      subst (λ o. spared o (answered before width s (fit q)).state < remaining s) e (answer_spares s q (fit q) r m)
      in omega (arith, (is_answer before width s (fit q)).counted, fewer, p (answered_reached before width fit given s q r m)))
      g st

  -- the lines after any turns are no fewer
  after_longer : (more : List ℕ) (st : State) → length st.lines ≤ length (after before width fit more st).lines
  after_longer [] st = le_refl (length st.lines)
  after_longer (g ∷ more) st =
      omega (arith, said_longer st.lines (turn before width fit g st).said, ap length (turn_grows before width fit g st), after_longer more (turn before width fit g st).left)

  -- where no line was listed, any turns together answer no more than remained
  pub after_spares : (more : List ℕ) (st : State) → IsReached before width fit st → (after before width fit more st).lines ≡ st.lines
      → (after before width fit more st).checks + remaining (after before width fit more st) ≤ st.checks + remaining st
  after_spares [] st r same = le_refl (st.checks + remaining st)
  after_spares (g ∷ more) st r same =
      let said : Said = (turn before width fit g st).said in
      let mid : State = (turn before width fit g st).left in
      let grows : mid.lines ≡ lines_after st.lines said = turn_grows before width fit g st in
      let short : length mid.lines ≤ length st.lines = omega (arith, after_longer more mid, ap length same) in
      let no_more = nothing_said st.lines said mid (omega (arith, short, ap length grows)) in
      let kept : mid.lines ≡ st.lines = grows ∙ no_more.0 in
      let rest = after_spares more mid (turn_reached before width fit given g st r) (same ∙ sym kept) in
      omega (arith, rest, turn_spares g st r, no_more.1)

  -- from one line to the next there are at most 64 answers
  pub between_lines : (more : List ℕ) (g : ℕ) (st : State) → IsReached before width fit st → (after before width fit more st).lines ≡ st.lines
      → (turn before width fit g (after before width fit more st)).left.checks ≤ st.checks + 64
  between_lines more g st r same =
      omega (arith, turn_spares g (after before width fit more st) (after_reached before width fit given more st r), after_spares more st r same, remaining_few st)
