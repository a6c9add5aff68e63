-- What a NEXT comes to: the checks that were answered to it, and that it says and leaves what the
-- steps do with as many. Assumes nothing.
use Rattle.std.proofs.Common.{◌≡◌, ℕ, suc, ◌+◌, ◌≤◌, Bool, List, [], ◌∷◌, length, map, Option, Some, None, Ok, inl, inr, refl, sym, ap, ◌∙◌, subst, arith}
use Rattle.std.specs.Prelude.{MatchOption}
use Rattle.std.specs.List.{All}
use Rattle.std.proofs.lemmas.List.Elements.{All-nil, All-cons}
use Rattle.sets.specs.Requests.{Within}
use Rattle.oracle.specs.Asking.{verdict, Taken, Checked}
use Rattle.oracle.specs.Calls.{Checks, ChecksMean}
use Rattle.oracle.specs.Meaning.{Meaning, Kept}
use Rattle.oracle.specs.declared.Verdict.{Verdict}
use Rattle.oracle.proofs.Checks.{answered_as, kept, kept_on}
use Rattle.oracle.proofs.Numbers.{answer_is}
use Rattle.listing.specs.Steps.{State, Move, check, lists, all, full, move, answered}
use Rattle.listing.specs.Turns.{listed, refused, Turn, says, turn_at, line_or, moved_or, turn, sets_at, sets_later, sets_after, sets_checked}
use Rattle.listing.specs.declared.lines.Line as lines
use Rattle.listing.proofs.RunChecked.{sets_checked-zero, sets_checked-suc}
use Rattle.listing.proofs.RunMoves.{is_answer}
use Rattle.listing.proofs.RunTurns.{turn-zero, turn-suc}
use Rattle.explainer.specs.Calls.{width_of, listing_in}
use Rattle.explainer.specs.Chains.{Told, Chain}
use Rattle.explainer.specs.Law.{IsTold}
use Rattle.explainer.specs.Moments.{Answer}
use Rattle.explainer.specs.NextLaw.{Answers, NextLaw}
use Rattle.explainer.specs.Nexts.{Ends, NextLeads}
use Rattle.explainer.specs.Preferring.{Order}
use Rattle.explainer.specs.declared.moments.NextAnswer.TheVariants.{Line}

-- so many answered checks lead from one allowance to another: each takes one at most, and none from
-- endless ones
pub Lasts : (count : ℕ) → Option ℕ → Option ℕ → Type 0
Lasts count None b = b ≡ None
Lasts count (Some a) None = ⊥
Lasts count (Some a) (Some b) = a ≤ b + count

none_lasts : (a : Option ℕ) → Lasts 0 a a
unfolding Lasts
none_lasts None = refl
none_lasts (Some a) = omega arith

one_lasts : (a b : Option ℕ) → Taken a b → Lasts 1 a b
unfolding Lasts
one_lasts None None taken = refl
one_lasts None (Some b) taken = absurd taken
one_lasts (Some a) None taken = absurd taken
one_lasts (Some a) (Some b) (inl same) = omega arith
one_lasts (Some a) (Some b) (inr less) = omega arith

lasts_on : (count : ℕ) (a b c : Option ℕ) → Lasts 1 a b → Lasts count b c → Lasts (suc count) a c
unfolding Lasts
lasts_on count None None c one more = more
lasts_on count None (Some b) c one more = absurd (cc)
lasts_on count (Some a) None c one more = absurd one
lasts_on count (Some a) (Some b) None one more = absurd more
lasts_on count (Some a) (Some b) (Some c) one more = omega arith

-- where at least so many are taken of an allowance that is at least as large and ends at nought
pub lasts_many : (count least : ℕ) (a b : Option ℕ) → Lasts count a b → b ≡ Some 0 → (a ≡ None → ⊥)
    × ((n : ℕ) → a ≡ Some n → least ≤ n → least ≤ count)
unfolding Lasts
lasts_many count least None b lasts spent = absurd (cc)
lasts_many count least (Some a) None lasts spent = absurd lasts
lasts_many count least (Some a) (Some b) lasts spent =
    let is : b ≡ 0 = cc in (λ e. absurd (cc), λ n e much. let same : a ≡ n = cc in omega (arith, is, same))

-- the steps over a width and a verdict, with so many checks allowed
abbrev pub turn_of : Order → (width : ℕ) → Meaning → (count : ℕ) → State → Turn
turn_of order width m0 count st = turn (order width) width m0.fit count st

-- a NEXT that was told this, over a width and the verdict of a meaning
pub record IsNext {O : Type 0} (order : Order) (width : ℕ) (meaning : O → Meaning)
    (checks : Checks O) (m0 : Meaning) (st : State) (o : O) (told : List Told) (r : Answer)
    (st' : State) (p : O) : Type 0 where
  pub last : O
  pub chain : Chain checks o told last
  pub sets : map (λ x. x.0) told ≡ sets_checked (order width) width m0.fit (length told) st
  pub said : Answers checks last (turn_of order width m0 (length told) st).said r p
  pub left : (turn_of order width m0 (length told) st).left ≡ st'
  pub told_is : All (IsTold m0) told
  pub grown : st.checks + length told ≡ (turn_of order width m0 (length told) st).left.checks
  pub kept : Kept m0 (meaning last)
  pub lasts : Lasts (length told) (meaning o).allowance (meaning last).allowance

module _ {O : Type 0} (order : Order) (width : ℕ) (meaning : O → Meaning) (checks : Checks O)
    (mean : ChecksMean meaning checks) (m0 : Meaning) where
  -- with no check answered it does what the steps do without
  ends_read : (m : Move) (st : State) (o : O) (r : Answer) (st' : State) (p : O)
      → move (order width) width st ≡ m → Kept m0 (meaning o)
      → Ends checks m st o r st' p → IsNext order width meaning checks m0 st o [] r st' p
  ends_read m st o r st' p due kept h =
      let asked : ℕ → Turn = λ s. says (refused s) st in
      let is : turn_of order width m0 0 st ≡ turn_at m st asked =
      turn-zero (order width) width m0.fit st ∙ ap (λ x. turn_at x st asked) due in
      let two = ended m st o r st' p h in
      record {
        last = o;
        chain = refl;
        sets = sym (sets_checked-zero (order width) width m0.fit st);
        said = subst (λ (t : Turn). Answers checks o t.said r p) (sym is) two.0;
        left = ap (λ (t : Turn). t.left) is ∙ two.1;
        told_is = All-nil (IsTold m0);
        grown = omega (arith, two.2, ap (λ (t : Turn). t.left.checks) is);
        kept = kept;
        lasts = none_lasts (meaning o).allowance;
      }
    where
      ended : (m : Move) (st : State) (o : O) (r : Answer) (st' : State) (p : O)
          → Ends checks m st o r st' p
          → Answers checks o (turn_at m st (λ s. says (refused s) st)).said r p
          × ((turn_at m st (λ s. says (refused s) st)).left ≡ st')
          × ((turn_at m st (λ s. says (refused s) st)).left.checks ≡ st.checks)
      ended (check s) st o r st' p h = (h.0, sym h.1, refl)
      ended (lists x) st o r st' p h = ((h.0, h.1), sym h.2, refl)
      ended all st o r st' p h = ((h.0, h.1), sym h.2, refl)
      ended full st o r st' p h = ((h.0, h.1), sym h.2, refl)

  -- one answered check: what it tells is the verdict, and what is meant then is as before
  one_read : (o q : O) (s : ℕ) (fit : Bool) → Kept m0 (meaning o) → checks o s (Ok (verdict fit)) q
      → IsTold m0 (s, fit) × Kept m0 (meaning q)
      × Lasts 1 (meaning o).allowance (meaning q).allowance
  one_read o q s fit kept checked =
      let c : Checked (meaning o) s (Ok (verdict fit)) (meaning q) = mean o s (Ok (verdict fit)) q checked in
      let told =
      answered_as (meaning o) s (verdict fit) (answer_is (meaning o) s (Ok (verdict fit)) c.0) in
      let near : Within m0.width s = subst (λ w. Within w s) kept.width told.0 in (
        (near, ap (λ (v : Verdict). v.fit) told.1 ∙ kept.fit s near),
        kept_on m0 (meaning o) (meaning q) kept c.1.0,
        one_lasts (meaning o).allowance (meaning q).allowance c.1.1,
      )

  module _ (st : State) (o q : O) (s : ℕ) (fit : Bool)
      (due : move (order width) width st ≡ check s) (kept : Kept m0 (meaning o))
      (checked : checks o s (Ok (verdict fit)) q) where
    -- the state that the answer leads to
    abbrev then : State
    then = (answered (order width) width st fit).state

    -- the steps with one check more go on from there
    turn_from : (g : ℕ)
        → turn_of order width m0 (suc g) st ≡ moved_or (answered (order width) width st fit) (turn_of order width m0 g)
    turn_from g =
        let go_on : ℕ
        → Turn = λ q. moved_or (answered (order width) width st (m0.fit q)) (turn_of order width m0 g) in
        turn-suc (order width) width m0.fit g st
        ∙ ap (λ m. turn_at m st go_on) due
        ∙ ap (λ f. moved_or (answered (order width) width st f) (turn_of order width m0 g)) (sym (one_read o q s fit kept checked).0.1)

    -- and the set comes before those that are checked then
    later : (g : ℕ) → State → List ℕ
    later g = sets_checked (order width) width m0.fit g

    sets_from : (g : ℕ) → later (suc g) st
        ≡ s ∷ sets_after (answered (order width) width st fit) (later g)
    unfolding later
    sets_from g =
        let go_on : ℕ → List ℕ =
        λ q. sets_after (answered (order width) width st (m0.fit q)) (later g) in
        sets_checked-suc (order width) width m0.fit g st
        ∙ ap (λ m. sets_at m go_on) due
        ∙ ap (λ f. s ∷ sets_after (answered (order width) width st f) (later g))
        (sym (one_read o q s fit kept checked).0.1)

    -- the answer lists a line
    line_read : (x : lines.Line) (r : Answer) (st' : State) (p : O)
        → (answered (order width) width st fit).line ≡ Some x
        → r ≡ Ok (Line x) → p ≡ q → st' ≡ then
        → IsNext order width meaning checks m0 st o ((s, fit) ∷ []) r st' p
    unfolding later
    line_read x r st' p line_is told same left =
        let is : turn_of order width m0 1 st ≡ says (listed x) then = turn_from 0
        ∙ ap (λ l. line_or l then (turn_of order width m0 0)) line_is in
        let one = one_read o q s fit kept checked in
        record {
          last = q;
          chain = (q, checked, refl);
          sets = sym (sets_from 0 ∙ ap (λ l. s ∷ sets_later l then (later 0)) line_is);
          said = subst (λ (t : Turn). Answers checks q t.said r p) (sym is) (told, same);
          left = ap (λ (t : Turn). t.left) is ∙ sym left;
          told_is = All-cons (IsTold m0) (s, fit) [] one.0 (All-nil (IsTold m0));
          grown =
              omega (arith, (is_answer (order width) width st fit).counted, ap (λ (t : Turn). t.left.checks) is);
          kept = one.1;
          lasts = one.2;
        }

    -- it lists none, and the NEXT goes on
    more_read : (told : List Told) (r : Answer) (st' : State) (p : O)
        → (answered (order width) width st fit).line ≡ None
        → IsNext order width meaning checks m0 then q told r st' p
        → IsNext order width meaning checks m0 st o ((s, fit) ∷ told) r st' p
    unfolding later
    more_read told r st' p line_is rest =
        let g : ℕ = length told in
        let is : turn_of order width m0 (suc g) st ≡ turn_of order width m0 g then = turn_from g
        ∙ ap (λ l. line_or l then (turn_of order width m0 g)) line_is in
        let one = one_read o q s fit kept checked in
        record {
          last = rest.last;
          chain = (q, checked, rest.chain);
          sets = sym (sets_from g ∙ ap (λ l. s ∷ sets_later l then (later g)) line_is
              ∙ ap (λ l. s ∷ l) (sym rest.sets));
          said = subst (λ (t : Turn). Answers checks rest.last t.said r p) (sym is) rest.said;
          left = ap (λ (t : Turn). t.left) is ∙ rest.left;
          told_is = All-cons (IsTold m0) (s, fit) told one.0 rest.told_is;
          grown =
              omega (arith, rest.grown, (is_answer (order width) width st fit).counted, ap (λ (t : Turn). t.left.checks) is);
          kept = rest.kept;
          lasts =
              lasts_on g (meaning o).allowance (meaning q).allowance (meaning rest.last).allowance one.2 rest.lasts;
        }

    -- by the line that the answer lists, if any
    on_read : (told : List Bool) (r : Answer) (st' : State) (p : O) (line : Option lines.Line)
        → (answered (order width) width st fit).line ≡ line
        → (NextLeads order width checks told then q r st' p → (asked : List Told)
        × IsNext order width meaning checks m0 then q asked r st' p)
        → MatchOption line (NextLeads order width checks told then q r st' p)
        (λ x. (told ≡ []) × (r ≡ Ok (Line x)) × (p ≡ q) × (st' ≡ then))
        → (asked : List Told) × IsNext order width meaning checks m0 st o asked r st' p
    on_read told r st' p None line_is later h =
        let rest : (asked : List Told)
        × IsNext order width meaning checks m0 then q asked r st' p = later h in
        ((s, fit) ∷ rest.0, more_read rest.0 r st' p line_is rest.1)
    on_read told r st' p (Some x) line_is later h =
        ((s, fit) ∷ [], line_read x r st' p line_is h.1 h.2 h.3)

  -- so it is with any answers
  pub next_read : (told : List Bool) (st : State) (o : O) (r : Answer) (st' : State) (p : O)
      → Kept m0 (meaning o)
      → NextLeads order width checks told st o r st' p → (asked : List Told)
      × IsNext order width meaning checks m0 st o asked r st' p
  next_read [] st o r st' p kept h =
      ([], ends_read (move (order width) width st) st o r st' p refl kept h)
  next_read (fit ∷ told) st o r st' p kept h =
      on_read st o h.1 h.0 fit h.2 kept h.3 told r st' p (answered (order width) width st fit).line refl
      (λ rest. next_read told (answered (order width) width st fit).state h.1 r st' p (one_read o h.1 h.0 fit kept h.3).1 rest) h.4

-- so it is with every NEXT, over what its oracle then means
pub next_law : {O : Type 0} (order : Order) (meaning : O → Meaning) (checks : Checks O)
    → ChecksMean meaning checks → NextLaw order meaning checks
next_law order meaning checks mean a b r done =
    let read : (told : List Told)
    × IsNext order (width_of a) meaning checks (meaning a.oracle) (listing_in a) a.oracle told r
    (listing_in b) b.oracle =
    next_read order (width_of a) meaning checks mean (meaning a.oracle) done.told (listing_in a)
    a.oracle r (listing_in b) b.oracle (kept (meaning a.oracle)) done.leads in
    record {
      told = read.0;
      last = read.1.last;
      chain = read.1.chain;
      told_is = read.1.told_is;
      sets = read.1.sets;
      said = read.1.said;
      left = read.1.left;
      width = done.width;
    }
