-- What an answer of NEXT says, from what the steps say. Assumes nothing.
use Rattle.std.proofs.Common.{◌≡◌, ℕ, ◌+◌, ◌-◌, ◌≤◌, ◌↔◌, Bool, true, false, cond, List, [], ◌∷◌, ◌++◌, length, Option, Some, None, Ok, Err, refl, sym, ap, ◌∙◌, subst, arith}
use Rattle.std.proofs.lemmas.List.{append-nil}
use Rattle.sets.specs.Requests.{Within, within}
use Rattle.oracle.specs.Asking.{nought, verdict, AnswersCheck, Checked}
use Rattle.oracle.specs.Calls.{CheckAnswer, Checks, ChecksMean}
use Rattle.oracle.specs.Meaning.{Meaning, Lawful, Kept, Unchanged}
use Rattle.oracle.specs.declared.CheckRefusal.{CheckRefusal}
use Rattle.oracle.specs.declared.CheckRefusal.TheVariants as check
use Rattle.oracle.specs.declared.Verdict.{Verdict}
use Rattle.oracle.specs.Refused.{Telling, check_tells, IsRefusedWith}
use Rattle.oracle.proofs.Checks.{unchanged, kept_on, refused_as}
use Rattle.oracle.proofs.Numbers.{answer_is, is_answer, outside_is}
use Rattle.listing.specs.Bill.{bound}
use Rattle.listing.specs.Lines.{most_lines, IsWhole}
use Rattle.listing.specs.RunLaws.{RunLaws, lines_after, IsTurn, IsNotRefused}
use Rattle.listing.specs.Steps.{State, start}
use Rattle.listing.specs.Turns.{Said, listed, all_listed, no_room, refused, after}
use Rattle.listing.specs.declared.lines.Line as lines
use Rattle.listing.proofs.Bills.{bill_laws}
use Rattle.listing.proofs.Falling.{line_laws}
use Rattle.listing.proofs.HalveLaws.{halving_laws}
use Rattle.listing.proofs.Orders.{order_laws}
use Rattle.listing.proofs.RunAll.{run_laws}
use Rattle.explainer.specs.Chains.{Told, Closes}
use Rattle.explainer.specs.Law.{enough, IsEnough, IsTrueAnswer}
use Rattle.explainer.specs.Moments.{Answer, line_of, IsNotSpent}
use Rattle.explainer.specs.NextLaw.{Answers}
use Rattle.explainer.specs.Preferring.{Order, AreOrders}
use Rattle.explainer.specs.Refused.{next_tells, IsRefusedBy}
use Rattle.explainer.specs.declared.moments.NextAnswer.{NextAnswer}
use Rattle.explainer.specs.declared.moments.NextAnswer.TheVariants.{Line, End}
use Rattle.explainer.proofs.NextNumbers.{one_number, not_answered, full_is, passed_is, not_full}
use Rattle.explainer.proofs.NextReads.{lasts_many, turn_of, IsNext}

-- the laws of the runs of the steps
pub runs : RunLaws
runs = run_laws order_laws line_laws halving_laws bill_laws

-- the state that the steps come to by NEXTs with so many checks each
abbrev pub come_to : Order → Meaning → (counts : List ℕ) → State
come_to order m0 counts = after (order m0.width) m0.width m0.fit counts start

-- END is answered exactly where all is said to be listed, and FULL where there is said to be no
-- room
answers_end : {O : Type 0} (checks : Checks O) (last p : O) (said : Said) (r : Answer)
    → Answers checks last said r p → (r ≡ Ok End) ↔ (said ≡ all_listed)
answers_end checks last p (listed x) r a = let is = a.0 in (λ e. absurd (cc), λ e. absurd (cc))
answers_end checks last p all_listed r a = (λ e. refl, λ e. a.0)
answers_end checks last p no_room r a =
    let is = full_is r a.0 in (λ e. absurd (cc), λ e. absurd (cc))
answers_end checks last p (refused s) r a =
    let is = passed_is r a.0 a.2 in (λ e. absurd (cc), λ e. absurd (cc))

answers_full : {O : Type 0} (checks : Checks O) (last p : O) (said : Said) (r : Answer)
    → Answers checks last said r p → IsRefusedWith next_tells r 12 [] ↔ (said ≡ no_room)
answers_full checks last p (listed x) r a =
    (λ e. absurd (not_answered r (Line x) 12 [] a.0 e), λ e. absurd (cc))
answers_full checks last p all_listed r a =
    (λ e. absurd (not_answered r End 12 [] a.0 e), λ e. absurd (cc))
answers_full checks last p no_room r a = (λ e. refl, λ e. a.0)
answers_full checks last p (refused s) r a =
    (λ e. absurd (not_full r a.0 a.2 e), λ e. absurd (cc))

-- what is FULL is not SPENT, nor OUTSIDE
full_unspent : (r : Answer) → IsRefusedWith next_tells r 12 [] → IsNotSpent r
full_unspent r full = λ label spent.
    let e : ◌≡◌ {A = ℕ} 12 13 = one_number r 12 13 [] (label ∷ []) full spent in
    absurd (omega arith)

full_within : (r : Answer) → IsRefusedWith next_tells r 12 [] → IsRefusedWith next_tells r 10 [] → ⊥
full_within r full outside =
    let e : ◌≡◌ {A = ℕ} 12 10 = one_number r 12 10 [] [] full outside in absurd (omega arith)

-- what is answered with no check refused is not SPENT
told_unspent : {O : Type 0} (checks : Checks O) (last p : O) (said : Said) (r : Answer)
    → Answers checks last said r p → IsNotRefused said → IsNotSpent r
told_unspent checks last p (listed x) r a told =
    λ label. not_answered r (Line x) 13 (label ∷ []) a.0
told_unspent checks last p all_listed r a told = λ label. not_answered r End 13 (label ∷ []) a.0
told_unspent checks last p no_room r a told = full_unspent r a.0
told_unspent checks last p (refused s) r a told = absurd told

-- a refusal reads the width, the allowance and the label, and no verdict
refused_same : (near spent : Bool) (label : ℕ) (x y : Verdict) (e : CheckRefusal)
    → Err e ≡ cond near (cond spent (Err (check.Spent label)) (Ok x)) (Err check.Outside)
    → Err e ≡ cond near (cond spent (Err (check.Spent label)) (Ok y)) (Err check.Outside)
refused_same true true label x y e is = is
refused_same true false label x y e is = absurd (cc)
refused_same false spent label x y e is = is

-- so what refuses a check refuses it again
refused_again : (m n : Meaning) (s : ℕ) (e : CheckRefusal) → Checked m s (Err e) n
    → Checked n s (Err e) n
refused_again m n s e checked =
    let same : Unchanged m n = checked.1 in
    let due : ℕ → Option ℕ → ℕ → Type 0 =
    λ w a l. Err e ≡ cond (within w s) (cond (nought a) (Err (check.Spent l)) (Ok (verdict (n.fit s)))) (Err check.Outside) in
    let old : due m.width m.allowance m.label =
    refused_same (within m.width s) (nought m.allowance) m.label (verdict (m.fit s)) (verdict (n.fit s)) e
    (answer_is m s (Err e) checked.0) in
    let by_width : due n.width m.allowance m.label = subst (λ w. due w m.allowance m.label) (sym same.kept.width) old in
    let by_left : due n.width n.allowance m.label = subst (λ a. due n.width a m.label) (sym same.allowance) by_width in
    let again : due n.width n.allowance n.label =
    subst (λ l. due n.width n.allowance l) (sym same.label) by_left in
    (is_answer n s (Err e) again, unchanged n)

-- 64 checks are enough for the steps
enough_many : 64 ≤ enough
enough_many = omega arith

is_enough : (a : Option ℕ) (count : ℕ) → (a ≡ None → ⊥)
    × ((n : ℕ) → a ≡ Some n → 64 ≤ n → 64 ≤ count) → IsEnough a → 64 ≤ count
is_enough None count lasts much = absurd (lasts.0 refl)
is_enough (Some n) count lasts much = lasts.1 n refl (omega (arith, enough_many, much))

module _ {O : Type 0} (order : Order) (orders : AreOrders order) (meaning : O → Meaning)
    (checks : Checks O) (mean : ChecksMean meaning checks) (m0 : Meaning) (law : Lawful m0)
    (counts : List ℕ) (o : O) (told : List Told) (r : Answer) (st' : State) (p : O)
    (next : IsNext order m0.width meaning checks m0 (come_to order m0 counts) o told r st' p) where
  -- what the steps say, and what holds of it
  abbrev said : Said
  said = (turn_of order m0.width m0 (length told) (come_to order m0 counts)).said

  abbrev left : State
  left = (turn_of order m0.width m0 (length told) (come_to order m0 counts)).left

  holds : IsTurn (order m0.width) m0.width m0.fit (come_to order m0 counts) said left
  holds =
      runs.1 (order m0.width) m0.width m0.fit counts (length told) law.narrow (orders m0.width) law.downward

  -- a refused check is of a set within the width, and refused because nothing is left
  pub refused_is : (s : ℕ) → said ≡ refused s → (e : CheckRefusal) → checks next.last s (Err e) p
      → Within m0.width s × (e ≡ check.Spent (meaning next.last).label)
      × ((meaning next.last).allowance ≡ Some 0)
  refused_is s is e h =
      let near : Within m0.width s = holds.within s is in
      let cases =
      refused_as (meaning next.last) s e (subst (λ w. Within w s) (sym next.kept.width) near)
      (answer_is (meaning next.last) s (Err e) (mean next.last s (Err e) p h).0) in
      (near, cases.0, cases.1)

  -- width and verdict are kept
  kept_by : (x : Said) → Answers checks next.last x r p → Kept m0 (meaning p)
  kept_by (listed l) a = subst (λ (q : O). Kept m0 (meaning q)) (sym a.1) next.kept
  kept_by all_listed a = subst (λ (q : O). Kept m0 (meaning q)) (sym a.1) next.kept
  kept_by no_room a = subst (λ (q : O). Kept m0 (meaning q)) (sym a.1) next.kept
  kept_by (refused s) a =
      kept_on m0 (meaning next.last) (meaning p) next.kept (mean next.last s (Err a.0) p a.1).1.kept

  pub next_keeps : Kept m0 (meaning p)
  next_keeps = kept_by said next.said

  -- what follows on the answered checks
  closes_answered : (x : NextAnswer) → r ≡ Ok x → p ≡ next.last
      → Closes m0.width checks r next.last p
  closes_answered x is same = record {
    answered = λ e. same;
    full = λ e. same;
    refused = λ n vs e other. absurd (not_answered r x n vs is e);
  }

  closes_full : IsRefusedWith next_tells r 12 [] → p ≡ next.last
      → Closes m0.width checks r next.last p
  closes_full full same = record {
    answered = λ e. same;
    full = λ e. same;
    refused = λ n vs e other. absurd (other (one_number r n 12 vs [] e full));
  }

  closes_refused : (s : ℕ) → Within m0.width s → IsRefusedBy checks next.last s r p
      → Closes m0.width checks r next.last p
  closes_refused s near a = record {
    answered = λ e.
        let two : ◌≡◌ {A = Option Telling} None (Some (check_tells a.0)) = sym e ∙ a.2 in
        absurd (cc);
    full = λ e. absurd (not_full r a.0 a.2 e);
    refused = λ n vs e other. (s, near, a);
  }

  closes_by : (x : Said) → said ≡ x → Answers checks next.last x r p
      → Closes m0.width checks r next.last p
  closes_by (listed l) is a = closes_answered (Line l) a.0 a.1
  closes_by all_listed is a = closes_answered End a.0 a.1
  closes_by no_room is a = closes_full a.0 a.1
  closes_by (refused s) is a = closes_refused s (holds.within s is) a

  pub next_closes : Closes m0.width checks r next.last p
  next_closes = closes_by said refl next.said

  -- the line that is answered is the one that the steps list
  answered_by : (x : Said) (ls : List lines.Line) → Answers checks next.last x r p
      → ls ++ line_of (Some r) ≡ lines_after ls x
  answered_by (listed l) ls a = ap (λ (q : Answer). ls ++ line_of (Some q)) a.0
  answered_by all_listed ls a = ap (λ (q : Answer). ls ++ line_of (Some q)) a.0 ∙ append-nil ls
  answered_by no_room ls a =
      ap (λ (q : Answer). ls ++ line_of (Some q)) (full_is r a.0) ∙ append-nil ls
  answered_by (refused s) ls a =
      ap (λ (q : Answer). ls ++ line_of (Some q)) (passed_is r a.0 a.2) ∙ append-nil ls

  pub next_lines : (come_to order m0 counts).lines ++ line_of (Some r) ≡ left.lines
  next_lines = answered_by said (come_to order m0 counts).lines next.said ∙ sym holds.grows

  -- no check is refused where enough are allowed: the steps with 64 refuse none
  many_unrefused : 64 ≤ length told → IsNotRefused said
  many_unrefused many =
      let h : ℕ = length told - 64 in
      let sum : 64 + h ≡ length told = omega arith in
      let enough_told = runs.6 (order m0.width) m0.width m0.fit counts law.narrow (orders m0.width) law.downward in
      let same = runs.10 (order m0.width) m0.width m0.fit 64 h (come_to order m0 counts) enough_told in
      subst (λ k. IsNotRefused (turn_of order m0.width m0 k (come_to order m0 counts)).said) sum (subst (λ t. IsNotRefused t.said) (sym same) enough_told)

  enough_unrefused : (x : Said) → said ≡ x → Answers checks next.last x r p
      → IsEnough (meaning o).allowance → IsNotRefused x
  enough_unrefused (listed l) is a much = tt
  enough_unrefused all_listed is a much = tt
  enough_unrefused no_room is a much = tt
  enough_unrefused (refused s) is a much =
      let cases = refused_is s is a.0 a.1 in
      let taken = lasts_many (length told) 64 (meaning o).allowance (meaning next.last).allowance next.lasts cases.2 in
      subst IsNotRefused is (many_unrefused (is_enough (meaning o).allowance (length told) taken much))

  -- with SPENT a check within the width is refused with the same label
  spent_refuses : (x : Said) → said ≡ x → Answers checks next.last x r p → (label : ℕ)
      → IsRefusedWith next_tells r 13 (label ∷ [])
      → (s : ℕ) × (answer : CheckAnswer) × Within m0.width s × AnswersCheck (meaning p) s answer
      × IsRefusedWith check_tells answer 13 (label ∷ [])
  spent_refuses (listed l) is a label e = absurd (not_answered r (Line l) 13 (label ∷ []) a.0 e)
  spent_refuses all_listed is a label e = absurd (not_answered r End 13 (label ∷ []) a.0 e)
  spent_refuses no_room is a label e = absurd (full_unspent r a.0 label e)
  spent_refuses (refused s) is a label e =
      let checked = mean next.last s (Err a.0) p a.1 in
      let again = refused_again (meaning next.last) (meaning p) s a.0 checked in
      (s, Err a.0, holds.within s is, again.0, sym a.2 ∙ e)

  -- no set is outside the width
  never_outside : (x : Said) → said ≡ x → Answers checks next.last x r p
      → IsRefusedWith next_tells r 10 [] → ⊥
  never_outside (listed l) is a e = not_answered r (Line l) 10 [] a.0 e
  never_outside all_listed is a e = not_answered r End 10 [] a.0 e
  never_outside no_room is a e = full_within r a.0 e
  never_outside (refused s) is a e =
      let outside : ◌≡◌ {A = CheckAnswer} (Err a.0) (Err check.Outside) =
      outside_is {A = Verdict} (Err a.0) (sym a.2 ∙ e) in
      let spent = (refused_is s is a.0 a.1).1 in
      cc

  -- where the answer is not SPENT no check was refused
  unspent_told : (x : Said) → said ≡ x → Answers checks next.last x r p → IsNotSpent r
      → IsNotRefused x
  unspent_told (listed l) is a unspent = tt
  unspent_told all_listed is a unspent = tt
  unspent_told no_room is a unspent = tt
  unspent_told (refused s) is a unspent =
      let spent = (refused_is s is a.0 a.1).1 in
      absurd (unspent (meaning next.last).label (a.2 ∙ ap (λ q. Some (check_tells q)) spent))

  -- so the checks that are then answered are at most the bound
  pub next_bounded : IsNotSpent r → left.checks ≤ bound m0.width left.lines
  next_bounded unspent = holds.bounded (unspent_told said refl next.said unspent)

  -- what holds of an answer of NEXT
  pub answer_is_true : (ls : List lines.Line) → ls ≡ (come_to order m0 counts).lines
      → (found : Option ℕ) → found ≡ (meaning o).allowance
      → IsTrueAnswer m0 ls found r (meaning p)
  answer_is_true ls is found found_is =
      let ended = answers_end checks next.last p said r next.said in
      let full = answers_full checks next.last p said r next.said in
      let whole : (l : List lines.Line) → Type 0 = IsWhole m0.width m0.fit in
      record {
        ended = (
          λ e. subst whole (sym is) (holds.whole.0 (ended.0 e)),
          λ all. ended.1 (holds.whole.1 (subst whole is all)),
        );
        filled = (
          λ e. subst (λ l. (length l ≡ most_lines)
              × (whole l → ⊥)) (sym is) (holds.filled.0 (full.0 e)),
          λ all. full.1 (holds.filled.1 (subst (λ l. (length l ≡ most_lines)
              × (whole l → ⊥)) is all)),
        );
        unspent = λ much.
            told_unspent checks next.last p said r next.said
            (enough_unrefused said refl next.said (subst IsEnough found_is much));
        spent = spent_refuses said refl next.said;
        never_outside = never_outside said refl next.said;
      }
