-- Both is an oracle: from what it asks of its sides, what it answers and leaves. Proofs only.
-- Assumes nothing.
use Rattle.std.specs.Prelude.{◌≡◌, ℕ, ◌^◌, min, true, false, cond, not, ◌&&◌, ◌||◌, Ok, Err}
use Rattle.std.proofs.Common.{inl, inr, sym, ap, subst, ◌∙◌}
use Rattle.std.proofs.lemmas.Bool.{cases_Bool, cond-true, cond-false, and_parts, ltb-true, lt-ltb, not-true}
use Rattle.sets.specs.Requests.{within}
use Rattle.oracle.specs.Asking.{nought, verdict, Taken, Checked, grown, Grown, Granted, Leaves}
use Rattle.oracle.specs.Calls.{CheckAnswer, GrantAnswer, Checks, Grants, ChecksMean, GrantsMean}
use Rattle.oracle.specs.Meaning.{Meaning, Kept, Unchanged}
use Rattle.oracle.specs.declared.CheckRefusal.TheVariants.{Outside, Spent}
use Rattle.oracle.proofs.Checks.{spent, answered, answer_outside, answer_spent, answer_fit, checked_as, left_as, unchanged, kept}
use Rattle.oracle.proofs.Numbers.{check_answer, outside_is, one_grant}
use Rattle.layers.specs.Asked.{says_fit, InTurn, BothAsked, BothChecked}
use Rattle.layers.specs.Calls.{AsksInTurn, BothChecks, ThenGrants, BothGrants}
use Rattle.layers.specs.Layered.{lesser, both}
use Rattle.layers.specs.Meant.{both_meaning}
use Rattle.layers.specs.declared.both.Both.{Both}
use Rattle.layers.specs.Laws.{within_both}
use Rattle.layers.specs.Allowances.{nought_lesser, taken_lesser, taken_none, grown_lesser}

-- what both sides keep Both keeps
kept_both : (l l' r r' : Meaning) → Kept l l' → Kept r r' → Kept (both l r) (both l' r')
kept_both l l' r r' kl kr = record {
  width = ap (λ w. min w r'.width) kl.width ∙ ap (min l.width) kr.width;
  fit = λ s near.
      let close = within_both l.width r.width s near in
      ap (λ b. b && r'.fit s) (kl.fit s close.0) ∙ ap (λ b. l.fit s && b) (kr.fit s close.1);
}

unchanged_both : (l l' r r' : Meaning) → Unchanged l l' → Unchanged r r'
    → Unchanged (both l r) (both l' r')
unchanged_both l l' r r' ul ur = record {
  kept = kept_both l l' r r' ul.kept ur.kept;
  allowance = ap (λ a. lesser a r'.allowance) ul.allowance ∙ ap (lesser l.allowance) ur.allowance;
  label = ap (λ a. cond (nought a) l'.label r'.label) ul.allowance
      ∙ ap (λ x. cond (nought l.allowance) x r'.label) ul.label
      ∙ ap (cond (nought l.allowance) l.label) ur.label;
}

-- a set within the width of Both is within that of each side
near_both : (l r : Meaning) (s : ℕ) → within (both l r).width s ≡ true → (within l.width s ≡ true)
    × (within r.width s ≡ true)
near_both l r s near =
    let close = within_both l.width r.width s (ltb-true s (2 ^ min l.width r.width) near) in
    (lt-ltb s (2 ^ l.width) close.0, lt-ltb s (2 ^ r.width) close.1)

-- where the left has something left, Both has nought if the right has
nought_right : (l r : Meaning) → nought l.allowance ≡ false
    → nought (both l r).allowance ≡ nought r.allowance
nought_right l r some =
    nought_lesser l.allowance r.allowance ∙ ap (λ b. b || nought r.allowance) some

module _ (l r l' r' : Meaning) (s : ℕ) (answer : CheckAnswer) where
  both_outside : within (min l.width r.width) s ≡ false → answer ≡ Err Outside → l' ≡ l → r' ≡ r
      → Checked (both l r) s answer (both l' r')
  both_outside far refused same-l same-r =
      let P : Meaning → Type 0 = λ n. Unchanged (both l r) n in
      let after : Unchanged (both l r) (both l' r') = subst P (sym (ap (λ n. both n r') same-l
      ∙ ap (both l) same-r)) (unchanged (both l r)) in
      checked_as (both l r) (both l' r') s answer (Err Outside) refused (sym (answer_outside (both l r) s far)) after

  -- a side that has nought refuses, and so does Both, with that label
  both_spent_right : within (both l r).width s ≡ true → nought l.allowance ≡ false
      → nought r.allowance ≡ true → Checked r s answer r' → l' ≡ l
      → Checked (both l r) s answer (both l' r')
  both_spent_right near some none right same =
      let told = left_as r r' s answer (spent r) right (answer_spent r s (near_both l r s near).1 none) in
      let P : Meaning → Type 0 = λ n. Unchanged l n in
      let due : spent r ≡ check_answer (both l r) s =
      sym (answer_spent (both l r) s near (nought_right l r some ∙ none)
      ∙ ap (λ x. Err (Spent x)) (cond-false (nought l.allowance) l.label r.label some)) in
      checked_as (both l r) (both l' r') s answer (spent r) told.0 due (unchanged_both l l' r r' (subst P (sym same) (unchanged l)) told.1)

  both_spent_left : within (both l r).width s ≡ true → nought l.allowance ≡ true → answer ≡ spent l
      → Unchanged l l' → r' ≡ r → Checked (both l r) s answer (both l' r')
  both_spent_left near none refused left same =
      let P : Meaning → Type 0 = λ n. Unchanged r n in
      let due : spent l ≡ check_answer (both l r) s =
      sym (answer_spent (both l r) s near (nought_lesser l.allowance r.allowance
      ∙ ap (λ b. b || nought r.allowance) none)
      ∙ ap (λ x. Err (Spent x)) (cond-true (nought l.allowance) l.label r.label none)) in
      checked_as (both l r) (both l' r') s answer (spent l) refused due (unchanged_both l l' r r' left (subst P (sym same) (unchanged r)))

  -- where neither has nought, Both answers
  both_answers : within (both l r).width s ≡ true → nought l.allowance ≡ false
      → nought r.allowance ≡ false → answer ≡ Ok (verdict (l.fit s && r.fit s))
      → Kept l l' → Taken l.allowance l'.allowance → Kept r r' → Taken r.allowance r'.allowance
      → Checked (both l r) s answer (both l' r')
  both_answers near some-l some_r told kl tl kr tr =
      checked_as (both l r) (both l' r') s answer (answered (both l r) s) told
      (sym (answer_fit (both l r) s near (nought_right l r some-l ∙ some_r)))
      (kept_both l l' r r' kl kr, taken_lesser l.allowance l'.allowance r.allowance r'.allowance tl tr)

  both_asked_right : within (both l r).width s ≡ true → nought l.allowance ≡ false
      → nought r.allowance ≡ false → l.fit s ≡ true
      → Kept l l' → Taken l.allowance l'.allowance → Checked r s answer r'
      → Checked (both l r) s answer (both l' r')
  both_asked_right near some-l some_r fit kl tl right =
      let told = left_as r r' s answer (answered r s) right (answer_fit r s (near_both l r s near).1 some_r) in
      both_answers near some-l some_r (told.0
      ∙ ap (λ b. Ok (verdict (b && r.fit s))) (sym fit)) kl tl told.1.0 told.1.1

  both_asked_left : within (both l r).width s ≡ true → nought l.allowance ≡ false
      → nought r.allowance ≡ false → l.fit s ≡ false
      → Kept l l' → Taken l.allowance l'.allowance → answer ≡ answered l s → r' ≡ r
      → Checked (both l r) s answer (both l' r')
  both_asked_left near some-l some_r unfit kl tl told same =
      let P : Meaning → Type 0 = λ n. Kept r n × Taken r.allowance n.allowance in
      let right : Kept r r'
      × Taken r.allowance r'.allowance = subst P (sym same) (kept r, taken_none r.allowance) in
      both_answers near some-l some_r (told ∙ ap (λ b. Ok (verdict b)) unfit
      ∙ ap (λ b. Ok (verdict (b && r.fit s))) (sym unfit)) kl tl right.0 right.1

  -- the left was asked first
  both_left_first : within (both l r).width s ≡ true
      → (not (nought l.allowance) && nought r.allowance) ≡ false → InTurn l r s answer l' r'
      → Checked (both l r) s answer (both l' r')
  both_left_first near order turn =
      let near-l = (near_both l r s near).0 in
      elim (cases_Bool (nought l.allowance)) [
        | inl none ↦
            let told = left_as l l' s turn.0 (spent l) turn.1 (answer_spent l s near-l none) in
            let last = turn.2.1 (ap says_fit told.0) in
            both_spent_left near none (last.0 ∙ told.0) told.1 last.1
        | inr some ↦
            let told = left_as l l' s turn.0 (answered l s) turn.1 (answer_fit l s near-l some) in
            let some_r : nought r.allowance ≡ false = ap (λ b. not b && nought r.allowance) (sym some) ∙ order in
            elim (cases_Bool (l.fit s)) [
              | inl fit ↦
                  let last = turn.2.0 (ap says_fit told.0 ∙ fit) in
                  both_asked_right near some some_r fit told.1.0 told.1.1 last
              | inr unfit ↦
                  let last = turn.2.1 (ap says_fit told.0 ∙ unfit) in
                  both_asked_left near some some_r unfit told.1.0 told.1.1 (last.0 ∙ told.0) last.1
            ]
      ]

  checked_both : BothChecked l r s answer l' r' → Checked (both l r) s answer (both l' r')
  checked_both asked =
      elim (cases_Bool (within (both l r).width s)) [
        | inr far ↦ let h = asked.1 far in both_outside far (outside_is answer h.0) h.1 h.2
        | inl near ↦
            let h : BothAsked l r s answer l' r' = asked.0 near in
            elim (cases_Bool (not (nought l.allowance) && nought r.allowance)) [
              | inl right ↦
                  let turn = h.0 right in
                  let two = and_parts (not (nought l.allowance)) (nought r.allowance) right in
                  both_spent_right near (not-true (nought l.allowance) two.0) two.1 turn.0 turn.1
              | inr left ↦
                  let turn = h.1 left in
                  both_left_first near left turn
            ]
      ]

-- a grant to each side is one to Both
module _ (l r l' r' : Meaning) (k : ℕ) where
  granted_after : (answer : GrantAnswer) → Leaves (Grown k) answer l l'
      → Leaves (Grown k) answer r r' → Leaves (Grown k) answer (both l r) (both l' r')
  granted_after (Ok u) gl gr = (
    kept_both l l' r r' gl.0 gr.0,
    ap (λ a. lesser a r'.allowance) gl.1 ∙ ap (lesser (grown k l.allowance)) gr.1
        ∙ grown_lesser k l.allowance r.allowance,
  )
  granted_after (Err e) gl gr = unchanged_both l l' r r' gl gr

  granted_both : (answer : GrantAnswer) → Granted l k answer l' → Granted r k answer r'
      → Granted (both l r) k answer (both l' r')
  granted_both answer gl gr = (gl.0, granted_after answer gl.1 gr.1)

-- so it is of the oracles themselves, where it is so of both sides
module _ {L R : Type 0} (left : L → Meaning) (right : R → Meaning) (lefts : Checks L)
    (rights : Checks R) (lm : ChecksMean left lefts) (rm : ChecksMean right rights) (o p : Both L R)
    (s : ℕ) (r : CheckAnswer) where
  in_turn : AsksInTurn lefts rights o s r p
      → InTurn (left o.left) (right o.right) s r (left p.left) (right p.right)
  in_turn h = (
    h.0,
    lm o.left s h.0 p.left h.1,
    (λ e. rm o.right s r p.right (h.2.0 e), λ e. let x = h.2.1 e in (x.0, ap right x.1)),
  )

  pub both_asked : BothChecks left right lefts rights o s r p
      → BothChecked (left o.left) (right o.right) s r (left p.left) (right p.right)
  both_asked h = (
    λ near. (
      λ e. let x = (h.0 near).0 e in (rm o.right s r p.right x.0, ap left x.1),
      λ e. in_turn ((h.0 near).1 e),
    ),
    λ far. let x =
        h.1 far in (x.0, ap (λ (q : Both L R). left q.left) x.1, ap (λ (q : Both L R). right q.right) x.1),
  )

  pub both_checks_mean : BothChecks left right lefts rights o s r p
      → Checked (both_meaning left right o) s r (both_meaning left right p)
  both_checks_mean h =
      checked_both (left o.left) (right o.right) (left p.left) (right p.right) s r (both_asked h)

module _ {L R : Type 0} (left : L → Meaning) (right : R → Meaning) (lefts : Grants L)
    (rights : Grants R) (lm : GrantsMean left lefts) (rm : GrantsMean right rights) (o p : Both L R)
    (k : ℕ) (r : GrantAnswer) where
  then_granted : (first : GrantAnswer) → lefts o.left k first p.left
      → ThenGrants rights first o.right k r p.right
      → Granted (left o.left) k r (left p.left) × Granted (right o.right) k r (right p.right)
  then_granted (Ok u) h then =
      let l = lm o.left k (Ok u) p.left h in
      let g = rm o.right k r p.right then in (
        subst (λ (y : GrantAnswer). Granted (left o.left) k y (left p.left))
            (one_grant k (Ok u) r l.0 g.0) l,
        g,
      )
  then_granted (Err e) h then =
      let l = lm o.left k (Err e) p.left h in
      let same : Unchanged (right o.right) (right p.right) = subst (λ (q : R). Unchanged (right o.right) (right q)) (sym then.1) (unchanged (right o.right)) in (
        subst (λ (y : GrantAnswer). Granted (left o.left) k y (left p.left)) (sym then.0) l,
        subst (λ (y : GrantAnswer). Granted (right o.right) k y (right p.right)) (sym then.0) (l.0, same),
      )

  pub both_given : BothGrants lefts rights o k r p → Granted (left o.left) k r (left p.left)
      × Granted (right o.right) k r (right p.right)
  both_given h = then_granted h.0 h.1 h.2

  pub both_grants_mean : BothGrants lefts rights o k r p
      → Granted (both_meaning left right o) k r (both_meaning left right p)
  both_grants_mean h =
      let given = both_given h in
      granted_both (left o.left) (right o.right) (left p.left) (right p.right) k r given.0 given.1
