-- Quota is an oracle: from its number and what it asks below, what it answers and leaves; and what
-- it takes over endless oracles. Proofs only. Assumes nothing.
use Rattle.std.specs.Prelude.{◌≡◌, ℕ, zero, suc, ◌+◌, min, Bool, true, false, cond, List, [], ◌∷◌, Ok, Err, Some, None, Option, nat_le, refl}
use Rattle.std.proofs.Common.{inl, inr, sym, ap, subst, ◌∙◌, arith}
use Rattle.std.proofs.lemmas.Bool.{cases_Bool}
use Rattle.sets.specs.Requests.{within}
use Rattle.oracle.specs.Asking.{nought, verdict, Leaves, Taken, Checked, Grown, Granted}
use Rattle.oracle.specs.Calls.{CheckAnswer, GrantAnswer, Checks, Grants, ChecksMean, GrantsMean}
use Rattle.oracle.specs.Meaning.{Meaning, limit, Unchanged}
use Rattle.oracle.specs.Refused.{Telling, check_tells, IsRefusedWith}
use Rattle.oracle.specs.declared.CheckRefusal.{CheckRefusal}
use Rattle.oracle.specs.declared.CheckRefusal.TheVariants.{Outside, Spent}
use Rattle.oracle.specs.declared.GrantRefusal.TheVariants.{Over}
use Rattle.oracle.specs.declared.Verdict.{Verdict}
use Rattle.oracle.proofs.Checks.{spent, answered, answer_outside, answer_spent, answer_fit, checked_as, left_as, unchanged}
use Rattle.oracle.proofs.Numbers.{check_answer, values_in, outside_is, spent_is, answer_is, grant_is}
use Rattle.layers.specs.Allowances.{nought_lesser, taken_lesser, grown_lesser}
use Rattle.layers.specs.Asked.{one_less, number_granted, QuotaAsked, QuotaChecked}
use Rattle.layers.specs.AskedLaws.{Took, QuotaTakes}
use Rattle.layers.specs.Calls.{QuotaAsks, QuotaChecks, number_after, QuotaGrants}
use Rattle.layers.specs.Layered.{lesser, quota}
use Rattle.layers.specs.Meant.{quota_meaning}
use Rattle.layers.specs.declared.quota.Quota.{Quota}

-- one is taken from the number, and one or none below
quota_taken : (n : ℕ) (a a' : Option ℕ) → Taken a a'
    → Taken (lesser (Some (suc n)) a) (lesser (Some n) a')
quota_taken n None None taken = inr refl
quota_taken n None (Some b) taken = absurd taken
quota_taken n (Some a) None taken = absurd taken
quota_taken n (Some a) (Some b) taken =
    taken_lesser (Some (suc n)) (Some n) (Some a) (Some b) (inr refl) taken

module _ (label : ℕ) (m m' : Meaning) where
  quota_unchanged : (number : ℕ) → Unchanged m m'
      → Unchanged (quota number label m) (quota number label m')
  quota_unchanged number u = record {
    kept = record { width = u.kept.width; fit = u.kept.fit };
    allowance = ap (lesser (Some number)) u.allowance;
    label = ap (cond (nought (Some number)) label) u.label;
  }

  quota_same : (number : ℕ) → m' ≡ m → Unchanged (quota number label m) (quota number label m')
  quota_same number same =
      quota_unchanged number (subst (λ (x : Meaning). Unchanged m x) (sym same) (unchanged m))

module _ (label : ℕ) (m m' : Meaning) (s : ℕ) (answer : CheckAnswer) where
  quota_as : (number n n' : ℕ) (due : CheckAnswer) → answer ≡ due
      → due ≡ check_answer (quota number label m) s
      → Leaves Taken due (quota number label m) (quota n label m') → n' ≡ n
      → Checked (quota number label m) s answer (quota n' label m')
  quota_as number n n' due told right after same =
      checked_as (quota number label m) (quota n' label m') s answer due told right
      (subst (λ (x : ℕ). Leaves Taken due (quota number label m) (quota x label m')) (sym same) after)

  quota_asked : (number n' : ℕ) → within m.width s ≡ true → QuotaAsked number label m s answer n' m'
      → Checked (quota number label m) s answer (quota n' label m')
  quota_asked zero n' near h =
      let none : nought (quota zero label m).allowance ≡ true = nought_lesser (Some zero) m.allowance in
      quota_as zero zero n' (Err (Spent label)) (spent_is answer label h.0)
      (sym (answer_spent (quota zero label m) s near none)) (quota_same label m m' zero h.2) h.1
  quota_asked (suc n) n' near h =
      let is : nought (quota (suc n) label m).allowance ≡ nought m.allowance = nought_lesser (Some (suc n)) m.allowance in
      elim (cases_Bool (nought m.allowance)) [
        | inl none ↦
            let told = left_as m m' s answer (spent m) h.0 (answer_spent m s near none) in
            quota_as (suc n) (suc n) n' (spent m) told.0 (sym (answer_spent (quota (suc n) label m) s near (is ∙ none)))
            (quota_unchanged label m m' (suc n) told.1) (h.1
            ∙ ap (λ (a : CheckAnswer). one_less a (suc n)) told.0)
        | inr some ↦
            let told = left_as m m' s answer (answered m s) h.0 (answer_fit m s near some) in
            quota_as (suc n) n n' (answered m s) told.0 (sym (answer_fit (quota (suc n) label m) s near (is ∙ some))) (
              record {
                width =
                    told.1.0.width;
                fit = told.1.0.fit;
              },
              quota_taken n m.allowance m'.allowance told.1.1,
            )
            (h.1 ∙ ap (λ (a : CheckAnswer). one_less a (suc n)) told.0 ∙ omega arith)
      ]

  quota_checked : (number n' : ℕ) → QuotaChecked number label m s answer n' m'
      → Checked (quota number label m) s answer (quota n' label m')
  quota_checked number n' h =
      elim (cases_Bool (within m.width s)) [
        | inl near ↦ quota_asked number n' near (h.0 near)
        | inr far ↦
            let x = h.1 far in
            quota_as number number n' (Err Outside) (outside_is answer x.0)
            (sym (answer_outside (quota number label m) s far)) (quota_same label m m' number x.2) x.1
      ]

-- so it is of the oracle itself, where it is so below
module _ {O : Type 0} (meaning : O → Meaning) (checks : Checks O) (mean : ChecksMean meaning checks)
    (o p : Quota O) (s : ℕ) (r : CheckAnswer) where
  asked_at : (number : ℕ) → QuotaAsks checks number o s r p → number ≡ o.number
      → (p.label ≡ o.label)
      × QuotaAsked number o.label (meaning o.below) s r p.number (meaning p.below)
  asked_at zero h is = (
    ap (λ (q : Quota O). q.label) h.1,
    (
      h.0,
      ap (λ (q : Quota O). q.number) h.1
          ∙ sym is,
      ap (λ (q : Quota O). meaning q.below) h.1,
    ),
  )
  asked_at (suc n) h is = (h.1, (mean o.below s r p.below h.0, h.2))

  pub quota_asks : QuotaChecks meaning checks o s r p
      → (p.label ≡ o.label)
      × QuotaChecked o.number o.label (meaning o.below) s r p.number (meaning p.below)
  quota_asks h =
      let far : within (meaning o.below).width s ≡ false
      → (p.label ≡ o.label) × IsRefusedWith check_tells r 10 [] × (p.number ≡ o.number)
      × (meaning p.below ≡ meaning o.below) =
      λ e.
      let x = h.1 e in
      (ap (λ (q : Quota O). q.label) x.1, x.0, ap (λ (q : Quota O). q.number) x.1, ap (λ (q : Quota O). meaning q.below) x.1) in
      let label : p.label ≡ o.label =
      elim (cases_Bool (within (meaning o.below).width s)) [ inl near ↦ (asked_at o.number (h.0 near) refl).0 | inr e ↦ (far e).0 ] in
      (label, (λ near. (asked_at o.number (h.0 near) refl).1, λ e. ((far e).1, (far e).2, (far e).3)))

  pub quota_checks_mean : QuotaChecks meaning checks o s r p
      → Checked (quota_meaning meaning o) s r (quota_meaning meaning p)
  quota_checks_mean h =
      let x = quota_asks h in
      let P : ℕ → Type 0 = λ l. Checked (quota_meaning meaning o) s r (quota p.number l (meaning p.below)) in
      subst P (sym x.0) (quota_checked o.label (meaning o.below) (meaning p.below) s r o.number p.number x.1)

-- a grant: its number grows as what is below does
gave : GrantAnswer
gave = Ok tt

over : GrantAnswer
over = Err Over

module _ (k label : ℕ) (m m' : Meaning) where
  left_granted : (number : ℕ) (b : Bool) (r : GrantAnswer) (n' : ℕ) → r ≡ cond b (Ok tt) (Err Over)
      → Leaves (Grown k) r m m'
      → n' ≡ cond b (min (number + k) limit) number
      → Leaves (Grown k) r (quota number label m) (quota n' label m')
  unfolding gave over
  left_granted number true r n' told after same =
      let P : GrantAnswer
      → Type 0 = λ x. Leaves (Grown k) x (quota number label m) (quota n' label m') in
      let a : Leaves (Grown k) gave m m' = subst (λ (x : GrantAnswer). Leaves (Grown k) x m m') told after in
      let g : P gave = (
        record { width = a.0.width; fit = a.0.fit },
        ap (λ x. lesser (Some x) m'.allowance) same
            ∙ ap (lesser (Some (min (number + k) limit))) a.1
            ∙ grown_lesser k (Some number) m.allowance,
      ) in
      subst P (sym told) g
  left_granted number false r n' told after same =
      let P : GrantAnswer
      → Type 0 = λ x. Leaves (Grown k) x (quota number label m) (quota n' label m') in
      let a : Leaves (Grown k) over m m' = subst (λ (x : GrantAnswer). Leaves (Grown k) x m m') told after in
      let g : P over = subst (λ (x : ℕ). Unchanged (quota number label m) (quota x label m')) (sym same) (quota_unchanged label m m' number a) in
      subst P (sym told) g

-- its number, by what was answered and by what a grant of so many is to be answered
number_is : (k number : ℕ) (b : Bool)
    → number_after (cond b (Ok tt) (Err Over)) k number ≡ cond b (min (number + k) limit) number
number_is k number true = refl
number_is k number false = refl

module _ {O : Type 0} (meaning : O → Meaning) (grants : Grants O) (mean : GrantsMean meaning grants)
    (o p : Quota O) (k : ℕ) (r : GrantAnswer) where
  pub quota_given : QuotaGrants grants o k r p
      → Granted (meaning o.below) k r (meaning p.below)
      × (p.label ≡ o.label) × (p.number ≡ number_granted k o.number)
  quota_given h =
      let g = mean o.below k r p.below h.0 in
      let number : p.number ≡ number_granted k o.number =
      h.2 ∙ ap (λ (y : GrantAnswer). number_after y k o.number) (grant_is k r g.0)
      ∙ number_is k o.number (nat_le k limit) in
      (g, h.1, number)

  pub quota_grants_mean : QuotaGrants grants o k r p
      → Granted (quota_meaning meaning o) k r (quota_meaning meaning p)
  quota_grants_mean h =
      let given = quota_given h in
      let a =
      left_granted k o.label (meaning o.below) (meaning p.below) o.number (nat_le k limit) r
      p.number (grant_is k r given.0.0) given.0.1 given.2 in
      let P : ℕ → Type 0 =
      λ l. Leaves (Grown k) r (quota_meaning meaning o) (quota p.number l (meaning p.below)) in
      (given.0.0, subst P (sym h.1) a)

-- the label that is told
one_label : (l k : ℕ) → ◌≡◌ {A = Option Telling} (Some (13, l ∷ [])) (Some (13, k ∷ [])) → l ≡ k
one_label l k same = let e : ◌≡◌ {A = List ℕ} (l ∷ []) (k ∷ []) = ap values_in same in cc

-- over an oracle whose checks are endless
refused_not : (e : CheckRefusal) (v : Verdict) → ◌≡◌ {A = CheckAnswer} (Err e) (Ok v) → ⊥
refused_not e v h = cc

-- what was endless stays endless, whatever was answered
stays_endless : (r : CheckAnswer) (m n : Meaning) → m.allowance ≡ None → Leaves Taken r m n
    → n.allowance ≡ None
stays_endless (Ok v) m n endless left = none_after m.allowance n.allowance endless left.1
  where
    none_after : (a b : Option ℕ) → a ≡ None → Taken a b → b ≡ None
    none_after None None is taken = refl
    none_after None (Some b) is taken = absurd taken
    none_after (Some a) b is taken = absurd (cc)
stays_endless (Err e) m n endless left = left.allowance ∙ endless

module _ {O : Type 0} (meaning : O → Meaning) (checks : Checks O) (mean : ChecksMean meaning checks)
    (o p : Quota O) (s : ℕ) (endless : (meaning o.below).allowance ≡ None) where
  -- what is below answers every set within its width
  answers : (e : CheckRefusal) → within (meaning o.below).width s ≡ true
      → checks o.below s (Err e) p.below → ⊥
  answers e near h =
      refused_not e (verdict ((meaning o.below).fit s))
      (answer_is (meaning o.below) s (Err e) (mean o.below s (Err e) p.below h).0
      ∙ answer_fit (meaning o.below) s near (ap nought endless))

  same_below : p ≡ o → (meaning p.below).allowance ≡ None
  same_below same = ap (λ (q : Quota O). (meaning q.below).allowance) same ∙ endless

  takes_at : (number : ℕ) (r : CheckAnswer) → number ≡ o.number
      → within (meaning o.below).width s ≡ true → QuotaAsks checks number o s r p
      → Took r o p × ((meaning p.below).allowance ≡ None)
  takes_at zero (Ok v) is near h =
      absurd (refused_not (Spent o.label) v (sym (spent_is (Ok v) o.label h.0)))
  takes_at zero (Err e) is near h =
      ((h.1, λ l tells. (one_label l o.label (sym (ap Some tells) ∙ h.0), sym is)), same_below h.1)
  takes_at (suc n) (Ok v) is near h = (
    (omega (arith, h.2), h.1),
    stays_endless (Ok v) (meaning o.below) (meaning p.below) endless
        (mean o.below s (Ok v) p.below h.0).1,
  )
  takes_at (suc n) (Err e) is near h = absurd (answers e near h.0)

  takes : (r : CheckAnswer) → QuotaChecks meaning checks o s r p
      → Took r o p × ((meaning p.below).allowance ≡ None)
  takes r h =
      elim (cases_Bool (within (meaning o.below).width s)) [
        | inl near ↦ takes_at o.number r refl near (h.0 near)
        | inr far ↦
            let x = h.1 far in
            let none : (l : ℕ) → check_tells Outside ≡ (13, l ∷ []) → ⊥ = λ l tells.
            let e : ◌≡◌ {A = ℕ} 10 13 = ap (λ t. t.0) tells in absurd (omega arith) in (
              subst (λ (y : CheckAnswer). Took y o p) (sym (outside_is r x.0))
                  (x.1, λ l tells. absurd (none l tells)),
              same_below x.1,
            )
      ]

pub quota_takes : {O : Type 0} (meaning : O → Meaning) (checks : Checks O)
    → ChecksMean meaning checks → QuotaTakes meaning checks
quota_takes meaning checks mean o p s r endless h =
    takes meaning checks mean o p s endless r h
