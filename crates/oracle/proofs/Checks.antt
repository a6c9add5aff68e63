-- The cases of a check, both ways: when each occurs, and what it then says. Assumes nothing.
use Rattle.std.proofs.Common.{◌≡◌, ℕ, zero, suc, ◌^◌, Bool, true, false, cond, Some, None, Ok, Err, Option, Result, sym, refl, ◌∙◌, subst}
use Rattle.std.proofs.lemmas.Bool.{cond-true, cond-false, lt-ltb, ltb-true}
use Rattle.sets.specs.Requests.{Within, within}
use Rattle.oracle.specs.Asking.{nought, verdict, Leaves, Taken, Checked}
use Rattle.oracle.specs.Meaning.{Meaning, Kept, Unchanged}
use Rattle.oracle.specs.declared.CheckRefusal.{CheckRefusal}
use Rattle.oracle.specs.declared.CheckRefusal.TheVariants.{Outside, Spent}
use Rattle.oracle.specs.declared.Verdict.{Verdict}
use Rattle.oracle.proofs.Numbers.{if_left, check_answer, answer_is, is_answer}

abbrev pub spent : Meaning → Result Verdict CheckRefusal
spent m = Err (Spent m.label)

abbrev pub answered : Meaning → ℕ → Result Verdict CheckRefusal
answered m s = Ok (verdict (m.fit s))

-- what is answered in each case
pub answer_outside : (m : Meaning) (s : ℕ) → within m.width s ≡ false → check_answer m s ≡ Err Outside
answer_outside m s far = cond-false (within m.width s) (if_left m s) (Err Outside) far

pub answer_spent : (m : Meaning) (s : ℕ) → within m.width s ≡ true → nought m.allowance ≡ true → check_answer m s ≡ spent m
answer_spent m s near none = cond-true (within m.width s) (if_left m s) (Err Outside) near ∙ cond-true (nought m.allowance) (spent m) (answered m s) none

pub answer_fit : (m : Meaning) (s : ℕ) → within m.width s ≡ true → nought m.allowance ≡ false → check_answer m s ≡ answered m s
answer_fit m s near some = cond-true (within m.width s) (if_left m s) (Err Outside) near ∙ cond-false (nought m.allowance) (spent m) (answered m s) some

-- a check from its answer, and from what it leaves at that answer
pub checked_as : (m n : Meaning) (s : ℕ) (r x : Result Verdict CheckRefusal) → r ≡ x → x ≡ check_answer m s → Leaves Taken x m n → Checked m s r n
checked_as m n s r x same due after =
    let P : Result Verdict CheckRefusal → Type 0 = λ y. Leaves Taken y m n in
    (is_answer m s r (same ∙ due), subst P (sym same) after)

-- what a check leaves at the answer that is due
pub left_as : (m n : Meaning) (s : ℕ) (r x : Result Verdict CheckRefusal) → Checked m s r n → check_answer m s ≡ x → (r ≡ x) × Leaves Taken x m n
left_as m n s r x checked due =
    let P : Result Verdict CheckRefusal → Type 0 = λ y. Leaves Taken y m n in
    let same : r ≡ x = answer_is m s r checked.0 ∙ due in
    (same, subst P same checked.1)

-- nothing changed
pub kept : (m : Meaning) → Kept m m
kept m = record { width = refl; fit = λ s near. refl }

pub unchanged : (m : Meaning) → Unchanged m m
unchanged m = record { kept = kept m; allowance = refl; label = refl }

-- what any call leaves keeps width and verdict
pub leaves_kept : {A E : Type 0} (change : Option ℕ → Option ℕ → Type 0) (r : Result A E) (m n : Meaning) → Leaves change r m n → Kept m n
leaves_kept change (Ok a) m n left = left.0
leaves_kept change (Err e) m n left = left.kept

-- what is kept twice is kept
pub kept_on : (m n k : Meaning) → Kept m n → Kept n k → Kept m k
kept_on m n k first second = record {
  width = second.width ∙ first.width;
  fit = λ s near. second.fit s (subst (λ w. Within w s) (sym first.width) near) ∙ first.fit s near;
}

-- a check that is answered is of a set within the width, and tells the verdict that is meant
told : (near spent : Bool) (label : ℕ) (x v : Verdict) → Ok v ≡ cond near (cond spent (Err (Spent label)) (Ok x)) (Err Outside) → (near ≡ true) × (v ≡ x)
told true true label x v e = absurd (cc)
told true false label x v e = (refl, cc)
told false spent label x v e = absurd (cc)

pub answered_as : (m : Meaning) (s : ℕ) (v : Verdict) → Ok v ≡ check_answer m s → Within m.width s × (v ≡ verdict (m.fit s))
answered_as m s v e =
    let both = told (within m.width s) (nought m.allowance) m.label (verdict (m.fit s)) v e in
    (ltb-true s (2 ^ m.width) both.0, both.1)

-- a check within the width is refused only where nothing is left, with the label
left_cases : (left : Option ℕ) (label : ℕ) (v : Verdict) (e : CheckRefusal)
    → Err e ≡ cond (nought left) (Err (Spent label)) (Ok v) → (e ≡ Spent label) × (left ≡ Some 0)
left_cases None label v e same = absurd (cc)
left_cases (Some zero) label v e same = (cc, refl)
left_cases (Some (suc n)) label v e same = absurd (cc)

pub refused_as : (m : Meaning) (s : ℕ) (e : CheckRefusal) → Within m.width s → Err e ≡ check_answer m s → (e ≡ Spent m.label) × (m.allowance ≡ Some 0)
refused_as m s e near is =
    left_cases m.allowance m.label (verdict (m.fit s)) e
    (is ∙ cond-true (within m.width s) (if_left m s) (Err Outside) (lt-ltb s (2 ^ m.width) near))
