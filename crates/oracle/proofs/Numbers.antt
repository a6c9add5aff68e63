-- The answers by their numbers are the answers as functions. Assumes nothing.
use Rattle.std.proofs.Common.{◌≡◌, ℕ, Bool, true, false, cond, List, [], ◌∷◌, Some, None, Ok, Err, Option, Result, inl, inr, sym, refl, ap, ◌∙◌, arith}
use Rattle.std.specs.Prelude.{nat_le}
use Rattle.std.proofs.lemmas.Bool.{cases_Bool, cond-true, cond-false}
use Rattle.sets.specs.Requests.{within}
use Rattle.oracle.specs.Asking.{nought, verdict, AnswersCheck, AnswersGrant}
use Rattle.oracle.specs.Branching.{If}
use Rattle.oracle.specs.Meaning.{Meaning, limit}
use Rattle.oracle.specs.Refused.{Telling, check_tells, grant_tells, told as told_of, IsRefusedWith}
use Rattle.oracle.specs.declared.CheckRefusal.{CheckRefusal}
use Rattle.oracle.specs.declared.CheckRefusal.TheVariants.{Outside, Spent}
use Rattle.oracle.specs.declared.GrantRefusal.{GrantRefusal}
use Rattle.oracle.specs.declared.GrantRefusal.TheVariants.{Over}
use Rattle.oracle.specs.declared.Verdict.{Verdict}

-- the parts of what is told
abbrev pub number_in : Option Telling → ℕ
number_in None = 0
number_in (Some t) = t.0

abbrev pub values_in : Option Telling → List ℕ
values_in None = []
values_in (Some t) = t.1

-- which refusal has a number
pub outside_is : {A : Type 0} (r : Result A CheckRefusal) → IsRefusedWith check_tells r 10 []
    → r ≡ Err Outside
outside_is (Ok a) told = absurd (cc)
outside_is (Err Outside) told = refl
outside_is (Err (Spent label)) told =
    let e : ◌≡◌ {A = ℕ} 13 10 = ap number_in told in absurd (omega arith)

pub spent_is : {A : Type 0} (r : Result A CheckRefusal) (label : ℕ)
    → IsRefusedWith check_tells r 13 (label ∷ []) → r ≡ Err (Spent label)
spent_is (Ok a) label told = absurd (cc)
spent_is (Err Outside) label told =
    let e : ◌≡◌ {A = ℕ} 10 13 = ap number_in told in absurd (omega arith)
spent_is (Err (Spent other)) label told =
    let e : ◌≡◌ {A = List ℕ} (other ∷ []) (label ∷ []) = ap values_in told in
    let same : other ≡ label = cc in ap (λ l. Err (Spent l)) same

pub over_is : {A : Type 0} (r : Result A GrantRefusal) → IsRefusedWith grant_tells r 11 []
    → r ≡ Err Over
over_is (Ok a) told = absurd (cc)
over_is (Err Over) told = refl

-- what CHECK of a set answers, as a function
abbrev pub if_left : Meaning → ℕ → Result Verdict CheckRefusal
if_left m s = cond (nought m.allowance) (Err (Spent m.label)) (Ok (verdict (m.fit s)))

abbrev pub check_answer : Meaning → ℕ → Result Verdict CheckRefusal
check_answer m s = cond (within m.width s) (if_left m s) (Err Outside)

-- it is the answer by its number, both ways
module _ (m : Meaning) (s : ℕ) (r : Result Verdict CheckRefusal) where
  abbrev near : Bool
  near = within m.width s

  abbrev none : Bool
  none = nought m.allowance

  abbrev fit : Result Verdict CheckRefusal
  fit = Ok (verdict (m.fit s))

  pub answer_is : AnswersCheck m s r → r ≡ check_answer m s
  answer_is h =
      elim (cases_Bool near) [
        | inr far ↦ outside_is r (h.1 far) ∙ sym (cond-false near (if_left m s) (Err Outside) far)
        | inl close ↦
            let left : check_answer m s ≡ if_left m s =
            cond-true near (if_left m s) (Err Outside) close in
            elim (cases_Bool none) [
              | inl nil ↦ spent_is r m.label ((h.0 close).0 nil)
                  ∙ sym (left ∙ cond-true none (Err (Spent m.label)) fit nil)
              | inr some ↦ (h.0 close).1 some
                  ∙ sym (left ∙ cond-false none (Err (Spent m.label)) fit some)
            ]
      ]

told : {A : Type 0} (r : Result A CheckRefusal) (e : CheckRefusal) → r ≡ Err e
    → IsRefusedWith check_tells r (check_tells e).0 (check_tells e).1
told r e is = ap (λ x. told_of check_tells x) is

due : (near none : Bool) (label : ℕ) (v : Verdict) (r : Result Verdict CheckRefusal)
    → r ≡ cond near (cond none (Err (Spent label)) (Ok v)) (Err Outside)
    → If near (If none (IsRefusedWith check_tells r 13 (label ∷ [])) (r ≡ Ok v))
    (IsRefusedWith check_tells r 10 [])
due true true label v r is =
    (λ n. (λ o. told r (Spent label) is, λ o. absurd (cc)), λ n. absurd (cc))
due true false label v r is = (λ n. (λ o. absurd (cc), λ o. is), λ n. absurd (cc))
due false none label v r is = (λ n. absurd (cc), λ n. told r Outside is)

pub is_answer : (m : Meaning) (s : ℕ) (r : Result Verdict CheckRefusal) → r ≡ check_answer m s
    → AnswersCheck m s r
is_answer m s r is =
    due (within m.width s) (nought m.allowance) m.label (verdict (m.fit s)) r is

-- GRANT as a function
pub grant_is : (k : ℕ) (r : Result (Unit {0}) GrantRefusal) → AnswersGrant k r
    → r ≡ cond (nat_le k limit) (Ok tt) (Err Over)
grant_is k r h =
    elim (cases_Bool (nat_le k limit)) [
      | inl few ↦ h.0 few ∙ sym (cond-true (nat_le k limit) (Ok tt) (Err Over) few)
      | inr many ↦ over_is r (h.1 many) ∙ sym (cond-false (nat_le k limit) (Ok tt) (Err Over) many)
    ]

-- two answers to one GRANT are one answer
pub one_grant : (k : ℕ) (r x : Result (Unit {0}) GrantRefusal) → AnswersGrant k r
    → AnswersGrant k x → r ≡ x
one_grant k r x one other = grant_is k r one ∙ sym (grant_is k x other)
