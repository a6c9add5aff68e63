-- The refusals of NEXT by their numbers. Assumes nothing.
use Rattle.std.proofs.Common.{◌≡◌, ℕ, List, [], ◌∷◌, Some, None, Ok, Err, Option, sym, refl, ap, ◌∙◌, arith}
use Rattle.std.specs.Result.{IsErrAnd}
use Rattle.oracle.specs.Refused.{Telling, check_tells, told, IsRefusedWith}
use Rattle.oracle.specs.declared.CheckRefusal.{CheckRefusal}
use Rattle.oracle.specs.declared.CheckRefusal.TheVariants as check
use Rattle.oracle.proofs.Numbers.{number_in, values_in}
use Rattle.explainer.specs.Moments.{Answer}
use Rattle.explainer.specs.Refused.{next_tells, TellsTheSame}
use Rattle.explainer.specs.declared.moments.NextAnswer.{NextAnswer}
use Rattle.explainer.specs.declared.moments.NextRefusal.{NextRefusal}
use Rattle.explainer.specs.declared.moments.NextRefusal.TheVariants.{Outside, Full, Spent}

-- what is refused with a number has no other number, and was not answered
pub one_number : (r : Answer) (n k : ℕ) (vs ws : List ℕ) → IsRefusedWith next_tells r n vs
    → IsRefusedWith next_tells r k ws → n ≡ k
one_number r n k vs ws one other = ap number_in (sym one ∙ other)

pub not_answered : (r : Answer) (a : NextAnswer) (n : ℕ) (vs : List ℕ) → r ≡ Ok a
    → IsRefusedWith next_tells r n vs → ⊥
not_answered r a n vs is refused =
    let two : ◌≡◌ {A = Option Telling} None (Some (n, vs)) =
    sym (ap (λ (x : Answer). told next_tells x) is) ∙ refused in
    absurd (cc)

-- which refusal has a number
pub full_is : (r : Answer) → IsRefusedWith next_tells r 12 [] → r ≡ Err Full
full_is (Ok a) is = absurd (cc)
full_is (Err Outside) is = let e : ◌≡◌ {A = ℕ} 10 12 = ap number_in is in absurd (omega arith)
full_is (Err Full) is = refl
full_is (Err (Spent l)) is = let e : ◌≡◌ {A = ℕ} 13 12 = ap number_in is in absurd (omega arith)

-- a refused check ends NEXT with the same refusal, and its label
abbrev pub passed_on : CheckRefusal → NextRefusal
passed_on check.Outside = Outside
passed_on (check.Spent label) = Spent label

pub passed_is : (r : Answer) (e : CheckRefusal) → TellsTheSame e r → r ≡ Err (passed_on e)
passed_is (Ok a) e same = absurd (cc)
passed_is (Err Outside) check.Outside same = refl
passed_is (Err Outside) (check.Spent k) same =
    let e : ◌≡◌ {A = ℕ} 10 13 = ap number_in same in absurd (omega arith)
passed_is (Err Full) check.Outside same =
    let e : ◌≡◌ {A = ℕ} 12 10 = ap number_in same in absurd (omega arith)
passed_is (Err Full) (check.Spent k) same =
    let e : ◌≡◌ {A = ℕ} 12 13 = ap number_in same in absurd (omega arith)
passed_is (Err (Spent l)) check.Outside same =
    let e : ◌≡◌ {A = ℕ} 13 10 = ap number_in same in absurd (omega arith)
passed_is (Err (Spent l)) (check.Spent k) same =
    let e : ◌≡◌ {A = List ℕ} (l ∷ []) (k ∷ []) = ap values_in same in
    let is : l ≡ k = cc in ap (λ x. Err (Spent x)) is

-- what is passed on is not FULL
pub not_full : (r : Answer) (e : CheckRefusal) → TellsTheSame e r → IsRefusedWith next_tells r 12 []
    → ⊥
not_full r check.Outside same full =
    let e : ◌≡◌ {A = ℕ} 10 12 = ap number_in (sym same ∙ full) in absurd (omega arith)
not_full r (check.Spent l) same full =
    let e : ◌≡◌ {A = ℕ} 13 12 = ap number_in (sym same ∙ full) in absurd (omega arith)

-- a result that is refused with this and nothing else
pub err_tells : (r : Answer) (e : CheckRefusal) → IsErrAnd r (λ y. next_tells y ≡ check_tells e)
    → TellsTheSame e r
err_tells (Ok a) e h = absurd h
err_tells (Err y) e h = ap (λ t. Some t) h
