-- Substitution decides whether the rules of faces in force can be met. Assumes nothing.
use Rattle.std.proofs.Common.{◌≡◌, ℕ, ◌+◌, ◌*◌, ◌%◌, ◌^◌, ◌<◌, ◌≤◌, Bool, true, false, eqb, ltb, List, [], ◌∷◌, map, Some, None, Option, sym, refl, ap, ◌∙◌, subst, lt_of_lt_of_le, arith, pow_mono}
use Rattle.std.proofs.lemmas.Bool.{false≢true, cond_both, eqb-true, eqb-false, eq-eqb, ne_eqb, ltb-true, ltb-false}
use Rattle.sets.specs.Masks.{number_of}
use Rattle.rules.specs.Choices.{Choice, choice_back, Every, MeetsKind, FitBy}
use Rattle.rules.specs.Force.{and_then, said}
use Rattle.rules.specs.Substitution.{bit_of, free, total, lowest, put_in, made_zero, entered, entered_all, constants, back_of, more_faces, width_of, solution}
use Rattle.rules.specs.declared.Body.{Body}
use Rattle.rules.specs.declared.Body.TheVariants as body
use Rattle.rules.specs.declared.FaceSet.{FaceSet}
use Rattle.rules.specs.declared.Kind.TheVariants.{Faces}
use Rattle.rules.specs.declared.Rule.{Rule}
use Rattle.rules.proofs.Parity.{parity, parity_none, parity_small, parity_within, one_parity}
use Rattle.rules.proofs.Substituting.{told, told_free, told_constants, told_total, told_put_in, turned, turned_nought, turned_odd, turned_none}
use Rattle.rules.proofs.Trailing.{below_power, lowest_there}

-- the faces of a rule are below n
abbrev Narrow : ℕ → Body → Type 0
Narrow n (body.Options head s) = Unit {0}
Narrow n (body.Gap a b w) = Unit {0}
Narrow n (body.Faces odd s) = number_of s.members < 2 ^ n

narrow_one : (b : Body) (n : ℕ) → more_faces b + 32 ≤ n → Narrow n b
narrow_one (body.Options head s) n wide = tt
narrow_one (body.Gap a b w) n wide = tt
narrow_one (body.Faces odd s) n wide =
    let m : ℕ = number_of s.members in
    cond_both (ltb m (2 ^ 32)) 0 m (λ k. k + 32 ≤ n → m < 2 ^ n)
    (λ few high. lt_of_lt_of_le (ltb-true m (2 ^ 32) few) (pow_mono high))
    (λ many high. lt_of_lt_of_le (below_power m) (pow_mono {i = m} {j = n} (omega arith)))
    wide

wide_enough : (bs : List Body) → 32 ≤ width_of bs
wide_enough [] = omega arith
wide_enough (b ∷ bs) = omega (arith, wide_enough bs)

narrow_all : (bs : List Body) (n : ℕ) → width_of bs ≤ n → Every (Narrow n) bs
narrow_all [] n wide = tt
narrow_all (b ∷ bs) n wide = (narrow_one b n (omega (arith, wide_enough bs)), narrow_all bs n (omega arith))

-- a choice of faces at the back that meets the rules of faces among these
abbrev Serves : ℕ → List Body → Type 0
Serves x bs = Every (MeetsKind Faces (choice_back x)) bs

-- no choice does
abbrev Never : List Body → Type 0
Never bs = ((c : Choice) × Every (MeetsKind Faces c) bs) → ⊥

-- what tells the faces of a choice at the back
abbrev tried : Choice → ℕ
tried c = c.back * 2 + 1

-- on the way: faces that the sums tell meet all if they meet the rest, and the sums tell the faces of whatever meets all
pub record Leaves (n : ℕ) (all rest : List Body) (sums : List ℕ) : Type 0 where
  pub back : (y : ℕ) → y % 2 ≡ 1 → Serves (told sums y) rest → Serves (told sums y) all
  pub on : (c : Choice) → Every (MeetsKind Faces c) all → (told sums (tried c) ≡ c.back % 2 ^ n) × Every (MeetsKind Faces c) rest

abbrev pub LeavesIf : (n : ℕ) (all rest : List Body) → Option (List ℕ) → Type 0
LeavesIf n all rest None = Never all
LeavesIf n all rest (Some sums) = Leaves n all rest sums

pub leaves_start : (n : ℕ) (all : List Body) → Leaves n all all (free n)
leaves_start n all = record {
  back = λ y odd meets. meets;
  on = λ c meets. (told_free n (tried c) ∙ ap (λ k. k % 2 ^ n) (omega arith), meets);
}

-- a rule's bit, as parity and as a test
bit_parity : (odd : Bool) (y : ℕ) → y % 2 ≡ 1 → parity (bit_of odd) y ≡ bit_of odd
bit_parity true y one = one_parity y ∙ one
bit_parity false y one = parity_none y

asked : (odd : Bool) (m x : ℕ) → parity m x ≡ bit_of odd → eqb (parity m x) 1 ≡ odd
asked true m x same = eq-eqb (parity m x) 1 same
asked false m x same = ne_eqb (parity m x) 1 (λ one. omega arith)

given : (odd : Bool) (m x : ℕ) → eqb (parity m x) 1 ≡ odd → parity m x ≡ bit_of odd
given true m x same = eqb-true (parity m x) 1 same
given false m x same = omega (arith, eqb-false (parity m x) 1 same, parity_small m x)

bit_small : (odd : Bool) → bit_of odd < 2
bit_small true = omega arith
bit_small false = omega arith

-- one more rule of faces, which adds up to e
module _ (n : ℕ) (all rest : List Body) (odd : Bool) (s : FaceSet) (narrow : number_of s.members < 2 ^ n) (sums : List ℕ) (leaves : Leaves n all (body.Faces odd s ∷ rest) sums) where
  abbrev m : ℕ
  m = number_of s.members

  abbrev e : ℕ
  e = total sums m (bit_of odd)

  comes : (y : ℕ) → y % 2 ≡ 1 → parity e y ≡ (bit_of odd + parity m (told sums y)) % 2
  comes y one = told_total sums m (bit_of odd) y ∙ ap (λ b. (b + parity m (told sums y)) % 2) (bit_parity odd y one)

  -- where it comes out as 0, the rule is met
  back_nought : (y : ℕ) → y % 2 ≡ 1 → parity e y ≡ 0 → Serves (told sums y) rest → Serves (told sums y) all
  back_nought y one nought meets =
      let same : parity m (told sums y) ≡ bit_of odd = omega (arith, comes y one, bit_small odd, parity_small m (told sums y)) in
      leaves.back y one (λ of. asked odd m (told sums y) same, meets)

  -- and for whatever meets all, it does
  on_nought : (c : Choice) → Every (MeetsKind Faces c) all → parity e (tried c) ≡ 0
  on_nought c meets =
      let old = leaves.on c meets in
      let same : parity m (told sums (tried c)) ≡ bit_of odd = ap (parity m) old.0 ∙ parity_within m c.back n narrow ∙ given odd m c.back (old.1.0 refl) in
      omega (arith, comes (tried c) (omega arith), same, bit_small odd)

  leaves_put : 2 ≤ e → Leaves n all rest (map (put_in (lowest e) e) sums)
  leaves_put some =
      let q : ℕ = lowest e in
      record {
        back = λ y one meets.
            let put = told_put_in q e sums y in
            let S : List Body → ℕ → Type 0 = λ bs x. Serves x bs in
            subst (S all) (sym put)
            (back_nought (turned q e y) (turned_odd _ e y one) (turned_nought q e y (lowest_there e some)) (subst (S rest) put meets));
        on = λ c meets.
            (told_put_in q e sums (tried c) ∙ ap (told sums) (turned_none q e (tried c) (on_nought c meets)) ∙ (leaves.on c meets).0, (leaves.on c meets).1.1);
      }

  leaves_faces : LeavesIf n all rest (made_zero sums e)
  leaves_faces =
      let L : Option (List ℕ) → Type 0 = LeavesIf n all rest in
      cond_both (ltb e 2) _ _ L
      (λ small.
      cond_both (eqb e 0) _ _ L
      (λ zero. record {
        back = λ y one meets. back_nought y one (ap (λ k. parity k y) (eqb-true e 0 zero) ∙ parity_none y) meets;
        on = λ c meets. ((leaves.on c meets).0, (leaves.on c meets).1.1);
      })
      (λ other fit.
      let one : e ≡ 1 = omega (arith, ltb-true e 2 small, eqb-false e 0 other) in
      omega (arith, on_nought fit.0 fit.1, ap (λ k. parity k (tried fit.0)) one, one_parity (tried fit.0))))
      (λ large. leaves_put (ltb-false e 2 large))

-- what is not about faces
leaves_other : (n : ℕ) (all rest : List Body) (b : Body) (sums : List ℕ) → ((c : Choice) → MeetsKind Faces c b) → Leaves n all (b ∷ rest) sums → Leaves n all rest sums
leaves_other n all rest b sums passed leaves = record {
  back = λ y one meets. leaves.back y one (passed (choice_back (told sums y)), meets);
  on = λ c meets. ((leaves.on c meets).0, (leaves.on c meets).1.1);
}

leaves_one : (n : ℕ) (all rest : List Body) (b : Body) (sums : Option (List ℕ)) → Narrow n b → LeavesIf n all (b ∷ rest) sums → LeavesIf n all rest (entered sums b)
leaves_one n all rest b None narrow never = never
leaves_one n all rest (body.Options head s) (Some sums) narrow leaves = leaves_other n all rest (body.Options head s) sums (λ c other. absurd (false≢true other)) leaves
leaves_one n all rest (body.Gap a b w) (Some sums) narrow leaves = leaves_other n all rest (body.Gap a b w) sums (λ c other. absurd (false≢true other)) leaves
leaves_one n all rest (body.Faces odd s) (Some sums) narrow leaves = leaves_faces n all rest odd s narrow sums leaves

leaves_end : (n : ℕ) (all rest : List Body) (sums : Option (List ℕ)) → Every (Narrow n) rest → LeavesIf n all rest sums → LeavesIf n all [] (entered_all sums rest)
leaves_end n all [] sums narrow leaves = leaves
leaves_end n all (b ∷ rest) sums narrow leaves = leaves_end n all rest (entered sums b) narrow.1 (leaves_one n all rest b sums narrow.0 leaves)

-- one rule of the list, which may say nothing
pub leaves_next : (n : ℕ) (all rest : List Body) (o : Option Body) (sums : Option (List ℕ)) → width_of (and_then o []) ≤ n
    → LeavesIf n all (and_then o rest) sums → LeavesIf n all rest (entered_all sums (and_then o []))
leaves_next n all rest None sums wide leaves = leaves
leaves_next n all rest (Some b) sums wide leaves = leaves_one n all rest b sums (narrow_one b n wide) leaves

-- at the end, what the sums tell where no free face is at the back serves for all
pub leaves_some : (n : ℕ) (all : List Body) (sums : List ℕ) → Leaves n all [] sums → Serves (constants sums) all
leaves_some n all sums leaves =
    let S : ℕ → Type 0 = λ x. Serves x all in
    subst S (told_constants sums) (leaves.back 1 refl tt)

-- faces that serve, or none where no choice does
abbrev pub Answers : List Body → Option ℕ → Type 0
Answers bs None = Never bs
Answers bs (Some x) = Serves x bs

leaves_nothing : (n : ℕ) (all : List Body) (sums : Option (List ℕ)) → LeavesIf n all [] sums → Answers all (back_of sums)
leaves_nothing n all None never = never
leaves_nothing n all (Some sums) leaves = leaves_some n all sums leaves

pub solution_answers : (bs : List Body) → Answers bs (solution bs)
solution_answers bs =
    let n : ℕ = width_of bs in
    leaves_nothing n bs _ (leaves_end n bs bs _ (narrow_all bs n (omega arith)) (leaves_start n bs))

-- the decision, by what the substitution gives
abbrev pub decided_by : (bs : List Body) (found : Option ℕ) → Answers bs found → Dec ((c : Choice) × Every (MeetsKind Faces c) bs)
decided_by bs None never = no never
decided_by bs (Some x) serves = yes (choice_back x, serves)

abbrev pub faces_decided : (rules : List Rule) (s : ℕ) → Dec (FitBy Faces rules s)
faces_decided rules s = decided_by (said s rules) (solution (said s rules)) (solution_answers (said s rules))
