-- A letter, `=` and the rest, put together and taken apart again. Assumes nothing.
use Rattle.std.proofs.Common.{◌≡◌, ℕ, Bool, true, false, cond, eqb, List, [], ◌∷◌, Some, None, Option, refl, ap, ◌∙◌, subst, ap₂}
use Rattle.std.proofs.lemmas.Bool.{eqb-true}
use Rattle.rules.specs.declared.Kind.{Kind}
use Rattle.rules.specs.declared.Kind.TheVariants.{Options, Gaps, Faces}
use Rattle.fields.proofs.Outcomes.{none_no_some, same_some}
use Rattle.ticket.specs.Entries.{kind_of, if_equals, lettered}

-- the letter of a kind
abbrev pub letter : Kind → ℕ
letter Options = 104
letter Gaps = 103
letter Faces = 102

pub lettered_key : (k : Kind) (v : List ℕ) → lettered (letter k ∷ 61 ∷ v) ≡ Some (k, v)
lettered_key Options v = refl
lettered_key Gaps v = refl
lettered_key Faces v = refl

if_equals_whole : (a b : ℕ) (o : Option Kind) (rest : List ℕ) (q : Kind × List ℕ) → ((k : Kind) → o ≡ Some k → a ≡ letter k) → if_equals b o rest ≡ Some q → a ∷ b ∷ rest ≡ letter q.0 ∷ 61 ∷ q.1
if_equals_whole a b None rest q of e = absurd (none_no_some q e)
if_equals_whole a b (Some k) rest q of e = go (eqb b 61) refl e
  where
    go : (t : Bool) → eqb b 61 ≡ t → cond t (Some (k, rest)) None ≡ Some q → a ∷ b ∷ rest ≡ letter q.0 ∷ 61 ∷ q.1
    go true same f = subst (λ (p : Kind × List ℕ). a ∷ b ∷ rest ≡ letter p.0 ∷ 61 ∷ p.1) (same_some (k, rest) q f) (ap₂ (λ x y. x ∷ y ∷ rest) (of k refl) (eqb-true b 61 same))
    go false other f = absurd (none_no_some q f)

kind_letter : (a : ℕ) (k : Kind) → kind_of a ≡ Some k → a ≡ letter k
kind_letter a k e = go (eqb a 104) (eqb a 103) (eqb a 102) refl refl refl e
  where
    go : (x y z : Bool) → eqb a 104 ≡ x → eqb a 103 ≡ y → eqb a 102 ≡ z → cond x (Some Options) (cond y (Some Gaps) (cond z (Some Faces) None)) ≡ Some k → a ≡ letter k
    go true y z p q r f = eqb-true a 104 p ∙ ap letter (same_some Options k f)
    go false true z p q r f = eqb-true a 103 q ∙ ap letter (same_some Gaps k f)
    go false false true p q r f = eqb-true a 102 r ∙ ap letter (same_some Faces k f)
    go false false false p q r f = absurd (none_no_some k f)

pub lettered_whole : (bs : List ℕ) (q : Kind × List ℕ) → lettered bs ≡ Some q → bs ≡ letter q.0 ∷ 61 ∷ q.1
lettered_whole [] q e = absurd (none_no_some q e)
lettered_whole (a ∷ []) q e = absurd (none_no_some q e)
lettered_whole (a ∷ b ∷ rest) q e = if_equals_whole a b (kind_of a) rest q (kind_letter a) e
