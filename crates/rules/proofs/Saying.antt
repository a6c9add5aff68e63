-- What the rules in force say, some rule line can say. Assumes nothing.
use Rattle.std.proofs.Common.{◌≡◌, ℕ, true, ◌⊎◌, List, [], ◌∷◌, Some, None, Option, refl, inl, inr}
use Rattle.std.proofs.lemmas.Bool.{cond_both}
use Rattle.rules.specs.Choices.{Every}
use Rattle.rules.specs.Force.{body_valid, counts_for, if_valid, in_force, and_then, said}
use Rattle.rules.specs.declared.Body.{Body}
use Rattle.rules.specs.declared.Rule.{Rule}

-- some rule line can say it
abbrev pub Valid : Body → Type 0
Valid b = body_valid b ≡ true

-- so it is with a body, if there is one
abbrev IfValid : Option Body → Type 0
IfValid None = Unit {0}
IfValid (Some b) = Valid b

if_valid_is : (o : Option Body) → IfValid (if_valid o)
if_valid_is None = tt
if_valid_is (Some b) = cond_both (body_valid b) (Some b) None IfValid (λ v. v) (λ _. tt)

in_force_is : (s : ℕ) (r : Rule) → IfValid (in_force s r)
in_force_is s r = cond_both (counts_for s r.owner) (if_valid r.body) None IfValid (λ _. if_valid_is r.body) (λ _. tt)

and_then_valid : (o : Option Body) (bs : List Body) → IfValid o → Every Valid bs → Every Valid (and_then o bs)
and_then_valid None bs v vs = vs
and_then_valid (Some b) bs v vs = (v, vs)

pub said_valid : (s : ℕ) (rules : List Rule) → Every Valid (said s rules)
said_valid s [] = tt
said_valid s (r ∷ rs) = and_then_valid (in_force s r) (said s rs) (in_force_is s r) (said_valid s rs)

-- what a rule says in force is its body, if it says anything
if_valid_body : (o : Option Body) → (if_valid o ≡ None) ⊎ (if_valid o ≡ o)
if_valid_body None = inl refl
if_valid_body (Some b) = cond_both (body_valid b) (Some b) None (λ o. (o ≡ None) ⊎ (o ≡ Some b)) (λ _. inr refl) (λ _. inl refl)

pub in_force_body : (s : ℕ) (r : Rule) → (in_force s r ≡ None) ⊎ (in_force s r ≡ r.body)
in_force_body s r =
    cond_both (counts_for s r.owner) (if_valid r.body) None (λ o. (o ≡ None) ⊎ (o ≡ r.body)) (λ _. if_valid_body r.body) (λ _. inl refl)
