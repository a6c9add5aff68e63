-- What holds at each place of a list, and what follows from it. Assumes nothing.
use Rattle.std.proofs.Common.{List, [], ◌∷◌, ◌++◌, map, sym, subst, append_assoc, append-nil}
use Rattle.std.proofs.lemmas.List.{map-append}
use Rattle.explainer.specs.AtEach.{AtEach}

-- one element more: it holds of the list, and of the element after the list
pub each_push : {A : Type 0} (P : List A → A → Type 0) (past xs : List A) (x : A) → AtEach P past xs → P (past ++ xs) x → AtEach P past (xs ++ x ∷ [])
each_push P past [] x each here = (subst (λ p. P p x) (append-nil past) here, tt)
each_push P past (y ∷ xs) x each here =
    (each.0, each_push P (past ++ y ∷ []) xs x each.1 (subst (λ p. P p x) (sym (append_assoc past (y ∷ []) xs)) here))

-- what holds before some elements, and after each of them where it did before it, holds after them all
pub carried : {A : Type 0} (F : List A → Type 0) (P : List A → A → Type 0) → ((past : List A) (x : A) → F past → P past x → F (past ++ x ∷ []))
    → (past xs : List A) → F past → AtEach P past xs → F (past ++ xs)
carried F P step past [] f each = subst F (sym (append-nil past)) f
carried F P step past (x ∷ xs) f each = subst F (append_assoc past (x ∷ []) xs) (carried F P step (past ++ x ∷ []) xs (step past x f each.0) each.1)

-- and what follows from it at each element holds at each
pub each_with : {A : Type 0} (F : List A → Type 0) (P Q : List A → A → Type 0) → ((past : List A) (x : A) → F past → P past x → F (past ++ x ∷ []))
    → ((past : List A) (x : A) → F past → P past x → Q past x) → (past xs : List A) → F past → AtEach P past xs → AtEach Q past xs
each_with F P Q step gives past [] f each = tt
each_with F P Q step gives past (x ∷ xs) f each = (gives past x f each.0, each_with F P Q step gives (past ++ x ∷ []) xs (step past x f each.0) each.1)

-- where it follows by itself, too
pub each_weaker : {A : Type 0} (P Q : List A → A → Type 0) → ((past : List A) (x : A) → P past x → Q past x)
    → (past xs : List A) → AtEach P past xs → AtEach Q past xs
each_weaker P Q gives past xs each = each_with (λ p. Unit {0}) P Q (λ p x f here. tt) (λ p x f here. gives p x here) past xs tt each

-- what holds at each place both ways holds at each both ways at once
pub each_both : {A : Type 0} (P Q : List A → A → Type 0) (past xs : List A) → AtEach P past xs → AtEach Q past xs → AtEach (λ p x. P p x × Q p x) past xs
each_both P Q past [] first second = tt
each_both P Q past (x ∷ xs) first second = ((first.0, second.0), each_both P Q (past ++ x ∷ []) xs first.1 second.1)

-- what holds at each place of a list that is made of another holds at each place of the other
pub each_of_map : {A B : Type 0} (f : A → B) (P : List B → B → Type 0) (past xs : List A) → AtEach P (map f past) (map f xs)
    → AtEach (λ p x. P (map f p) (f x)) past xs
each_of_map f P past [] each = tt
each_of_map f P past (x ∷ xs) each =
    (each.0, each_of_map f P (past ++ x ∷ []) xs (subst (λ p. AtEach P p (map f xs)) (sym (map-append f past (x ∷ []))) each.1))
