-- Texts put together and cut again: at a byte, behind a key. Assumes nothing.
use Rattle.std.proofs.Common.{◌≡◌, ℕ, Bool, true, false, cond, eqb, List, [], ◌∷◌, ◌++◌, Some, None, Option, sym, refl, ap, ◌∙◌, subst, ap₂}
use Rattle.std.proofs.lemmas.Bool.{cond-true, cond-false, eqb-true, eq-eqb, ne_eqb}
use Rattle.std.specs.List.{AllByRecursion}
use Rattle.fields.specs.Cuts.{longer, cut, after}
use Rattle.fields.proofs.Outcomes.{none_no_some, same_some}

-- no byte of the text is the byte m
abbrev pub Free : (m : ℕ) → List ℕ → Type 0
Free m bs = AllByRecursion (λ b. b ≡ m → ⊥) bs

pub free_append : (m : ℕ) (xs bs : List ℕ) → Free m xs → Free m bs → Free m (xs ++ bs)
free_append m [] bs f g = g
free_append m (a ∷ xs) bs f g = (f.0, free_append m xs bs f.1 g)

pub cut_at : (m : ℕ) (xs rest : List ℕ) → Free m xs → cut m (xs ++ (m ∷ rest)) ≡ Some (xs, rest)
cut_at m [] rest f = cond-true (eqb m m) (Some ([], rest)) (longer m (cut m rest)) (eq-eqb m m refl)
cut_at m (a ∷ xs) rest f = cond-false (eqb a m) (Some ([], xs ++ (m ∷ rest))) (longer a (cut m (xs ++ (m ∷ rest)))) (ne_eqb a m f.0) ∙ ap (longer a) (cut_at m xs rest f.1)

pub cut_whole : (m : ℕ) (bs : List ℕ) (p : List ℕ × List ℕ) → cut m bs ≡ Some p → bs ≡ p.0 ++ (m ∷ p.1)
cut_whole m [] p e = absurd (none_no_some p e)
cut_whole m (b ∷ bs) p e = go (eqb b m) refl (cut m bs) (cut_whole m bs) e
  where
    go : (t : Bool) → eqb b m ≡ t → (o : Option (List ℕ × List ℕ)) → ((q : List ℕ × List ℕ) → o ≡ Some q → bs ≡ q.0 ++ (m ∷ q.1)) → cond t (Some ([], bs)) (longer b o) ≡ Some p → b ∷ bs ≡ p.0 ++ (m ∷ p.1)
    go true same o more f = subst (λ (q : List ℕ × List ℕ). b ∷ bs ≡ q.0 ++ (m ∷ q.1)) (same_some ([], bs) p f) (ap (λ x. x ∷ bs) (eqb-true b m same))
    go false other None more f = absurd (none_no_some p f)
    go false other (Some q) more f = subst (λ (q : List ℕ × List ℕ). b ∷ bs ≡ q.0 ++ (m ∷ q.1)) (same_some (b ∷ q.0, q.1) p f) (ap (λ ys. b ∷ ys) (more q refl))

pub after_key : (key v : List ℕ) → after key (key ++ v) ≡ Some v
after_key [] v = refl
after_key (k ∷ ks) v = cond-true (eqb k k) (after ks (ks ++ v)) None (eq-eqb k k refl) ∙ after_key ks v

pub after_whole : (key bs v : List ℕ) → after key bs ≡ Some v → bs ≡ key ++ v
after_whole [] bs v e = same_some bs v e
after_whole (k ∷ ks) [] v e = absurd (none_no_some v e)
after_whole (k ∷ ks) (b ∷ bs) v e = go (eqb k b) refl (after_whole ks bs v) e
  where
    go : (t : Bool) → eqb k b ≡ t → (after ks bs ≡ Some v → bs ≡ ks ++ v) → cond t (after ks bs) None ≡ Some v → b ∷ bs ≡ k ∷ (ks ++ v)
    go true same more f = ap₂ ◌∷◌ (sym (eqb-true k b same)) (more f)
    go false other more f = absurd (none_no_some v f)
