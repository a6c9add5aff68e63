-- Where a text is cut. Assumes nothing.
use Rattle.std.proofs.Common.{◌≡◌, ℕ, zero, suc, ◌+◌, ◌<◌, true, false, eqb, List, [], ◌∷◌, ◌++◌, length, get_or, take, drop, Option, Some, None, sym, refl, ap, ◌∙◌, ⊎_elim, add-one, arith}
use Rattle.std.proofs.lemmas.Bool.{cond-true, cond-false, eqb-true, cases_Bool, false_from_ne_true}
use Rattle.std.specs.Option.{option_map}
use Rattle.memchr.specs.Find.{IsFirstByte, is_byte}
use Rattle.fields.specs.Cuts.{longer, cut, after}

-- the first byte `mark` stands at i
pub cut_at_place : (mark : ℕ) (bs : List ℕ) (i : ℕ) → i < length bs → eqb (get_or bs i 0) mark ≡ true → ((k : ℕ) → k < i → eqb (get_or bs k 0) mark ≡ false) → cut mark bs ≡ Some (take i bs, drop (suc i) bs)
cut_at_place mark [] i h e none = absurd (omega arith)
cut_at_place mark (b ∷ bs) zero h e none = cond-true (eqb b mark) _ _ e
cut_at_place mark (b ∷ bs) (suc i) h e none =
    cond-false (eqb b mark) _ _ (none 0 (omega arith))
    ∙ ap (longer b) (cut_at_place mark bs i (omega arith) e (λ k l. none (suc k) (omega arith)))

-- there is no byte `mark`
cut_nowhere : (mark : ℕ) (bs : List ℕ) → ((k : ℕ) → k < length bs → eqb (get_or bs k 0) mark ≡ false) → cut mark bs ≡ None
cut_nowhere mark [] none = refl
cut_nowhere mark (b ∷ bs) none =
    cond-false (eqb b mark) _ _ (none 0 (omega arith))
    ∙ ap (longer b) (cut_nowhere mark bs (λ k l. none (suc k) (omega arith)))

-- a cut is at the first byte `mark`
pub cut_at_first : (mark : ℕ) (bs : List ℕ) (r : Option ℕ) → IsFirstByte (is_byte mark) bs r → cut mark bs ≡ option_map (λ i. (take i bs, drop (i + 1) bs)) r
cut_at_first mark bs None nowhere = cut_nowhere mark bs (λ k l. false_from_ne_true _ (nowhere k (omega arith) l))
cut_at_first mark bs (Some i) first = rw add-one (cut_at_place mark bs i first.0.high first.1 (λ k l. false_from_ne_true _ (first.0.before k (omega arith) l)))

-- a text that does not begin with the key
pub after_none : (key text : List ℕ) → ((rest : List ℕ) → text ≡ key ++ rest → ⊥) → after key text ≡ None
after_none [] text other = absurd (other text refl)
after_none (k ∷ key) [] other = refl
after_none (k ∷ key) (b ∷ text) other =
    ⊎_elim
    (λ same. cond-true (eqb k b) _ _ same ∙ after_none key text (λ rest e. other rest (λ i. sym (eqb-true k b same) i ∷ e i)))
    (λ differ. cond-false (eqb k b) _ _ differ)
    (cases_Bool (eqb k b))
