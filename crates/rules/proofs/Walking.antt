-- Rounds that do not come to rest leave no places that serve. Assumes nothing.
use Rattle.std.proofs.Common.{◌≡◌, ℕ, zero, suc, ◌+◌, ◌<◌, ◌≤◌, Bool, true, false, ◌⊎◌, List, [], ◌∷◌, ℤ, pos, ◌≤ℤ◌, Some, None, sym, refl, ◌∙◌, inl, inr, arith}
use lib.ListN.{length-replicate}
use lib.Signed.{le_z}
use Rattle.std.proofs.lemmas.Int.{ints}
use Rattle.std.proofs.lemmas.Bool.{both_ways, false≢true, cases_Bool, cases_lt, cond-true, cond-false, or_from}
use Rattle.rules.specs.Choices.{place, Every}
use Rattle.rules.specs.Rounds.{marks, moves, raised_all, rounds, all_nought, lowest}
use Rattle.rules.specs.declared.Body.{Body}
use Rattle.rules.specs.declared.Body.TheVariants.{Options, Gap, Faces}
use Rattle.rules.proofs.Bodies.{Fair, fair, OfGap, gaps_give}
use Rattle.rules.proofs.Raising.{Full, Under, Serves, Reached, nought, round_full, round_up, round_reached, round_under}
use Rattle.rules.proofs.Saying.{Valid}
use Rattle.rules.proofs.Settled.{tally, total, tally_most, tally_all, tally_more, Lowers, Spare, Less, less_from}

-- a mark is settled where it has come up to z
abbrev settled : (ℕ → ℕ) → List ℤ → ℕ → Bool
settled z ps i = le_z (pos (z i)) (place ps i)

-- no mark lies below nought
abbrev AboveNought : List ℤ → Type 0
AboveNought ps = (i : ℕ) → pos 0 ≤ℤ place ps i

-- places that have all come up to what serves are at rest
all_settled :
    (bs : List Body) (z : ℕ → ℕ) (ps : List ℤ) → Every Valid bs → Every (OfGap (Serves z)) bs → Under ps z
    → ((i : ℕ) → i < marks → settled z ps i ≡ true) → moves bs ps ≡ false
all_settled [] z ps v s u t = refl
all_settled (Options head o ∷ bs) z ps v s u t = all_settled bs z ps v.1 s.1 u t
all_settled (Gap a b w ∷ bs) z ps v s u t =
    let p = fair a b w v.0 in
    or_from _ _ (sym (omega (arith, ints, s.0, u a, t b p.1))) (all_settled bs z ps v.1 s.1 u t)
all_settled (Faces odd o ∷ bs) z ps v s u t = all_settled bs z ps v.1 s.1 u t

some_none : (ps : List ℤ) → Some ps ≡ None → ⊥
some_none ps e = let z : ◌≡◌ {A = ℕ} 0 1 = cc in omega arith

-- what a round needs of the places that it begins from
record Ready (z : ℕ → ℕ) (ps : List ℤ) : Type 0 where
  full : Full ps
  under : Under ps z
  above : AboveNought ps

module _ (bs : List Body) (valid : Every Valid bs) (z : ℕ → ℕ) (serves : Every (OfGap (Serves z)) bs) where
  ready_next : (ps : List ℤ) → Ready z ps → Ready z (raised_all bs ps ps)
  ready_next ps r =
      record {
        full = round_full bs ps ps r.full;
        under = round_under bs ps ps z valid r.full (gaps_give (λ a b w p s _. omega (arith, ints, s, r.under a)) bs valid serves serves) r.under;
        above = λ i. omega (arith, ints, r.above i, round_up bs ps ps valid r.full i);
      }

  -- a settled mark stays so
  stays : (ps : List ℤ) → Ready z ps → (i : ℕ) → settled z ps i ≡ true → settled z (raised_all bs ps ps) i ≡ true
  stays ps r i t = sym (omega (arith, ints, t, round_up bs ps ps valid r.full i))

  -- a mark that is not settled lies above nought
  unsettled : (ps : List ℤ) → Ready z ps → Lowers z (settled z ps) marks
  unsettled ps r i k t = omega (arith, ints, t, r.above i)

  -- if a round settles no mark, a gap from a settled mark to one that is not has room to spare
  spare :
      (ps : List ℤ) → ((i : ℕ) → i < marks → settled z (raised_all bs ps ps) i ≡ true → settled z ps i ≡ true)
      → (a b : ℕ) (w : ℤ) → Fair a b w → Serves z a b w → Reached ps (raised_all bs ps ps) a b w → Spare z (settled z ps) a b w
  spare ps same a b w p s r t u =
      elim (cases_Bool (settled z (raised_all bs ps ps) b)) [
        | inl m ↦ absurd (both_ways _ u (same b p.1 m))
        | inr m ↦ omega (arith, ints, r, t, m)
      ]

  -- marks that are not at rest: the next round settles one more, or less serves
  step :
      (ps : List ℤ) → Ready z ps → moves bs ps ≡ true
      → (tally (settled z ps) marks < tally (settled z (raised_all bs ps ps)) marks) ⊎ Less bs z
  step ps r moved =
      elim (tally_more (settled z ps) (settled z (raised_all bs ps ps)) marks (λ i k. stays ps r i)) [
        | inl m ↦ inl m
        | inr m ↦ elim (cases_lt (tally (settled z ps) marks) marks) [
          | inl k ↦ inr (less_from bs z (settled z ps) valid serves (unsettled ps r)
              (gaps_give (spare ps m.1) bs valid serves (round_reached bs ps ps valid r.full)) k)
          | inr k ↦ absurd (both_ways _ (all_settled bs z ps valid serves r.under (tally_all (settled z ps) marks k)) moved)
        ]
      ]

  -- each round settles one more mark, so that a walk without rest would settle more marks than there are
  walk : (turns : ℕ) (ps : List ℤ) → Ready z ps → marks < tally (settled z ps) marks + turns → rounds turns bs ps ≡ None → Less bs z
  walk zero ps r k e = absurd (omega (arith, tally_most (settled z ps) marks))
  walk (suc turns) ps r k e =
      elim (cases_Bool (moves bs ps)) [
        | inl t ↦ elim (step ps r t) [
          | inl m ↦ walk turns (raised_all bs ps ps) (ready_next ps r) (omega arith) (sym (cond-true _ _ _ t) ∙ e)
          | inr l ↦ l
        ]
        | inr t ↦ absurd (some_none ps (sym (cond-false _ _ _ t) ∙ e))
      ]

  ready_start : Ready z all_nought
  ready_start =
      record {
        full = length-replicate marks (pos 0);
        under = λ i. rw (nought marks i) (omega (arith, ints));
        above = λ i. rw (nought marks i) (omega (arith, ints));
      }

  -- where the marks start, one is settled, or less serves
  first : (0 < tally (settled z all_nought) marks) ⊎ Less bs z
  first =
      let f = settled z all_nought in
      elim (tally_more (λ i. false) f marks (λ i k t. absurd (false≢true t))) [
        | inl m ↦ inl m
        | inr m ↦ elim (cases_lt (tally f marks) marks) [
          | inl k ↦ inr (less_from bs z f valid serves (unsettled all_nought ready_start)
              (gaps_give (λ a b w p s r t. absurd (false≢true (m.1 a p.0 t))) bs valid serves serves) k)
          | inr k ↦ inl (omega arith)
        ]
      ]

  less_serves : lowest bs ≡ None → Less bs z
  unfolding lowest
  less_serves e = elim first [ inl m ↦ walk marks all_nought ready_start (omega arith) e | inr l ↦ l ]

-- without rest, less and less would serve, without end
pub none_serves :
    (bs : List Body) → Every Valid bs → lowest bs ≡ None → (n : ℕ) (z : ℕ → ℕ) → total z marks ≤ n → Every (OfGap (Serves z)) bs → ⊥
none_serves bs v e zero z k s = let l = less_serves bs v z s e in omega (arith, l.2)
none_serves bs v e (suc n) z k s =
    let l = less_serves bs v z s e in
    none_serves bs v e n l.0 (omega (arith, l.2)) l.1
