-- Cover is an oracle: from what it keeps and what it asks below, what it answers and leaves. Proofs
-- only. Assumes nothing.
use Rattle.std.specs.Prelude.{◌≡◌, ℕ, ◌^◌, Bool, true, false, cond, not, ◌&&◌, ◌||◌, List, [], ◌∷◌, ◌++◌, length, Some, None, Ok, Err, Option, nat_lt, refl}
use Rattle.std.specs.List.{list_any}
use Rattle.std.proofs.Common.{inl, inr, sym, ap, subst, ◌∙◌, arith}
use Rattle.std.proofs.lemmas.Bool.{cases_Bool, cond_both, and_from, not_from_false, ltb-true, both_ways}
use Rattle.std.proofs.lemmas.List.Folds.{list_any-append}
use Rattle.sets.specs.Requests.{Within, within, part}
use Rattle.sets.proofs.Parts.{part_true}
use Rattle.oracle.specs.Asking.{nought, verdict, Leaves, Taken, Checked, Grown, Granted}
use Rattle.oracle.specs.Calls.{CheckAnswer, GrantAnswer, Checks, Grants, ChecksMean, GrantsMean}
use Rattle.oracle.specs.Meaning.{Meaning, Lawful, Kept}
use Rattle.oracle.specs.declared.CheckRefusal.TheVariants.{Outside}
use Rattle.oracle.proofs.Checks.{spent, answered, answer_outside, answer_spent, answer_fit, checked_as, left_as, unchanged, kept}
use Rattle.oracle.proofs.Numbers.{check_answer, outside_is}
use Rattle.layers.specs.Asked.{most_kept, fits_after, unfits_after, CoverAsked, deciding, CoverChecked}
use Rattle.layers.specs.Calls.{CoverAsks, CoverChecks, CoverGrants}
use Rattle.layers.specs.Layered.{under_one, over_one, known, or_below, cover}
use Rattle.layers.specs.Listed.{kept_list}
use Rattle.layers.specs.Meant.{cover_meaning}
use Rattle.layers.specs.declared.cover.Cover.{Cover}
use Rattle.layers.specs.declared.kept_sets.KeptSets.{KeptSets}
use Rattle.layers.specs.Allowances.{taken_none}
use Rattle.layers.specs.Laws.{over_none, cover_said}

module _ (fits unfits : List ℕ) (m : Meaning) where
  -- the oracle below may change, and what is kept may grow, if the verdicts stay
  cover_kept : (fits' unfits' : List ℕ) (m' : Meaning) → Kept m m'
      → ((x : ℕ) → Within m.width x → (cover fits' unfits' m).fit x ≡ (cover fits unfits m).fit x)
      → Kept (cover fits unfits m) (cover fits' unfits' m')
  cover_kept fits' unfits' m' k same =
      record { width = k.width; fit = λ x close. ap (or_below (known fits' unfits' x)) (k.fit x close) ∙ same x close }

-- a test of one more
pub any_end : (test : ℕ → Bool) (ks : List ℕ) (s : ℕ)
    → list_any test (ks ++ (s ∷ [])) ≡ (list_any test ks || test s)
any_end test ks s =
    list_any-append test ks (s ∷ [])
    ∙ ap (λ b. list_any test ks || b) (elim (test s) as (λ b. (b || false) ≡ b) [ true ↦ refl | false ↦ refl ])

-- one more fit set changes no verdict if its parts are fit already, and one more unfit set none if
-- what contains it is unfit below
fit_known : (under new rest : Bool) → (new ≡ true → rest ≡ true)
    → ((under || new) || rest) ≡ (under || rest)
fit_known true new rest told = refl
fit_known false true rest told = sym (told refl)
fit_known false false rest told = refl

unfit_known : (under over new below : Bool) → (new ≡ true → below ≡ false)
    → (under || (not (over || new) && below)) ≡ (under || (not over && below))
unfit_known true over new below told = refl
unfit_known false true new below told = refl
unfit_known false false true below told = sym (told refl)
unfit_known false false false below told = refl

-- a set that is kept with its verdict leaves all verdicts
module _ (fits unfits : List ℕ) (m : Meaning) (law : Lawful m) (s : ℕ) (near : Within m.width s)
  where
    one_fit : over_one s unfits ≡ false → m.fit s ≡ true → (x : ℕ)
        → (cover (fits ++ (s ∷ [])) unfits m).fit x ≡ (cover fits unfits m).fit x
    one_fit none fit x =
        let rest = not (over_one x unfits) && m.fit x in
        cover_said (fits ++ (s ∷ [])) unfits m x
        ∙ ap (λ b. b || rest) (any_end (λ k. part x k) fits s)
        ∙ fit_known (under_one x fits) (part x s) rest (λ p.
        and_from (not (over_one x unfits)) (m.fit x)
        (not_from_false (over_one x unfits) (over_none x s unfits (part_true x s p) none))
        (law.downward x s near (part_true x s p) fit))
        ∙ sym (cover_said fits unfits m x)

    one_unfit : m.fit s ≡ false → (x : ℕ) → Within m.width x
        → (cover fits (unfits ++ (s ∷ [])) m).fit x ≡ (cover fits unfits m).fit x
    one_unfit unfit x close =
        cover_said fits (unfits ++ (s ∷ [])) m x
        ∙ ap (λ b. under_one x fits || (not b && m.fit x)) (any_end (λ k. part k x) unfits s)
        ∙ unfit_known (under_one x fits) (over_one x unfits) (part s x) (m.fit x) (λ p.
        elim (cases_Bool (m.fit x)) [ inl fit ↦ absurd (both_ways (m.fit s) unfit (law.downward s x close (part_true s x p) fit)) | inr e ↦ e ])
        ∙ sym (cover_said fits unfits m x)

    -- the kept sets after an answer
    learned : (b : Bool) → m.fit s ≡ b → over_one s unfits ≡ false → (x : ℕ) → Within m.width x
        → (cover (fits_after (Ok (verdict b)) s fits) (unfits_after (Ok (verdict b)) s unfits) m).fit x ≡ (cover fits unfits m).fit x
    learned true fit none x close =
        cond_both (nat_lt (length fits) most_kept) (fits ++ (s ∷ [])) fits (λ ks. (cover ks unfits m).fit x ≡ (cover fits unfits m).fit x) (λ e. one_fit none fit x) (λ e. refl)
    learned false unfit none x close =
        cond_both (nat_lt (length unfits) most_kept) (unfits ++ (s ∷ [])) unfits (λ ks. (cover fits ks m).fit x ≡ (cover fits unfits m).fit x) (λ e. one_unfit unfit x close) (λ e. refl)

-- where the kept sets decide something is left, and where they do not they say nothing of the set
decided : (none : Bool) (k : Option Bool) (v : Bool) → cond none None k ≡ Some v → (none ≡ false)
    × (k ≡ Some v)
decided true k v e = let z : ◌≡◌ {A = ℕ} 0 1 = cc in absurd (omega arith)
decided false k v e = (refl, e)

undecided : (none under over : Bool) → none ≡ false
    → cond none None (cond under (Some true) (cond over (Some false) None)) ≡ None → (under ≡ false)
    × (over ≡ false)
undecided true under over some e = let z : ◌≡◌ {A = ℕ} 0 1 = cc in absurd (omega arith)
undecided false true over some e = let z : ◌≡◌ {A = ℕ} 0 1 = cc in absurd (omega arith)
undecided false false true some e = let z : ◌≡◌ {A = ℕ} 0 1 = cc in absurd (omega arith)
undecided false false false some e = (refl, refl)

module _ (fits unfits : List ℕ) (m : Meaning) (s : ℕ) (answer : CheckAnswer) (fits' unfits' : List ℕ)
    (m' : Meaning) where
  -- from what is kept afterwards
  cover_told : (due : CheckAnswer) (f u : List ℕ) → answer ≡ due
      → due ≡ check_answer (cover fits unfits m) s
      → Leaves Taken due (cover fits unfits m) (cover f u m')
      → fits' ≡ f → unfits' ≡ u → Checked (cover fits unfits m) s answer (cover fits' unfits' m')
  cover_told due f u told right after same-f same-u =
      let P : Meaning → Type 0 = λ n. Leaves Taken due (cover fits unfits m) n in
      checked_as (cover fits unfits m) (cover fits' unfits' m') s answer due told right
      (subst P (sym (ap (λ ks. cover ks unfits' m') same-f
      ∙ ap (λ ks. cover f ks m') same-u)) after)

  -- nothing is asked below
  cover_alone : (due : CheckAnswer) → answer ≡ due → due ≡ check_answer (cover fits unfits m) s
      → Leaves Taken due (cover fits unfits m) (cover fits unfits m)
      → fits' ≡ fits → unfits' ≡ unfits → m' ≡ m
      → Checked (cover fits unfits m) s answer (cover fits' unfits' m')
  cover_alone due told right after same-f same-u same =
      let P : Meaning
      → Type 0 = λ n. Leaves Taken due (cover fits unfits m) (cover fits unfits n) in
      cover_told due fits unfits told right (subst P (sym same) after) same-f same-u

  module _ (law : Lawful m) (near : within m.width s ≡ true) where
    -- there is nought below
    cover_spent : nought m.allowance ≡ true
        → CoverAsked None fits unfits m s answer fits' unfits' m'
        → Checked (cover fits unfits m) s answer (cover fits' unfits' m')
    cover_spent none asked =
        let told = left_as m m' s answer (spent m) asked.0 (answer_spent m s near none) in
        cover_told (spent m) fits unfits told.0 (sym (answer_spent (cover fits unfits m) s near none))
        (record {
          kept =
              cover_kept fits unfits m fits unfits m' told.1.kept (λ x close. refl);
          allowance = told.1.allowance;
          label = told.1.label;
        })
        (asked.1 ∙ ap (λ a. fits_after a s fits) told.0) (asked.2
        ∙ ap (λ a. unfits_after a s unfits) told.0)

    -- the answer from below is kept
    cover_answered : nought m.allowance ≡ false → (under_one s fits ≡ false)
        × (over_one s unfits ≡ false)
        → CoverAsked None fits unfits m s answer fits' unfits' m'
        → Checked (cover fits unfits m) s answer (cover fits' unfits' m')
    cover_answered some new asked =
        let told = left_as m m' s answer (answered m s) asked.0 (answer_fit m s near some) in
        let same : (cover fits unfits m).fit s ≡ m.fit s =
        cover_said fits unfits m s ∙ ap (λ b. b || (not (over_one s unfits) && m.fit s)) new.0
        ∙ ap (λ b. not b && m.fit s) new.1 in
        cover_told (answered m s) (fits_after (answered m s) s fits) (unfits_after (answered m s) s unfits) told.0
        (sym (answer_fit (cover fits unfits m) s near some ∙ ap (λ b. Ok (verdict b)) same)) (
          cover_kept fits unfits m (fits_after (answered m s) s fits) (unfits_after (answered m s) s unfits) m' told.1.0
              (learned fits unfits m law s (ltb-true s (2 ^ m.width) near) (m.fit s) refl new.1),
          told.1.1,
        )
        (asked.1 ∙ ap (λ a. fits_after a s fits) told.0) (asked.2
        ∙ ap (λ a. unfits_after a s unfits) told.0)

    cover_asked : (d : Option Bool) → deciding fits unfits m s ≡ d
        → CoverAsked d fits unfits m s answer fits' unfits' m'
        → Checked (cover fits unfits m) s answer (cover fits' unfits' m')
    cover_asked (Some v) known-v asked =
        let two = decided (nought m.allowance) (known fits unfits s) v known-v in
        cover_alone (Ok (verdict v)) asked.0
        (sym (answer_fit (cover fits unfits m) s near two.0
        ∙ ap (λ k. Ok (verdict (or_below k (m.fit s)))) two.1))
        (kept (cover fits unfits m), taken_none m.allowance) asked.1 asked.2 asked.3
    cover_asked None known-none asked =
        elim (cases_Bool (nought m.allowance)) [
          | inl none ↦ cover_spent none asked
          | inr some ↦ cover_answered some (undecided (nought m.allowance) (under_one s fits) (over_one s unfits) some known-none) asked
        ]

  checked_cover : Lawful m → CoverChecked fits unfits m s answer fits' unfits' m'
      → Checked (cover fits unfits m) s answer (cover fits' unfits' m')
  checked_cover law asked =
      elim (cases_Bool (within m.width s)) [
        | inl near ↦ cover_asked law near (deciding fits unfits m s) refl (asked.0 near)
        | inr far ↦
            let h = asked.1 far in
            cover_alone (Err Outside) (outside_is answer h.0)
            (sym (answer_outside (cover fits unfits m) s far)) (unchanged (cover fits unfits m)) h.1 h.2 h.3
      ]

-- so it is of the oracle itself, where it is so below
module _ {O : Type 0} (meaning : O → Meaning) (checks : Checks O) (mean : ChecksMean meaning checks)
    (o p : Cover O) (s : ℕ) (r : CheckAnswer) where
  asked_by : (d : Option Bool) → CoverAsks checks d o s r p
      → CoverAsked d (kept_list o.fits) (kept_list o.unfits) (meaning o.below) s r (kept_list p.fits) (kept_list p.unfits) (meaning p.below)
  asked_by (Some v) h =
      (h.0, ap (λ (q : Cover O). kept_list q.fits) h.1, ap (λ (q : Cover O). kept_list q.unfits) h.1, ap (λ (q : Cover O). meaning q.below) h.1)
  asked_by None h = (mean o.below s r p.below h.0, h.1, h.2)

  pub cover_asks : CoverChecks meaning checks o s r p
      → CoverChecked (kept_list o.fits) (kept_list o.unfits) (meaning o.below) s r (kept_list p.fits) (kept_list p.unfits) (meaning p.below)
  cover_asks h = (
    λ near. asked_by (deciding (kept_list o.fits) (kept_list o.unfits) (meaning o.below) s) (h.0 near),
    λ far.
        let x = h.1 far in
        (x.0, ap (λ (q : Cover O). kept_list q.fits) x.1, ap (λ (q : Cover O). kept_list q.unfits) x.1, ap (λ (q : Cover O). meaning q.below) x.1),
  )

  pub cover_checks_mean : Lawful (meaning o.below) → CoverChecks meaning checks o s r p
      → Checked (cover_meaning meaning o) s r (cover_meaning meaning p)
  cover_checks_mean law h =
      checked_cover (kept_list o.fits) (kept_list o.unfits) (meaning o.below) s r (kept_list p.fits) (kept_list p.unfits) (meaning p.below) law (cover_asks h)

-- a grant keeps what is kept, and is one of what is below
cover_left : (k : ℕ) (fits unfits : List ℕ) (m m' : Meaning) (r : GrantAnswer)
    → Leaves (Grown k) r m m' → Leaves (Grown k) r (cover fits unfits m) (cover fits unfits m')
cover_left k fits unfits m m' (Ok u) a =
    (cover_kept fits unfits m fits unfits m' a.0 (λ x close. refl), a.1)
cover_left k fits unfits m m' (Err e) a =
    record { kept = cover_kept fits unfits m fits unfits m' a.kept (λ x close. refl); allowance = a.allowance; label = a.label }

module _ {O : Type 0} (meaning : O → Meaning) (grants : Grants O) (mean : GrantsMean meaning grants)
    (o p : Cover O) (k : ℕ) (r : GrantAnswer) where
  left_with : (fits unfits : KeptSets) → fits ≡ o.fits → unfits ≡ o.unfits
      → Leaves (Grown k) r (meaning o.below) (meaning p.below)
      → Leaves (Grown k) r (cover_meaning meaning o) (cover (kept_list fits) (kept_list unfits) (meaning p.below))
  left_with fits unfits sf su after =
      let P : KeptSets → KeptSets
      → Type 0 = λ f u. Leaves (Grown k) r (cover_meaning meaning o) (cover (kept_list f) (kept_list u) (meaning p.below)) in
      subst (λ f. P f unfits) (sym sf)
      (subst (λ u. P o.fits u) (sym su) (cover_left k (kept_list o.fits) (kept_list o.unfits) (meaning o.below) (meaning p.below) r after))

  pub cover_given : CoverGrants grants o k r p
      → Granted (meaning o.below) k r (meaning p.below) × (kept_list p.fits ≡ kept_list o.fits)
      × (kept_list p.unfits ≡ kept_list o.unfits)
  cover_given h = (mean o.below k r p.below h.0, ap kept_list h.1, ap kept_list h.2)

  pub cover_grants_mean : CoverGrants grants o k r p
      → Granted (cover_meaning meaning o) k r (cover_meaning meaning p)
  cover_grants_mean h =
      let g = mean o.below k r p.below h.0 in (g.0, left_with p.fits p.unfits h.1 h.2 g.1)
