-- That the layers keep the law of an oracle, from what is below; cited where each is said to be
-- lawful. Proofs only. Assumes nothing.
use Rattle.std.specs.Prelude.{◌≡◌, ℕ, ◌≤◌, min, Bool, true, false, cond, not, ◌&&◌, ◌||◌, List, [], ◌∷◌, Some, None, Option, refl}
use Rattle.std.specs.List.{list_any}
use Rattle.std.proofs.Common.{inl, inr, sym, ◌∙◌, lt_of_lt_of_le, arith, pow_mono}
use Rattle.std.proofs.lemmas.Bool.{cases_Bool, cond_both, or_cases, or_left, or_right, and_parts, and_from, not-true, not_from_false, both_ways}
use Rattle.sets.specs.Requests.{Within, Part, part}
use Rattle.sets.proofs.Parts.{part_trans, part_true, true_part}
use Rattle.oracle.specs.Asking.{nought}
use Rattle.oracle.specs.Meaning.{Meaning, limit, last_label, Counted, Lawful}
use Rattle.layers.specs.Layered.{lesser, both, quota, under_one, over_one, or_below, cover}

-- of two counts the smaller is one
pub counted_lesser : (a b : Option ℕ) → Counted a → Counted b → Counted (lesser a b)
counted_lesser None b ca cb = cb
counted_lesser (Some a) None ca cb = ca
counted_lesser (Some a) (Some b) ca cb = omega arith

-- a set within the smaller width is within both
pub within_both : (a b s : ℕ) → Within (min a b) s → Within a s × Within b s
within_both a b s near =
    (lt_of_lt_of_le near (pow_mono (omega arith)), lt_of_lt_of_le near (pow_mono (omega arith)))

-- Both keeps the law of an oracle
pub both_lawful : (l r : Meaning) → Lawful l → Lawful r → Lawful (both l r)
both_lawful l r ll lr = record {
  narrow = omega (arith, ll.narrow);
  counted = counted_lesser l.allowance r.allowance ll.counted lr.counted;
  labelled =
      cond_both (nought l.allowance) l.label r.label (λ x. x ≤ last_label) (λ e. ll.labelled) (λ e. lr.labelled);
  downward = λ t s near part fit.
      let two = and_parts (l.fit s) (r.fit s) fit in
      let close = within_both l.width r.width s near in
      and_from (l.fit t) (r.fit t)
      (ll.downward t s close.0 part two.0)
      (lr.downward t s close.1 part two.1);
}

-- so does Quota
pub quota_lawful : (number label : ℕ) (m : Meaning) → number ≤ limit → label ≤ last_label → Lawful m
    → Lawful (quota number label m)
quota_lawful number label m counted labelled law = record {
  narrow = law.narrow;
  counted = counted_lesser (Some number) m.allowance counted law.counted;
  labelled =
      cond_both (nought (Some number)) label m.label (λ x. x ≤ last_label) (λ e. labelled) (λ e. law.labelled);
  downward = law.downward;
}

-- a test that holds wherever another does
any_more : (f g : ℕ → Bool) → ((k : ℕ) → f k ≡ true → g k ≡ true) → (ks : List ℕ)
    → list_any f ks ≡ true → list_any g ks ≡ true
any_more f g less [] holds = holds
any_more f g less (k ∷ ks) holds =
    elim (or_cases (f k) (list_any f ks) holds) [
      | inl here ↦ or_left (g k) (list_any g ks) (less k here)
      | inr later ↦ or_right (g k) (list_any g ks) (any_more f g less ks later)
    ]

-- a part of a set that is under one is under it
pub under_part : (t s : ℕ) (ks : List ℕ) → Part t s → under_one s ks ≡ true → under_one t ks ≡ true
under_part t s ks p =
    any_more (λ k. part s k) (λ k. part t k) (λ k h. true_part t k (part_trans t s k p (part_true s k h))) ks

-- and a set with a part that is over one is over it
pub over_part : (t s : ℕ) (ks : List ℕ) → Part t s → over_one t ks ≡ true → over_one s ks ≡ true
over_part t s ks p =
    any_more (λ k. part k t) (λ k. part k s) (λ k h. true_part k s (part_trans k t s (part_true k t h) p)) ks

-- the verdict as one test
said : (under over below : Bool)
    → or_below (cond under (Some true) (cond over (Some false) None)) below ≡ (under || (not over && below))
said true over below = refl
said false true below = refl
said false false below = refl

-- a part of a set that contains no kept unfit set contains none
pub over_none : (t s : ℕ) (ks : List ℕ) → Part t s → over_one s ks ≡ false → over_one t ks ≡ false
over_none t s ks p none =
    elim (cases_Bool (over_one t ks)) [ inl over ↦ absurd (both_ways (over_one s ks) none (over_part t s ks p over)) | inr e ↦ e ]

-- the verdict of Cover as one test
pub cover_said : (fits unfits : List ℕ) (m : Meaning) (s : ℕ)
    → (cover fits unfits m).fit s ≡ (under_one s fits || (not (over_one s unfits) && m.fit s))
cover_said fits unfits m s = said (under_one s fits) (over_one s unfits) (m.fit s)

-- Cover keeps the law of an oracle
pub cover_lawful : (fits unfits : List ℕ) (m : Meaning) → Lawful m → Lawful (cover fits unfits m)
cover_lawful fits unfits m law = record {
  narrow = law.narrow;
  counted = law.counted;
  labelled = law.labelled;
  downward = λ t s near p fit.
      cover_said fits unfits m t
      ∙ elim (or_cases (under_one s fits) (not (over_one s unfits) && m.fit s) (sym (cover_said fits unfits m s) ∙ fit)) [
        | inl under ↦ or_left (under_one t fits) (not (over_one t unfits) && m.fit t) (under_part t s fits p under)
        | inr below ↦
            let two = and_parts (not (over_one s unfits)) (m.fit s) below in
            or_right (under_one t fits) (not (over_one t unfits) && m.fit t)
            (and_from (not (over_one t unfits)) (m.fit t)
            (not_from_false (over_one t unfits) (over_none t s unfits p (not-true (over_one s unfits) two.0)))
            (law.downward t s near p two.1))
      ];
}
