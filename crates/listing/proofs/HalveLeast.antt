-- A halving whose answers are a verdict's ends with the least part that is unfit with the held set. Assumes nothing.
use Rattle.std.proofs.Common.{◌≡◌, ℕ, suc, ◌*◌, ◌/◌, ◌%◌, ◌^◌, ◌<◌, ◌≤◌, Bool, true, false, List, [], ◌∷◌, ◌++◌, ◌⊎◌, inl, inr, refl, sym, ap, ◌∙◌, subst, append_assoc, pow-suc, arith}
use Rattle.std.specs.Prelude.{bit_or}
use lib.Bits.{or_zero_r, or_lt}
use Rattle.std.proofs.lemmas.Bool.{cases_Bool, cases_eq, true≢false}
use Rattle.oracle.specs.Meaning.{Downward}
use Rattle.sets.specs.Members.{none, lower, size}
use Rattle.sets.specs.Requests.{Part}
use Rattle.sets.proofs.Parts.{part_refl, part_trans, part_or_r, part_or, part_below}
use Rattle.sets.proofs.Halves.{lower_part, lower_cut, lower_upper, size_lower, size_upper, size_none, part_size}
use Rattle.listing.specs.Halving.{Halved, asks}
use Rattle.listing.proofs.HalveSteps.{upper, Halves, no_answer, is_unfit, is_fit, is_whole, upper_asks, lower_asks, both_end}
use Rattle.listing.proofs.HalveHeld.{second_in, other_order, together, made_of, three_within, upper_part, small_of, lower_within, upper_within}
use Rattle.listing.proofs.HalveWithin.{HoldsOf}
use Rattle.listing.proofs.HalvePrefix.{Read, read_first}
use Rattle.listing.proofs.HalveCuts.{halves_of_part, least_in_order}

-- each answer is the verdict on the set that was asked when those before it had been given
abbrev pub Told : (fit : ℕ → Bool) (d h a p : ℕ) → List Bool → Type 0
Told fit d h a p answers = (front rest : List Bool) (b : Bool) (s : ℕ) → answers ≡ front ++ (b ∷ rest) → Halves d h a p front (asks s) → b ≡ fit s

-- the least part that is unfit with the held set
abbrev pub IsLeast : (fit : ℕ → Bool) (h p r : ℕ) → Type 0
IsLeast fit h p r = Part r p × (fit (bit_or h r) ≡ false) × ((t : ℕ) → Part t p → fit (bit_or h t) ≡ false → r ≤ t)

-- the same of what follows: once the held set is fit, in the upper half, and in the lower one with what is left
told_fit : {fit : ℕ → Bool} {d h a p : ℕ} {rest : List Bool} → Told fit d h (suc a) p (true ∷ rest) → Told fit d h none p rest
told_fit {d = d} {h = h} {a = a} {p = p} told front left b s e go =
    told (true ∷ front) left b s (ap (λ l. true ∷ l) e) (is_fit d h a p front (asks s) go)

told_upper : {fit : ℕ → Bool} {d h p : ℕ} {answers : List Bool} → 1 < size p → Told fit (suc d) h none p answers
    → Told fit d (bit_or h (lower p)) (lower p) (upper p) answers
told_upper {d = d} {h = h} {p = p} more told front left b s e go = told front left b s e (upper_asks d h p s front more go)

told_lower : {fit : ℕ → Bool} {d h p r : ℕ} {answers rest : List Bool} → 1 < size p → Told fit (suc d) h none p answers
    → Read d (bit_or h (lower p)) (lower p) (upper p) answers r rest → Told fit d (bit_or h r) r (lower p) rest
told_lower {d = d} {h = h} {p = p} {r = r} more told read front left b s e go =
    told (read.0 ++ front) left b s (read.1 ∙ ap (λ l. read.0 ++ l) e ∙ sym (append_assoc read.0 front (b ∷ left)))
    (lower_asks d h p r s (read.0 ++ front) front more (read.2 front) go)

-- a held set that is fit stays so with nothing added
fit_with_none : (fit : ℕ → Bool) (h x : ℕ) → fit h ≡ true → x ≡ none → fit (bit_or h x) ≡ true
fit_with_none fit h x good e = ap (λ n. fit (bit_or h n)) e ∙ ap fit (or_zero_r h) ∙ good

-- a set that is not taken apart has at most one request
few_whole : (d p : ℕ) → (d ≡ 0) ⊎ (size p ≤ 1) → size p ≤ 2 ^ d → size p ≤ 1
few_whole d p (inl e) room = omega (arith, ap (λ n. 2 ^ n) e)
few_whole d p (inr few) room = few

module _ (width : ℕ) (fit : ℕ → Bool) (narrow : width ≤ 32) (down : Downward width fit) where
  -- what contains an unfit set is unfit
  unfit_up : (t s : ℕ) → s < 2 ^ width → Part t s → fit t ≡ false → fit s ≡ false
  unfit_up t s within e bad =
      elim (cases_Bool (fit s)) [ inl good ↦ absurd (true≢false (sym (down t s within e good) ∙ bad)) | inr other ↦ other ]

  -- so both halves are with the held set, and the lower one is with what is left of the upper
  halves_unfit : (h p : ℕ) → h < 2 ^ width → p < 2 ^ width → fit (bit_or h p) ≡ false → fit (bit_or (bit_or h (lower p)) (upper p)) ≡ false
  halves_unfit h p held within bad =
      let all : ℕ = bit_or (bit_or h (lower p)) (upper p) in
      let all_in : all < 2 ^ width = three_within width h (lower p) (upper p) held (lower_within width p narrow within) (upper_within width p within) in
      let whole : bit_or (lower p) (upper p) ≡ p = lower_upper p (small_of width p narrow within) in
      unfit_up (bit_or h p) all all_in (made_of h p (lower p) (upper p) (lower p) (upper p) whole (second_in h (lower p) (upper p)) (part_or_r (bit_or h (lower p)) (upper p))) bad

  rest_unfit : (h p r : ℕ) → h < 2 ^ width → p < 2 ^ width → r < 2 ^ width → fit (bit_or (bit_or h (lower p)) r) ≡ false → fit (bit_or (bit_or h r) (lower p)) ≡ false
  rest_unfit h p r held within inside bad =
      let all_in : bit_or (bit_or h r) (lower p) < 2 ^ width = three_within width h r (lower p) held inside (lower_within width p narrow within) in
      unfit_up (bit_or (bit_or h (lower p)) r) (bit_or (bit_or h r) (lower p)) all_in (other_order h (lower p) r) bad

  -- a part that is unfit with the held set is no less in the upper half than the least there,
  upper_no_less : (h p r t low high : ℕ) → h < 2 ^ width → p < 2 ^ width → bit_or low high ≡ t → Part low (lower p) → Part high (upper p)
      → IsLeast fit (bit_or h (lower p)) (upper p) r → fit (bit_or h t) ≡ false → r ≤ high
  upper_no_less h p r t low high held within whole low_in high_in above bad =
      let all : ℕ = bit_or (bit_or h (lower p)) high in
      let high_within : high < 2 ^ width = part_below width high (upper p) high_in (upper_within width p within) in
      let all_in : all < 2 ^ width = three_within width h (lower p) high held (lower_within width p narrow within) high_within in
      let low_held : Part low all = part_trans low (lower p) all low_in (second_in h (lower p) high) in
      above.2 high high_in (unfit_up (bit_or h t) all all_in (made_of h t (lower p) high low high whole low_held (part_or_r (bit_or h (lower p)) high)) bad)

  -- and where it is the same there, no less in the lower one
  lower_no_less : (h p q r t low high : ℕ) → h < 2 ^ width → p < 2 ^ width → bit_or low high ≡ t → Part low (lower p) → Part high (upper p)
      → IsLeast fit (bit_or h r) (lower p) q → fit (bit_or h t) ≡ false → r ≡ high → q ≤ low
  lower_no_less h p q r t low high held within whole low_in high_in below bad same =
      let all : ℕ = bit_or (bit_or h r) low in
      let high_within : high < 2 ^ width = part_below width high (upper p) high_in (upper_within width p within) in
      let low_within : low < 2 ^ width = part_below width low (lower p) low_in (lower_within width p narrow within) in
      let all_in : all < 2 ^ width = three_within width h r low held (subst (λ n. n < 2 ^ width) (sym same) high_within) low_within in
      let high_held : Part high all = subst (λ n. Part n all) same (second_in h r low) in
      below.2 low low_in (unfit_up (bit_or h t) all all_in (made_of h t r low low high whole (part_or_r (bit_or h r) low) high_held) bad)

  -- the least of both halves is the least of the whole
  least_of_both : (h p q r : ℕ) → h < 2 ^ width → p < 2 ^ width → IsLeast fit (bit_or h (lower p)) (upper p) r → IsLeast fit (bit_or h r) (lower p) q
      → IsLeast fit h p (bit_or q r)
  least_of_both h p q r held within above below =
      let small : p < 2 ^ 32 = small_of width p narrow within in
      let (k, cut) = lower_cut p small in
      let q_in : Part q p = part_trans q (lower p) p below.0 (lower_part p small) in
      let r_in : Part r p = part_trans r (upper p) p above.0 (upper_part p) in
      let result_in : Part (bit_or q r) p = part_or q r p q_in r_in in
      let inside : bit_or h (bit_or q r) < 2 ^ width = or_lt width h (bit_or q r) held (part_below width (bit_or q r) p result_in within) in (
        result_in,
        unfit_up (bit_or (bit_or h r) q) (bit_or h (bit_or q r)) inside (together h r q) below.1,
        λ t inner bad.
            let (low_in, high_in, whole) = halves_of_part p k t cut inner in
            least_in_order p k q r t cut below.0 above.0 (upper_no_less h p r t (t % 2 ^ k) (t / 2 ^ k * 2 ^ k) held within whole low_in high_in above bad) (lower_no_less h p q r t (t % 2 ^ k) (t / 2 ^ k * 2 ^ k) held within whole low_in high_in below bad),
      )

  -- of a set of at most one request it is the whole
  least_whole : (h p : ℕ) → p < 2 ^ width → size p ≤ 1 → fit h ≡ true → fit (bit_or h p) ≡ false → IsLeast fit h p p
  least_whole h p within few good bad = (
    part_refl p,
    bad,
    λ t inner other.
        elim (cases_eq t p) [
          | inl same ↦ omega arith
          | inr less ↦
              let fewer : size t < size p = part_size t p (small_of width p narrow within) inner less in
              let gone : t ≡ none = size_none t (small_of width t narrow (part_below width t p inner within)) (omega arith) in
              absurd (true≢false (sym (fit_with_none fit h t good gone) ∙ other))
        ],
  )

  -- each step; the held set is fit where it is not checked
  pub least : {d h a p : ℕ} {answers : List Bool} {out : Halved} → Halves d h a p answers out → h < 2 ^ width → p < 2 ^ width → size p ≤ 2 ^ d
      → fit (bit_or h p) ≡ false → (a ≡ none → fit h ≡ true) → Told fit d h a p answers → HoldsOf (λ s. Unit {0}) (λ r rest. IsLeast fit h p r) out
  least (no_answer d h a p) held within room bad good told = tt
  least (is_unfit d h a p rest) held within room bad good told =
      (refl, ap fit (or_zero_r h) ∙ sym (told [] rest false h refl (no_answer d h a p)), λ t inner other. omega arith)
  least (is_fit d h a p rest out go) held within room bad good told =
      least go held within room bad (λ e. sym (told [] rest true h refl (no_answer d h a p))) (told_fit told)
  least (is_whole d h p answers why) held within room bad good told = least_whole h p within (few_whole d p why room) (good refl) bad
  least (upper_asks d h p s answers more high) held within room bad good told = tt
  least (lower_asks d h p r s answers rest more high low) held within room bad good told = tt
  least (both_end d h p r q answers rest last more high low) held within room bad good told =
      let small : p < 2 ^ 32 = small_of width p narrow within in
      let half : size p ≤ 2 ^ d * 2 = omega (arith, pow-suc 2 d) in
      let low_in : lower p < 2 ^ width = lower_within width p narrow within in
      let high_in : upper p < 2 ^ width = upper_within width p within in
      let above : IsLeast fit (bit_or h (lower p)) (upper p) r =
      least high (or_lt width h (lower p) held low_in) high_in (omega (arith, size_upper p small)) (halves_unfit h p held within bad) (fit_with_none fit h (lower p) (good refl)) (told_upper more told)
      in
      let r_in : r < 2 ^ width = part_below width r (upper p) above.0 high_in in
      let below : IsLeast fit (bit_or h r) (lower p) q =
      least low (or_lt width h r held r_in) low_in (omega (arith, size_lower p small)) (rest_unfit h p r held within r_in above.1) (fit_with_none fit h r (good refl)) (told_lower more told (read_first high))
      in least_of_both h p q r held within above below
