-- The numbers of a set, as the values of a line from its third field on. Assumes nothing.
use Rattle.std.proofs.Common.{◌≡◌, ℕ, suc, ◌<◌, ◌≤◌, true, eqb, leb, List, [], ◌∷◌, ◌++◌, map, Some, None, codes, decimal, Option, sym, refl, ap, ◌∙◌, subst, ap₂, arith}
use Rattle.std.proofs.lemmas.Bool.{cond-true, cond-false, and_parts, and_from, leb-true, le-leb, ltb-true, lt-ltb, ne_eqb, false≢true}
use Rattle.std.specs.List.{flat_map}
use Rattle.rules.specs.declared.Kind.{Kind}
use Rattle.rules.specs.declared.Kind.TheVariants.{Options, Gaps, Faces}
use Rattle.fields.specs.Formed.{amount, above, first_unrisen}
use Rattle.fields.specs.Layout.{ends_in_set, rule_column, numbers, column}
use Rattle.fields.specs.declared.layout.Column.{Column}
use Rattle.fields.specs.declared.layout.Sort.TheVariants.{Rule}
use Rattle.fields.specs.declared.value.Value.{Value}
use Rattle.fields.specs.declared.value.Value.TheVariants.{Dash, Plain, Signed}
use Rattle.fields.proofs.Commas.{tailed}
use Rattle.fields.proofs.Outcomes.{cond_none}
use Rattle.fields.proofs.Placed.{Fits, Placed}
use Rattle.sets.proofs.Rising.{Rising}
use Rattle.fields.proofs.Spelling.{spelled}

pub number_fits : (low high : ℕ) (v : Value) → Fits (numbers low high) v → (n : ℕ) × (v ≡ Plain n) × (low ≤ n) × (n ≤ high)
number_fits low high Dash fits = absurd fits.0
number_fits low high (Plain n) fits = let range = and_parts (leb low n) (leb n high) fits.1 in (n, refl, leb-true low n range.0, leb-true n high range.1)
number_fits low high (Signed z) fits = absurd fits.0

pub fits_number : (low high n : ℕ) → low ≤ n → n ≤ high → high < 10000000 → Fits (numbers low high) (Plain n)
fits_number low high n least greatest small = (omega arith, and_from (leb low n) (leb n high) (le-leb low n least) (le-leb n high greatest))

-- the column of each number of a set
set_column : (k : Kind) → ends_in_set (Rule k) ≡ true → (requests i : ℕ) → 3 ≤ i → column (Rule k) requests i ≡ numbers 0 31
set_column Options is requests i third = cond-false (eqb i 1) (numbers 0 requests) (rule_column Options i) (ne_eqb i 1 (omega arith)) ∙ cond-false (eqb i 2) _ (numbers 0 31) (ne_eqb i 2 (omega arith))
set_column Gaps is requests i third = absurd (false≢true is)
set_column Faces is requests i third = cond-false (eqb i 1) (numbers 0 requests) (rule_column Faces i) (ne_eqb i 1 (omega arith)) ∙ cond-false (eqb i 2) (numbers 0 1) (numbers 0 31) (ne_eqb i 2 (omega arith))

-- the least number that may follow
abbrev least : Option ℕ → ℕ
least None = 0
least (Some m) = suc m

above_least : (before : Option ℕ) (n : ℕ) → above before n ≡ true → least before ≤ n
above_least None n p = omega arith
above_least (Some m) n p = ltb-true m n p

least_above : (before : Option ℕ) (n : ℕ) → least before ≤ n → above before n ≡ true
least_above None n h = refl
least_above (Some m) n h = lt-ltb m n h

-- ORDER, with the ranges, says that the values are rising numbers below 32
set_risen :
    (k : Kind) → ends_in_set (Rule k) ≡ true → (requests i j : ℕ) (before : Option ℕ) → 3 ≤ i → (vs : List Value) → Placed (Rule k) requests i vs → first_unrisen before j vs ≡ None
    → (ns : List ℕ) × (vs ≡ map Plain ns) × Rising (least before) ns
set_risen k is requests i j before third [] placed p = ([], refl, tt)
set_risen k is requests i j before third (v ∷ vs) placed p =
    let fits = number_fits 0 31 v (subst (λ (c : Column). Fits c v) (set_column k is requests i third) placed.0) in
    let test = cond_none (above before (amount v)) (first_unrisen (Some (amount v)) (suc j) vs) j p in
    let more = set_risen k is requests (suc i) (suc j) (Some (amount v)) (omega arith) vs placed.1 test.1 in
    let same : amount v ≡ fits.0 = ap amount fits.1 in
    let low : least before ≤ fits.0 = subst (λ n. least before ≤ n) same (above_least before (amount v) test.0) in
    (fits.0 ∷ more.0, ap₂ ◌∷◌ fits.1 more.1, (low, omega arith, subst (λ n. Rising (suc n) more.0) same more.2))

risen_set :
    (k : Kind) → ends_in_set (Rule k) ≡ true → (requests i j : ℕ) (before : Option ℕ) → 3 ≤ i → (ns : List ℕ) → Rising (least before) ns
    → Placed (Rule k) requests i (map Plain ns) × (first_unrisen before j (map Plain ns) ≡ None)
risen_set k is requests i j before third [] r = (tt, refl)
risen_set k is requests i j before third (n ∷ ns) r =
    let fits : Fits (numbers 0 31) (Plain n) = fits_number 0 31 n (omega arith) (omega arith) (omega arith) in
    let more = risen_set k is requests (suc i) (suc j) (Some n) (omega arith) ns r.2 in (
      (subst (λ (c : Column). Fits c (Plain n)) (sym (set_column k is requests i third)) fits, more.0),
      cond-true (above before n) (first_unrisen (Some n) (suc j) (map Plain ns)) (Some j) (least_above before n r.0) ∙ more.1,
    )

-- the fields from the third on
pub set_numbers : (k : Kind) → ends_in_set (Rule k) ≡ true → (requests : ℕ) (vs : List Value) → Placed (Rule k) requests 3 vs → first_unrisen None 3 vs ≡ None → (ns : List ℕ) × (vs ≡ map Plain ns) × Rising 0 ns
set_numbers k is requests vs placed p = set_risen k is requests 3 3 None (omega arith) vs placed p

pub numbers_set : (k : Kind) → ends_in_set (Rule k) ≡ true → (requests : ℕ) (ns : List ℕ) → Rising 0 ns → Placed (Rule k) requests 3 (map Plain ns) × (first_unrisen None 3 (map Plain ns) ≡ None)
numbers_set k is requests ns r = risen_set k is requests 3 3 None (omega arith) ns r

pub amounts_plain : (ns : List ℕ) → map amount (map Plain ns) ≡ ns
amounts_plain [] = refl
amounts_plain (n ∷ ns) = ap (λ ms. n ∷ ms) (amounts_plain ns)

pub members_tailed : (ns : List ℕ) → flat_map (λ n. codes "," ++ decimal n) ns ≡ tailed (map spelled (map Plain ns))
members_tailed [] = refl
members_tailed (n ∷ ns) = ap (λ t. 44 ∷ (decimal n ++ t)) (members_tailed ns)
