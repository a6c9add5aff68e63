-- How many answers a halving reads, by the size of its result: none for a half of which nothing is kept but the check that says so. Assumes nothing.
use Rattle.std.proofs.Common.{◌≡◌, ℕ, zero, suc, ◌+◌, ◌*◌, ◌^◌, ◌<◌, ◌≤◌, Bool, List, length, refl, sym, ap, ◌∙◌, inl, inr, arith, pow-suc}
use Rattle.std.specs.Prelude.{bit_or, bit_and}
use Rattle.std.proofs.lemmas.Bool.{and_parts, and_from, cases_eq}
use Rattle.sets.specs.Members.{none, has, lower, size}
use Rattle.sets.specs.Requests.{Part}
use Rattle.sets.proofs.Parts.{has_and, part_has, has_part, part_le, part_below}
use Rattle.sets.proofs.Halves.{size_lower, size_upper, size_or_apart, size_none, minus_apart}
use Rattle.listing.specs.Bill.{bill, BillSplits}
use Rattle.listing.specs.Halving.{Halved, ends}
use Rattle.listing.specs.HalvingLaws.{ReadsByBill}
use Rattle.listing.proofs.Bills.{bill_laws}
use Rattle.listing.proofs.HalveSteps.{upper, Halves, no_answer, is_unfit, is_fit, is_whole, upper_asks, lower_asks, both_end, steps_of}
use Rattle.listing.proofs.HalveHeld.{lower_small, upper_small, small_of, size_within}
use Rattle.listing.proofs.HalveWithin.{HoldsOf, holds_by, lies_within}
use Rattle.listing.proofs.HalveReads.{check, check_le}

-- parts of two sets that share nothing share nothing
shared_part : (a b x y : ℕ) → Part x a → Part y b → Part (bit_and x y) (bit_and a b)
shared_part a b x y first second =
    has_part (bit_and x y) (bit_and a b) (λ i h.
    let both = and_parts (has x i) (has y i) (sym (has_and x y i) ∙ h) in
    has_and a b i ∙ and_from (has a i) (has b i) (part_has x a i first both.0) (part_has y b i second both.1))

-- the size of a result is that of its parts in both halves
result_size : (p q r : ℕ) → p < 2 ^ 32 → Part q (lower p) → Part r (upper p) → size (bit_or q r) ≡ size q + size r
result_size p q r small below above =
    let shared : bit_and q r ≤ bit_and (lower p) (upper p) = part_le (bit_and q r) (bit_and (lower p) (upper p)) (shared_part (lower p) (upper p) q r below above) in
    let nothing : bit_and q r ≡ 0 = omega (arith, minus_apart p (lower p)) in
    size_or_apart q r (part_below 32 q (lower p) below (lower_small p small)) (part_below 32 r (upper p) above (upper_small p small)) nothing

ended_size : {d h j p r q : ℕ} {answers rest last : List Bool} → p < 2 ^ 32 → Halves d j (lower p) (upper p) answers (ends r rest)
    → Halves d h r (lower p) rest (ends q last) → size (bit_or q r) ≡ size q + size r
ended_size {p = p} {r = r} {q = q} small high low = result_size p q r small (lies_within low (lower_small p small)) (lies_within high (upper_small p small))

-- a set with a request has a size
some_size : (r : ℕ) → r < 2 ^ 32 → (r ≡ none → ⊥) → 0 < size r
some_size r small some =
    elim (cases_eq (size r) 0) [ inl e ↦ absurd (some (size_none r small e)) | inr other ↦ omega arith ]

-- where the held set was not checked, it is fit, and something is kept
kept : {d h a p : ℕ} {answers : List Bool} {out : Halved} → Halves d h a p answers out → p < 2 ^ 32 → a ≡ none → 0 < size p
    → HoldsOf (λ s. Unit {0}) (λ r rest. 0 < size r) out
kept (no_answer d h a p) small e some = tt
kept (is_unfit d h a p rest) small e some = absurd (omega arith)
kept (is_fit d h a p rest out go) small e some = absurd (omega arith)
kept (is_whole d h p answers why) small e some = some
kept (upper_asks d h p s answers more high) small e some = tt
kept (lower_asks d h p r s answers rest more high low) small e some = tt
kept (both_end d h p r q answers rest last more high low) small e some =
    let whole : size (bit_or q r) ≡ size q + size r = ended_size small high low in
    elim (cases_eq r none) [
      | inl gone ↦
          let left : 0 < size (lower p) = omega (arith, size_lower p small) in
          let below : 0 < size q = kept low (lower_small p small) gone left in
          omega arith
      | inr there ↦
          let above : 0 < size r = some_size r (part_below 32 r (upper p) (lies_within high (upper_small p small)) (upper_small p small)) there in
          omega arith
    ]

-- what a halving reads
billed : BillSplits → {d h a p : ℕ} {answers : List Bool} {out : Halved} → Halves d h a p answers out → p < 2 ^ 32 → (k : ℕ) → size p ≤ 2 ^ k
    → HoldsOf (λ s. Unit {0}) (λ r rest. length answers ≤ length rest + (check a + bill k (size r))) out
billed splits (no_answer d h a p) small k room = tt
billed splits (is_unfit d h a p rest) small k room = omega arith
billed splits (is_fit d h a p rest out go) small k room = holds_by out (λ s f. tt) (λ r left f. omega arith) (billed splits go small k room)
billed splits (is_whole d h p answers why) small k room = omega arith
billed splits (upper_asks d h p s answers more high) small k room = tt
billed splits (lower_asks d h p r s answers rest more high low) small k room = tt
billed splits (both_end d h p r q answers rest last more high low) small zero room = absurd (omega arith)
billed splits (both_end d h p r q answers rest last more high low) small (suc k) room =
    let half : size p ≤ 2 ^ k * 2 = omega (arith, pow-suc 2 k) in
    let above : length answers ≤ length rest + (check (lower p) + bill k (size r)) = billed splits high (upper_small p small) k (omega (arith, size_upper p small)) in
    let below : length rest ≤ length last + (check r + bill k (size q)) = billed splits low (lower_small p small) k (omega (arith, size_lower p small)) in
    let whole : size (bit_or q r) ≡ size q + size r = ended_size small high low in
    let some : 0 < size (bit_or q r) = kept (both_end d h p r q answers rest last more high low) small refl (omega arith) in
    let enough : 2 + bill k (size q) + bill k (size r) ≤ bill (suc k) (size q + size r) = splits k (size q) (size r) (omega arith) in
    let sum : bill (suc k) (size (bit_or q r)) ≡ bill (suc k) (size q + size r) = ap (bill (suc k)) whole in
    omega (arith, check_le (lower p), check_le r)

-- of a whole halving
pub reads_by_bill : ReadsByBill
reads_by_bill width d seed r answers rest narrow deep within e =
    let small : seed < 2 ^ 32 = small_of width seed narrow within in
    let room : size seed ≤ 2 ^ d = omega (arith, size_within width seed narrow within) in
    let most : length answers ≤ length rest + (0 + bill d (size r)) = billed bill_laws.1 (steps_of seed answers (ends r rest) e) small d room in
    omega arith
