-- Of two sets that first differ at a request, the one that has it is of greater keep weight. Assumes nothing.
use Rattle.std.proofs.Common.{◌≡◌, ℕ, zero, suc, ◌+◌, ◌-◌, ◌^◌, ◌<◌, ◌≤◌, cond, ltb, sym, ap, ◌∙◌, inl, inr, arith}
use Rattle.std.proofs.lemmas.Bool.{cases_eq, cond-true, cond-false, ltb-true, and_parts}
use Rattle.sets.specs.Members.{has}
use Rattle.sets.specs.Requests.{names, keep_from, keep}
use Rattle.sets.proofs.Weights.{first_weighs, last_weigh}
use Rattle.listing.specs.Deciding.{LeadsAt}

-- by the count requests from r on
leads_from : (count r width q s t : ℕ) → r + count ≡ suc width → r ≤ q → q ≤ width → LeadsAt q s t → keep_from count r width t < keep_from count r width s
leads_from zero r width q s t end low high lead = absurd (omega arith)
leads_from (suc count) r width q s t end low high lead =
    elim (cases_eq q r) [
      | inl here ↦
          let first : cond (names s r) (2 ^ (width - r)) 0 ≡ 2 ^ count =
          cond-true (names s r) (2 ^ (width - r)) 0 (ap (names s) (sym here) ∙ lead.there) ∙ first_weighs count r width end
          in
          let second : cond (names t r) (2 ^ (width - r)) 0 ≡ 0 = cond-false (names t r) (2 ^ (width - r)) 0 (ap (names t) (sym here) ∙ lead.away) in
          omega (arith, first, second, last_weigh count (suc r) width t (omega arith))
      | inr later ↦
          let same : cond (names s r) (2 ^ (width - r)) 0 ≡ cond (names t r) (2 ^ (width - r)) 0 =
          ap (λ b. cond b (2 ^ (width - r)) 0) (lead.same r (omega arith))
          in omega (arith, same, leads_from count (suc r) width q s t (omega arith) (omega arith) high lead)
    ]

pub leads_keeps : (width r s t : ℕ) → r ≤ width → LeadsAt r s t → keep width t < keep width s
leads_keeps width r s t high lead =
    let some : 0 < r = ltb-true 0 r (and_parts (ltb 0 r) (has s (r - 1)) lead.there).0 in
    leads_from width 1 width r s t (omega arith) some high lead
