-- What adding a request changes in a set of requests. Assumes nothing.
use Rattle.std.proofs.Common.{◌≡◌, ℕ, zero, suc, ◌-◌, ◌^◌, ◌<◌, ◌≤◌, ltb, leb, ◌&&◌, refl, ap, ◌∙◌, inl, inr, arith, ◌≢◌}
use lib.Bits.{bit_or}
use Rattle.std.proofs.lemmas.Bool.{and_from, cond-true, cond-false, cond_both, cases_lt, lt-ltb, le-ltb, le-leb}
use Rattle.sets.specs.Instances.{SetAdds, SetStays}
use Rattle.sets.specs.Members.{has, added, added_from}
use Rattle.sets.specs.Requests.{widest, names}
use Rattle.sets.proofs.Adding.{has_put, has_put_other, added_put}

-- a request up to 32 is added by the bit before its place
added_request : (s r : ℕ) → 0 < r → r ≤ widest → added_from 1 s r ≡ bit_or s (2 ^ (r - 1))
added_request s r some few = cond-true (leb 1 r) (added s (r - 1)) s (le-leb 1 r some) ∙ added_put s (r - 1) (omega arith)

others_stay : (s r q : ℕ) → 0 < r → (q ≢ r) → names (bit_or s (2 ^ (r - 1))) q ≡ names s q
others_stay s r zero some other = refl
others_stay s r (suc q) some other = ap (λ b. ltb 0 (suc q) && b) (has_put_other s (r - 1) (suc q - 1) (λ same. other (omega arith)))

pub set_adds : SetAdds
set_adds s r some few =
    let put = added_request s r some few in (
      ap (λ n. names n r) put ∙ and_from (ltb 0 r) (has (bit_or s (2 ^ (r - 1))) (r - 1)) (lt-ltb 0 r some) (has_put s (r - 1)),
      λ q other. ap (λ n. names n q) put ∙ others_stay s r q some other,
    )

pub set_stays : SetStays
set_stays s zero none = refl
set_stays s (suc r) none =
    elim (cases_lt r 32) [
      | inl few ↦ absurd (none (omega arith) (omega arith))
      | inr many ↦
          cond_both (leb 1 (suc r)) (added s (suc r - 1)) s (λ n. n ≡ s)
          (λ at. cond-false (ltb (suc r - 1) 32) (bit_or s (2 ^ (suc r - 1))) s (le-ltb (suc r - 1) 32 (omega arith))) (λ below. refl)
    ]
