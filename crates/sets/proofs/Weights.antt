-- The laws of sets of requests: a set is known by its requests, the width bounds them, a proper part weighs less, the keep weight tells sets apart, and what a union, a set without another and a lower half name. Assumes nothing.
use Rattle.std.proofs.Common.{◌≡◌, ℕ, zero, suc, ◌+◌, ◌-◌, ◌*◌, ◌%◌, ◌^◌, ◌<◌, ◌≤◌, Bool, true, false, not, cond, ◌&&◌, ◌||◌, eqb, ltb, sym, refl, ap, ◌∙◌, inl, inr, pow-suc, pow_pos, arith, lit<}
use Rattle.std.proofs.lemmas.Bool.{cond_both, cases_lt, cases_eq, ltb-true, lt-ltb, and_parts, and_from, and_right, true≢false}
use Rattle.std.proofs.lemmas.Nat.{mod_below}
use Rattle.std.proofs.lemmas.Nat.Bits.{ones_shr}
use Rattle.sets.specs.Members.{none, has, minus, lower}
use Rattle.sets.specs.Requests.{names, Within, Part, everyone, keep_from, keep}
use Rattle.sets.specs.SetLaws.{KnownByRequests, PartNames, NamesPart, WithinNames, NamesWithin, EveryoneNames, PartBlamesLess, PartKeepsLess, KeepTells, UnionNames, CommonNames, MinusNames, EmptyNames, LowerHalf, SetLaws}
use Rattle.sets.proofs.Bounds.{has_past}
use Rattle.sets.proofs.Halves.{has_minus, has_cut, lower_cut, lower_part, size_lower}
use Rattle.sets.proofs.Sizes.{ones_size}
use Rattle.sets.proofs.Parts.{has_and, has_or, same_members, part_has, has_part, part_le, part_below}

-- request i + 1 is the member i
names_next : (s i : ℕ) → names s (suc i) ≡ has s i
names_next s i = ap (λ b. b && has s (suc i - 1)) (lt-ltb 0 (suc i) (omega arith)) ∙ ap (has s) (omega arith)

known_by_requests : KnownByRequests
known_by_requests s t same = same_members s t (λ i. sym (names_next s i) ∙ same (suc i) ∙ names_next t i)

pub part_names : PartNames
part_names t s p r h =
    let both = and_parts (ltb 0 r) (has t (r - 1)) h in
    and_from (ltb 0 r) (has s (r - 1)) both.0 (part_has t s (r - 1) p both.1)

names_part : NamesPart
names_part t s f = has_part t s (λ i h. sym (names_next s i) ∙ f (suc i) (names_next t i ∙ h))

-- there is no request above the width
pub names_past : (width s r : ℕ) → Within width s → width < r → names s r ≡ false
names_past width s r small past = and_right (ltb 0 r) (has s (r - 1)) (has_past width s (r - 1) small (omega arith))

within_names : WithinNames
within_names width s small r there =
    elim (cases_lt width r) [ inl past ↦ absurd (true≢false (sym there ∙ names_past width s r small past)) | inr low ↦ low ]

-- all requests up to the width lie within it
everyone_within : (width : ℕ) → Within width (everyone width)
everyone_within width = omega (arith, pow_pos width)

-- all bits below the width are set
everyone_has : (width i : ℕ) → i < width → has (everyone width) i ≡ true
everyone_has width i low =
    let shifted = ones_shr width i (omega arith) in
    let next : 2 ^ (width - i) ≡ 2 ^ (width - suc i) * 2 = ap (λ e. 2 ^ e) (omega arith) ∙ pow-suc 2 (width - suc i) in
    let odd : (2 ^ (width - i) - 1) % 2 ≡ 1 = omega (arith, next, pow_pos (width - suc i)) in
    ap (λ q. eqb (q % 2) 1) shifted ∙ ap (λ b. eqb b 1) odd

everyone_names : EveryoneNames
everyone_names width r = (
  λ there. (ltb-true 0 r (and_parts (ltb 0 r) (has (everyone width) (r - 1)) there).0, within_names width (everyone width) (everyone_within width) r there),
  λ (some, low). and_from (ltb 0 r) (has (everyone width) (r - 1)) (lt-ltb 0 r some) (everyone_has width (r - 1) (omega arith)),
)

-- requests up to the width are a part of all up to it
names_within : NamesWithin
names_within width s low =
    let part : Part s (everyone width) =
    names_part s (everyone width) (λ r there.
    let some = ltb-true 0 r (and_parts (ltb 0 r) (has s (r - 1)) there).0 in
    (everyone_names width r).1 (some, low r there))
    in part_below width s (everyone width) part (everyone_within width)

part_blames_less : PartBlamesLess
part_blames_less t s p other = omega (arith, part_le t s p)

-- the count last requests weigh less than 2 ^ count together, so the first request where two sets differ decides
pub first_weighs : (count r width : ℕ) → r + suc count ≡ suc width → 2 ^ (width - r) ≡ 2 ^ count
first_weighs count r width end = ap (λ e. 2 ^ e) (omega arith)

pub last_weigh : (count r width s : ℕ) → r + count ≡ suc width → keep_from count r width s < 2 ^ count
last_weigh zero r width s end = lit< tt
last_weigh (suc count) r width s end =
    let rest : keep_from count (suc r) width s < 2 ^ count = last_weigh count (suc r) width s (omega arith) in
    let worth : 2 ^ (width - r) ≡ 2 ^ count = first_weighs count r width end in
    let next : 2 ^ suc count ≡ 2 ^ count * 2 = pow-suc 2 count in
    cond_both (names s r) (2 ^ (width - r)) 0 (λ w. w + keep_from count (suc r) width s < 2 ^ suc count) (λ there. omega arith) (λ away. omega arith)

-- a weight m, or none, with less than m after it: the sum tells both
split_sum : (x y : Bool) (m p q : ℕ) → p < m → q < m → cond x m 0 + p ≡ cond y m 0 + q → (x ≡ y) × (p ≡ q)
split_sum true true m p q small smaller e = (refl, omega arith)
split_sum true false m p q small smaller e = absurd (omega arith)
split_sum false true m p q small smaller e = absurd (omega arith)
split_sum false false m p q small smaller e = (refl, omega arith)

same_from : (count r width s t i : ℕ) → r + count ≡ suc width → keep_from count r width s ≡ keep_from count r width t → r ≤ i → i ≤ width
    → names s i ≡ names t i
same_from zero r width s t i end e low high = absurd (omega arith)
same_from (suc count) r width s t i end e low high =
    let rest : ℕ → ℕ = λ u. keep_from count (suc r) width u in
    let small : (u : ℕ) → rest u < 2 ^ (width - r) = λ u. rw (first_weighs count r width end) (last_weigh count (suc r) width u (omega arith)) in
    let told : (names s r ≡ names t r) × (rest s ≡ rest t) = split_sum (names s r) (names t r) (2 ^ (width - r)) (rest s) (rest t) (small s) (small t) e in
    elim (cases_eq i r) [
      | inl here ↦ ap (names s) here ∙ told.0 ∙ ap (names t) (sym here)
      | inr later ↦ same_from count (suc r) width s t i (omega arith) told.1 (omega arith) high
    ]

keep_tells : KeepTells
keep_tells width s t small smaller e =
    known_by_requests s t (λ r.
    elim (cases_lt width r) [
      | inl past ↦ names_past width s r small past ∙ sym (names_past width t r smaller past)
      | inr low ↦ elim (cases_eq r 0) [
        | inl none ↦ ap (names s) none ∙ ap (names t) (sym none)
        | inr some ↦ same_from width 1 width s t r (omega arith) e (omega arith) low
      ]
    ])

-- a part weighs no more, request by request
cond_le : (x y : Bool) (m : ℕ) → (x ≡ true → y ≡ true) → cond x m 0 ≤ cond y m 0
cond_le true true m f = omega arith
cond_le true false m f = absurd (true≢false (sym (f refl)))
cond_le false y m f = omega arith

part_keeps : (count r width t s : ℕ) → Part t s → keep_from count r width t ≤ keep_from count r width s
part_keeps zero r width t s p = omega arith
part_keeps (suc count) r width t s p =
    omega (arith, cond_le (names t r) (names s r) (2 ^ (width - r)) (part_names t s p r), part_keeps count (suc r) width t s p)

part_keeps_less : PartKeepsLess
part_keeps_less width t s small p other =
    let apart : keep width t ≡ keep width s → ⊥ = λ e. other (keep_tells width t s (part_below width t s p small) small e) in
    omega (arith, part_keeps width 1 width t s p)

-- a request of a union, and of one set without another
or_and : (a b c : Bool) → (a && (b || c)) ≡ ((a && b) || (a && c))
or_and true b c = refl
or_and false b c = refl

minus_and : (a b c : Bool) → (a && (b && not c)) ≡ ((a && b) && not (a && c))
minus_and true b c = refl
minus_and false b c = refl

pub union_names : UnionNames
union_names s t r = ap (λ b. ltb 0 r && b) (has_or s t (r - 1)) ∙ or_and (ltb 0 r) (has s (r - 1)) (has t (r - 1))

-- a request is in both if it is one and its bit is set in both
both_and : (a b c : Bool) → (a && (b && c)) ≡ ((a && b) && (a && c))
both_and true b c = refl
both_and false b c = refl

pub common_names : CommonNames
common_names s t r = ap (λ b. ltb 0 r && b) (has_and s t (r - 1)) ∙ both_and (ltb 0 r) (has s (r - 1)) (has t (r - 1))

-- there is no request in the empty set
pub empty_names : EmptyNames
empty_names r = and_right (ltb 0 r) (has none (r - 1)) (has_past 0 none (r - 1) (lit< tt) (omega arith))

pub minus_names : MinusNames
minus_names s t r = ap (λ b. ltb 0 r && b) (has_minus s t (r - 1)) ∙ minus_and (ltb 0 r) (has s (r - 1)) (has t (r - 1))

-- a member below the place where the lower half ends is none of the rest, and there is none of the lower half from there on
low_ends : (s k i : ℕ) → lower s ≡ s % 2 ^ k → has (lower s) i ≡ true → i < k
low_ends s k i cut there =
    elim (cases_lt i k) [
      | inl low ↦ low
      | inr past ↦ absurd (true≢false (sym there ∙ ap (λ n. has n i) cut ∙ has_past k (s % 2 ^ k) i (mod_below s (2 ^ k) (pow_pos k)) past))
    ]

high_begins : (s k i : ℕ) → lower s ≡ s % 2 ^ k → has (minus s (lower s)) i ≡ true → k ≤ i
high_begins s k i cut there =
    let both = and_parts (has s i) (not (has (lower s) i)) (sym (has_minus s (lower s) i) ∙ there) in
    elim (cases_lt i k) [
      | inl low ↦ absurd (true≢false (sym both.1 ∙ ap not (ap (λ n. has n i) cut ∙ has_cut s k i low ∙ both.0)))
      | inr past ↦ past
    ]

lower_half : LowerHalf
lower_half s small =
    let place = lower_cut s small in (
      lower_part s small,
      size_lower s small,
      λ q r low high.
          let first = and_parts (ltb 0 q) (has (lower s) (q - 1)) low in
          let second = and_parts (ltb 0 r) (has (minus s (lower s)) (r - 1)) high in
          omega (arith, ltb-true 0 q first.0, ltb-true 0 r second.0, low_ends s place.0 (q - 1) place.1 first.1, high_begins s place.0 (r - 1) place.1 second.1),
    )

pub set_laws : SetLaws
set_laws = (
  known_by_requests,
  part_names,
  names_part,
  within_names,
  names_within,
  everyone_names,
  part_below,
  part_blames_less,
  part_keeps_less,
  keep_tells,
  union_names,
  common_names,
  minus_names,
  empty_names,
  ones_size,
  lower_half,
)
