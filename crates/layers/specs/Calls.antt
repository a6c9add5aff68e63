-- The calls of the layers: which oracle below is asked, and with what; one that is not asked is the
-- same oracle, and not one that means the same. Assumes nothing.
use Rattle.std.specs.Prelude.{◌≡◌, ℕ, zero, suc, ◌+◌, min, Bool, [], ◌∷◌, Ok, Err, Option, Some, None}
use Rattle.sets.specs.Requests.{within}
use Rattle.oracle.specs.Asking.{verdict}
use Rattle.oracle.specs.Branching.{If}
use Rattle.oracle.specs.Calls.{CheckAnswer, GrantAnswer, Checks, Grants}
use Rattle.oracle.specs.Meaning.{Meaning, limit}
use Rattle.oracle.specs.Refused.{check_tells, IsRefusedWith}
use Rattle.layers.specs.Asked.{says_fit, only_right_spent, one_less, fits_after, unfits_after, deciding}
use Rattle.layers.specs.Listed.{kept_list}
use Rattle.layers.specs.declared.both.Both.{Both}
use Rattle.layers.specs.declared.cover.Cover.{Cover}
use Rattle.layers.specs.declared.quota.Quota.{Quota}

-- Quota, within the width: at nought it refuses with its own label, and is itself afterwards;
-- otherwise below is asked once, and its number is one less after an answer
abbrev pub QuotaAsks : {O : Type 0} → Checks O → (number : ℕ) → Checks (Quota O)
QuotaAsks checks zero o s r p = IsRefusedWith check_tells r 13 (o.label ∷ []) × (p ≡ o)
QuotaAsks checks (suc n) o s r p =
    checks o.below s r p.below × (p.label ≡ o.label) × (p.number ≡ one_less r (suc n))

-- a CHECK of Quota: a set outside the width is refused, and it is itself afterwards
abbrev pub QuotaChecks : {O : Type 0} → (O → Meaning) → Checks O → Checks (Quota O)
QuotaChecks meaning checks o s r p =
    If (within (meaning o.below).width s)
    (QuotaAsks checks o.number o s r p)
    (IsRefusedWith check_tells r 10 [] × (p ≡ o))

-- its number after a GRANT that was answered so
abbrev pub number_after : GrantAnswer → (k number : ℕ) → ℕ
number_after (Ok u) k number = min (number + k) limit
number_after (Err e) k number = number

-- a GRANT of Quota: below is granted once, and its number grows unless that is refused
abbrev pub QuotaGrants : {O : Type 0} → Grants O → Grants (Quota O)
QuotaGrants grants o k r p =
    grants o.below k r p.below × (p.label ≡ o.label) × (p.number ≡ number_after r k o.number)

-- Both: the left is asked once, and then the right once, if the left said fit
abbrev pub AsksInTurn : {L R : Type 0} → Checks L → Checks R → Checks (Both L R)
AsksInTurn lefts rights o s r p =
    (first : CheckAnswer) × lefts o.left s first p.left
    × If (says_fit first) (rights o.right s r p.right) ((r ≡ first) × (p.right ≡ o.right))

-- a CHECK of Both: a set outside the width is refused, and it is itself afterwards; where only the
-- right has nought, only the right is asked; otherwise the sides are asked in turn
abbrev pub BothChecks : {L R : Type 0} → (L → Meaning) → (R → Meaning) → Checks L → Checks R
    → Checks (Both L R)
BothChecks left right lefts rights o s r p =
    If (within (min (left o.left).width (right o.right).width) s)
    (If (only_right_spent (left o.left) (right o.right))
    (rights o.right s r p.right × (p.left ≡ o.left))
    (AsksInTurn lefts rights o s r p))
    (IsRefusedWith check_tells r 10 [] × (p ≡ o))

-- what follows where the left was granted, with this answer
abbrev pub ThenGrants : {R : Type 0} → Grants R → (first : GrantAnswer) → Grants R
ThenGrants rights (Ok u) o k r p = rights o k r p
ThenGrants rights (Err e) o k r p = (r ≡ Err e) × (p ≡ o)

-- a GRANT of Both: the left is granted once, and then the right once, unless the left refused
abbrev pub BothGrants : {L R : Type 0} → Grants L → Grants R → Grants (Both L R)
BothGrants lefts rights o k r p =
    (first : GrantAnswer) × lefts o.left k first p.left
    × ThenGrants rights first o.right k r p.right

-- Cover, within the width: what the kept sets decide is answered, and it is itself afterwards;
-- otherwise below is asked once, and the set is kept with its answer
abbrev pub CoverAsks : {O : Type 0} → Checks O → Option Bool → Checks (Cover O)
CoverAsks checks (Some v) o s r p = (r ≡ Ok (verdict v)) × (p ≡ o)
CoverAsks checks None o s r p =
    checks o.below s r p.below
    × (kept_list p.fits ≡ fits_after r s (kept_list o.fits))
    × (kept_list p.unfits ≡ unfits_after r s (kept_list o.unfits))

-- a CHECK of Cover: a set outside the width is refused, and it is itself afterwards
abbrev pub CoverChecks : {O : Type 0} → (O → Meaning) → Checks O → Checks (Cover O)
CoverChecks meaning checks o s r p =
    If (within (meaning o.below).width s)
    (CoverAsks checks (deciding (kept_list o.fits) (kept_list o.unfits) (meaning o.below) s)
    o s r p)
    (IsRefusedWith check_tells r 10 [] × (p ≡ o))

-- a GRANT of Cover: below is granted once, and what is kept stays
abbrev pub CoverGrants : {O : Type 0} → Grants O → Grants (Cover O)
CoverGrants grants o k r p = grants o.below k r p.below × (p.fits ≡ o.fits) × (p.unfits ≡ o.unfits)
