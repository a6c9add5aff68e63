-- What the calls of the layers come to in terms of what is meant below, and what Quota takes.
-- Assumes nothing.
use Rattle.std.specs.Prelude.{◌≡◌, ℕ, ◌+◌, [], ◌∷◌, Ok, Err, None}
use Rattle.oracle.specs.Asking.{Granted}
use Rattle.oracle.specs.Calls.{CheckAnswer, GrantAnswer, Checks, Grants}
use Rattle.oracle.specs.Meaning.{Meaning}
use Rattle.oracle.specs.Refused.{check_tells}
use Rattle.layers.specs.Asked.{BothChecked, QuotaChecked, CoverChecked, number_granted}
use Rattle.layers.specs.Calls.{BothChecks, BothGrants, QuotaChecks, QuotaGrants, CoverChecks, CoverGrants}
use Rattle.layers.specs.Listed.{kept_list}
use Rattle.layers.specs.declared.both.Both.{Both}
use Rattle.layers.specs.declared.cover.Cover.{Cover}
use Rattle.layers.specs.declared.quota.Quota.{Quota}

-- what a CHECK of Both asks of its sides; a GRANT of it comes to one of each side in what they mean,
-- with one answer: where the left refuses, so would the right
abbrev pub BothAsksSides : {L R : Type 0} → (L → Meaning) → (R → Meaning) → Checks L → Checks R
    → Grants L → Grants R → Type 0
BothAsksSides {L} {R} left right lefts rights gives_left gives_right =
    ((o p : Both L R) (s : ℕ) (r : CheckAnswer) → BothChecks left right lefts rights o s r p
    → BothChecked (left o.left) (right o.right) s r (left p.left) (right p.right))
    × ((o p : Both L R) (k : ℕ) (r : GrantAnswer) → BothGrants gives_left gives_right o k r p
    → Granted (left o.left) k r (left p.left) × Granted (right o.right) k r (right p.right))

-- what a CHECK of Quota asks below; a GRANT of it is one below; the label stays
abbrev pub QuotaAsksBelow : {O : Type 0} → (O → Meaning) → Checks O → Grants O → Type 0
QuotaAsksBelow {O} meaning checks grants =
    ((o p : Quota O) (s : ℕ) (r : CheckAnswer) → QuotaChecks meaning checks o s r p
    → (p.label ≡ o.label)
    × QuotaChecked o.number o.label (meaning o.below) s r p.number (meaning p.below))
    × ((o p : Quota O) (k : ℕ) (r : GrantAnswer) → QuotaGrants grants o k r p
    → Granted (meaning o.below) k r (meaning p.below) × (p.label ≡ o.label)
    × (p.number ≡ number_granted k o.number))

-- what a CHECK of Cover asks below; a GRANT of it is one below, and what is kept stays
abbrev pub CoverAsksBelow : {O : Type 0} → (O → Meaning) → Checks O → Grants O → Type 0
CoverAsksBelow {O} meaning checks grants =
    ((o p : Cover O) (s : ℕ) (r : CheckAnswer) → CoverChecks meaning checks o s r p
    → CoverChecked (kept_list o.fits) (kept_list o.unfits) (meaning o.below) s r
    (kept_list p.fits) (kept_list p.unfits) (meaning p.below))
    × ((o p : Cover O) (k : ℕ) (r : GrantAnswer) → CoverGrants grants o k r p
    → Granted (meaning o.below) k r (meaning p.below)
    × (kept_list p.fits ≡ kept_list o.fits) × (kept_list p.unfits ≡ kept_list o.unfits))

-- what a CHECK takes of a quota: one for an answer, nothing for a refusal; one with number 13 tells
-- the quota's own label, with its number at nought
abbrev pub Took : {O : Type 0} → CheckAnswer → Quota O → Quota O → Type 0
Took (Ok v) o p = (o.number ≡ p.number + 1) × (p.label ≡ o.label)
Took (Err e) o p =
    (p ≡ o) × ((l : ℕ) → check_tells e ≡ (13, l ∷ []) → (l ≡ o.label) × (o.number ≡ 0))

-- over an oracle whose checks are endless, every CHECK of a quota takes that much, and they stay
-- endless
abbrev pub QuotaTakes : {O : Type 0} → (O → Meaning) → Checks O → Type 0
QuotaTakes {O} meaning checks =
    (o p : Quota O) (s : ℕ) (r : CheckAnswer) → (meaning o.below).allowance ≡ None
    → QuotaChecks meaning checks o s r p → Took r o p × ((meaning p.below).allowance ≡ None)
