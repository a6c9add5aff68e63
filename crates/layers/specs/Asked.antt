-- What a call of a layer asks of the oracles below it in terms of what they mean, and what it
-- leaves of the layer. Assumes nothing.
use Rattle.std.specs.Prelude.{◌≡◌, ℕ, zero, suc, ◌+◌, ◌-◌, min, Bool, false, cond, not, ◌&&◌, List, [], ◌∷◌, ◌++◌, length, Some, None, Ok, Err, Option, nat_le, nat_lt}
use Rattle.sets.specs.Requests.{within}
use Rattle.oracle.specs.Asking.{nought, verdict, Checked}
use Rattle.oracle.specs.Branching.{If}
use Rattle.oracle.specs.Calls.{CheckAnswer}
use Rattle.oracle.specs.Meaning.{Meaning, limit}
use Rattle.oracle.specs.Refused.{check_tells, IsRefusedWith}
use Rattle.layers.specs.Layered.{known}

-- whether an answer is that the set is fit
abbrev pub says_fit : CheckAnswer → Bool
says_fit (Ok v) = v.fit
says_fit (Err e) = false

-- Both: the left is asked, and then the right if the left said fit
abbrev pub InTurn : (l r : Meaning) → ℕ → CheckAnswer → (l' r' : Meaning) → Type 0
InTurn l r s answer l' r' =
    (first : CheckAnswer) × Checked l s first l'
    × If (says_fit first) (Checked r s answer r') ((answer ≡ first) × (r' ≡ r))

-- Both: whether the right has nought and the left has not
abbrev pub only_right_spent : (l r : Meaning) → Bool
only_right_spent l r = not (nought l.allowance) && nought r.allowance

-- Both: where only the right has nought, only the right is asked
abbrev pub BothAsked : (l r : Meaning) → ℕ → CheckAnswer → (l' r' : Meaning) → Type 0
BothAsked l r s answer l' r' =
    If (only_right_spent l r) (Checked r s answer r' × (l' ≡ l)) (InTurn l r s answer l' r')

-- Both: a set outside the width is refused, and neither side is asked
abbrev pub BothChecked : (l r : Meaning) → ℕ → CheckAnswer → (l' r' : Meaning) → Type 0
BothChecked l r s answer l' r' =
    If (within (min l.width r.width) s)
    (BothAsked l r s answer l' r')
    (IsRefusedWith check_tells answer 10 [] × (l' ≡ l) × (r' ≡ r))

-- Quota: one less after an answer
abbrev pub one_less : CheckAnswer → ℕ → ℕ
one_less (Ok v) number = number - 1
one_less (Err e) number = number

-- Quota: at nought it refuses with its own label; otherwise it asks below
abbrev pub QuotaAsked : (number label : ℕ) → Meaning → ℕ → CheckAnswer → (number' : ℕ) → Meaning → Type 0
QuotaAsked zero label m s answer number' m' =
    IsRefusedWith check_tells answer 13 (label ∷ []) × (number' ≡ zero) × (m' ≡ m)
QuotaAsked (suc n) label m s answer number' m' =
    Checked m s answer m' × (number' ≡ one_less answer (suc n))

-- Quota: a set outside the width is refused, and nothing changes
abbrev pub QuotaChecked : (number label : ℕ) → Meaning → ℕ → CheckAnswer → (number' : ℕ) → Meaning
    → Type 0
QuotaChecked number label m s answer number' m' =
    If (within m.width s)
    (QuotaAsked number label m s answer number' m')
    (IsRefusedWith check_tells answer 10 [] × (number' ≡ number) × (m' ≡ m))

-- Quota: its number after a grant, cut at the limit; a grant that is refused leaves it
abbrev pub number_granted : (k number : ℕ) → ℕ
number_granted k number = cond (nat_le k limit) (min (number + k) limit) number

-- the most sets that Cover keeps of each verdict
abbrev pub most_kept : ℕ
most_kept = 64

-- Cover: one set more, behind the others, unless there is no room
abbrev pub kept_one : ℕ → List ℕ → List ℕ
kept_one s ks = cond (nat_lt (length ks) most_kept) (ks ++ (s ∷ [])) ks

-- Cover: the fit sets that are kept after an answer from below
abbrev pub fits_after : CheckAnswer → ℕ → List ℕ → List ℕ
fits_after (Ok v) s fits = cond v.fit (kept_one s fits) fits
fits_after (Err e) s fits = fits

-- and the unfit sets
abbrev pub unfits_after : CheckAnswer → ℕ → List ℕ → List ℕ
unfits_after (Ok v) s unfits = cond v.fit unfits (kept_one s unfits)
unfits_after (Err e) s unfits = unfits

-- Cover: what the kept sets decide is answered, and nothing below is asked; otherwise it asks below
-- and keeps the set with its answer
abbrev pub CoverAsked : Option Bool → (fits unfits : List ℕ) → Meaning → ℕ → CheckAnswer
    → (fits' unfits' : List ℕ) → Meaning → Type 0
CoverAsked (Some v) fits unfits m s answer fits' unfits' m' =
    (answer ≡ Ok (verdict v)) × (fits' ≡ fits) × (unfits' ≡ unfits) × (m' ≡ m)
CoverAsked None fits unfits m s answer fits' unfits' m' =
    Checked m s answer m' × (fits' ≡ fits_after answer s fits)
    × (unfits' ≡ unfits_after answer s unfits)

-- where nothing is left the kept sets do not decide
abbrev pub deciding : (fits unfits : List ℕ) → Meaning → ℕ → Option Bool
deciding fits unfits m s = cond (nought m.allowance) None (known fits unfits s)

-- Cover: a set outside the width is refused, and nothing changes
abbrev pub CoverChecked : (fits unfits : List ℕ) → Meaning → ℕ → CheckAnswer → (fits' unfits' : List ℕ)
    → Meaning → Type 0
CoverChecked fits unfits m s answer fits' unfits' m' =
    If (within m.width s)
    (CoverAsked (deciding fits unfits m s) fits unfits m s answer fits' unfits' m')
    (IsRefusedWith check_tells answer 10 [] × (fits' ≡ fits) × (unfits' ≡ unfits) × (m' ≡ m))
