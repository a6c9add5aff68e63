-- Which calls of an oracle lead from one to another. Assumes nothing.
use Rattle.std.specs.Prelude.{◌≡◌, ◌≢◌, ℕ, Bool, List, [], ◌∷◌, None, Ok}
use Rattle.sets.specs.Requests.{Within}
use Rattle.sets.specs.Sets.{bits_of}
use Rattle.oracle.specs.Asking.{verdict}
use Rattle.oracle.specs.Calls.{Checks, Grants}
use Rattle.oracle.specs.Refused.{told, IsRefusedWith}
use Rattle.explainer.specs.Moments.{Answer}
use Rattle.explainer.specs.Refused.{next_tells, IsRefusedBy}
use Rattle.explainer.specs.declared.moments.Made.{Made}
use Rattle.explainer.specs.declared.moments.Made.TheVariants.{Next, Grant, Try, Tally}

-- a set that was checked, and whether the answer was that it is fit
abbrev pub Told : Type 0
Told = ℕ × Bool

-- CHECKs of these sets, one after the other and each answered so
abbrev pub Chain : {O : Type 0} → Checks O → O → List Told → O → Type 0
Chain checks o [] p = p ≡ o
Chain {O} checks o (x ∷ xs) p = (q : O) × checks o x.0 (Ok (verdict x.1)) q × Chain checks q xs p

-- what follows on the answered CHECKs of a NEXT that answers this: no call, where it is not refused
-- or refused with number 12; with any other number one CHECK of a set within the width, which is
-- refused with the same number and values
pub record Closes {O : Type 0} (width : ℕ) (checks : Checks O) (r : Answer) (o p : O) : Type 0 where
  pub answered : told next_tells r ≡ None → p ≡ o
  pub full : IsRefusedWith next_tells r 12 [] → p ≡ o
  pub refused : (number : ℕ) (values : List ℕ) → IsRefusedWith next_tells r number values
      → number ≢ 12 → (s : ℕ) × Within width s × IsRefusedBy checks o s r p

-- how a call led from one oracle to the next: NEXT by answered CHECKs, and what follows on them;
-- GRANT by one GRANT, TRY by one CHECK, TALLY by no call
abbrev pub LedOn : {O : Type 0} → (width : ℕ) → Checks O → Grants O → O → Made → (told : List Told)
    → O → Type 0
LedOn {O} width checks grants o (Next r) told p =
    (m : O) × Chain checks o told m × Closes width checks r m p
LedOn width checks grants o (Grant k r) told p = grants o k r p × (told ≡ [])
LedOn width checks grants o (Try set r) told p = checks o (bits_of set) r p × (told ≡ [])
LedOn width checks grants o (Tally t) told p = (p ≡ o) × (told ≡ [])
