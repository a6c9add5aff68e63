-- What a listing is to name, over a width and a verdict. Assumes nothing.
use Rattle.std.specs.Prelude.{◌≡◌, ◌≢◌, ℕ, ◌<◌, Bool, true, false}
use Rattle.sets.specs.Requests.{Within, Part, blame}

-- t is a part of s, and not all of it
abbrev pub IsProperPart : (t s : ℕ) → Type 0
IsProperPart t s = Part t s × (t ≢ s)

-- an unfit set is a conflict
abbrev pub IsConflict : (width : ℕ) (fit : ℕ → Bool) (s : ℕ) → Type 0
IsConflict width fit s = Within width s × (fit s ≡ false)

-- which is minimal if every proper part of it is fit
abbrev pub IsMinimal : (width : ℕ) (fit : ℕ → Bool) (s : ℕ) → Type 0
IsMinimal width fit s = IsConflict width fit s × ((t : ℕ) → IsProperPart t s → fit t ≡ true)

-- a fit set is a relaxation
abbrev pub IsRelaxation : (width : ℕ) (fit : ℕ → Bool) (s : ℕ) → Type 0
IsRelaxation width fit s = Within width s × (fit s ≡ true)

-- which is maximal if every set within the width that properly contains it is unfit
abbrev pub IsMaximal : (width : ℕ) (fit : ℕ → Bool) (s : ℕ) → Type 0
IsMaximal width fit s = IsRelaxation width fit s × ((t : ℕ) → Within width t → IsProperPart s t → fit t ≡ false)

-- the preferred conflict has less blame weight than any other
abbrev pub IsPreferred : (width : ℕ) (fit : ℕ → Bool) (s : ℕ) → Type 0
IsPreferred width fit s = IsConflict width fit s × ((t : ℕ) → IsConflict width fit t → (t ≢ s) → blame s < blame t)
