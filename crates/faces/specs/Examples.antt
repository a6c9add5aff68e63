-- Three rules of faces, with sets of requests that are fit and one that is not. Assumes nothing.
use Rattle.std.specs.Prelude.{◌≡◌, ℕ, Bool, true, false, List, [], ◌∷◌}
use Rattle.sets.specs.Masks.{mask}
use Rattle.rules.specs.Made as made
use Rattle.rules.specs.declared.Rule.{Rule}
use Rattle.faces.specs.Verdict.{fit}

-- a rule of faces, by the number of its set
abbrev pub faces_rule : (owner : ℕ) → (odd : Bool) → (faces : ℕ) → Rule
faces_rule owner odd faces = made.faces_rule owner odd (mask faces)

-- of the faces 0, 1 and 2, request 1 wants just one of 0 and 1 at the back, request 2 just one of 1 and 2, and request 3 just one of 0 and 2
abbrev pub around : List Rule
around = faces_rule 1 true 3 ∷ faces_rule 2 true 6 ∷ faces_rule 3 true 5 ∷ []

-- any two of them can be met, as the first two by face 1 alone
abbrev pub TwoFit : Type 0
TwoFit = (fit around 3 ≡ true) × (fit around 5 ≡ true) × (fit around 6 ≡ true)

-- all three cannot
abbrev pub ThreeUnfit : Type 0
ThreeUnfit = fit around 7 ≡ false
