-- What the lines of a listing are at every moment, whole or not. Assumes nothing.
use Rattle.std.specs.Prelude.{◌≡◌, ◌≢◌, ℕ, ◌≤◌, Bool, true, List, [], ◌∷◌, length, Option, Some, None, IfSome}
use Rattle.std.specs.List.{All, AllPairs, Contains}
use Rattle.sets.specs.Sets.{bits_of}
use Rattle.listing.specs.Lines.{most_lines, relaxation, IsDue}
use Rattle.listing.specs.Words.{IsMaximal, IsPreferred}
use Rattle.listing.specs.declared.lines.Line.{Line}
use Rattle.listing.specs.declared.lines.Line.TheVariants.{Conflict, Relaxation}

-- of two lines that are relaxations the first goes before the second
abbrev pub Falls : (before : ℕ → ℕ → Bool) → Line → Line → Type 0
Falls before (Conflict c) y = Unit {0}
Falls before (Relaxation r) (Conflict c) = Unit {0}
Falls before (Relaxation r) (Relaxation q) = before (bits_of r) (bits_of q) ≡ true

-- the relaxations of a listing fall
abbrev pub RelaxationsFall : (before : ℕ → ℕ → Bool) → List Line → Type 0
RelaxationsFall before lines = AllPairs (Falls before) lines

-- every maximal relaxation that is not listed comes after every listed one
abbrev pub UnlistedFollow : (before : ℕ → ℕ → Bool) (width : ℕ) (fit : ℕ → Bool) → List Line → Type 0
UnlistedFollow before width fit lines =
    (m : ℕ) → IsMaximal width fit m → (Contains lines (relaxation m) → ⊥) → All (λ x. Falls before x (relaxation m)) lines

-- the conflict that is listed first, if one is
abbrev pub first_conflict : List Line → Option ℕ
first_conflict [] = None
first_conflict (Conflict c ∷ xs) = Some (bits_of c)
first_conflict (Relaxation r ∷ xs) = first_conflict xs

-- what holds of the lines at every moment: at most 512; none twice; each a minimal conflict or a maximal relaxation; the first conflict is
-- the preferred one; the relaxations fall, and every maximal one that is not listed comes after every listed one
pub record IsListing (before : ℕ → ℕ → Bool) (width : ℕ) (fit : ℕ → Bool) (lines : List Line) : Type 0 where
  pub few : length lines ≤ most_lines
  pub once : AllPairs (λ x y. x ≢ y) lines
  pub due : All (IsDue width fit) lines
  pub preferred : IfSome (first_conflict lines) (IsPreferred width fit)
  pub fall : RelaxationsFall before lines
  pub follow : UnlistedFollow before width fit lines
