-- A mark that is lifted goes to the higher of two places. Assumes nothing.
use Rattle.std.proofs.Common.{◌≡◌, ℕ, true, false, cond, List, set, ℤ, pos, refl}
use Rattle.std.specs.Int.{int_max}
use lib.Signed.{lt_z}
use Rattle.std.proofs.lemmas.List.{set-get_or}
use Rattle.rules.specs.Choices.{place}
use Rattle.rules.specs.Rounds.{lifted}

pub lifted_max : (b : ℕ) (to : ℤ) (ps : List ℤ) → set ps b (int_max to (place ps b)) ≡ lifted b to ps
lifted_max b to ps =
    elim (lt_z (place ps b) to) as (λ t. set ps b (cond t to (place ps b)) ≡ cond t (set ps b to) ps)
    [ true ↦ refl | false ↦ set-get_or ps b (pos 0) ]
