-- Whether a set is explored, as a test of some line; and what is kept of each line, in turn. Assumes nothing.
use Rattle.std.proofs.Common.{◌≡◌, ℕ, ◌||◌, List, [], ◌∷◌, refl, ap}
use Rattle.std.specs.List.{list_any}
use Rattle.std.proofs.lemmas.Grind.{common_steps}
use Rattle.std.proofs.lemmas.List.Elements.{filter_map-append}
use Rattle.listing.specs.Lines.{explores, explored}
use Rattle.listing.specs.declared.lines.Line.{Line}

pub any_explores : (lines : List Line) (s : ℕ) → list_any (λ line. explores line s) lines ≡ explored lines s
any_explores [] s = refl
any_explores (x ∷ xs) s = ap (λ b. explores x s || b) (any_explores xs s)

-- what a loop over lines needs that keeps something of some of them
pub ruleset kept_in_turn = (common_steps, filter_map-append)
