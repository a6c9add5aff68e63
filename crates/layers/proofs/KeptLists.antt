-- A test of the kept sets is a test of their numbers. Assumes nothing.
use Rattle.std.specs.Prelude.{◌≡◌, ℕ, Bool, ◌||◌, List, [], ◌∷◌, map, refl}
use Rattle.std.specs.List.{list_any}
use Rattle.std.proofs.Common.{ap}
use Rattle.sets.specs.Sets.{bits_of}
use Rattle.sets.specs.declared.Members.{Members}

pub any_of_bits : (test : ℕ → Bool) (sets : List (Members 1)) → list_any (λ s. test (bits_of s)) sets ≡ list_any test (map bits_of sets)
any_of_bits test [] = refl
any_of_bits test (s ∷ ss) = ap (λ b. test (bits_of s) || b) (any_of_bits test ss)
