-- What the steps of the search for faces give. Assumes nothing.
-- These are steps of a search, which only private functions promise; what it finds is said in words of choices, in specs/Found.antt of `rules`.
use Rattle.std.specs.Prelude.{ℕ, List, Option}
use Rattle.std.specs.Option.{option_map}
use Rattle.faces.specs.declared.sums.Sums.{Sums}

-- the sums after a step, if it went well
abbrev pub sums_after : Option (Unit {0}) → Sums → Option (List ℕ)
sums_after o after = option_map (λ u. after.of) o
