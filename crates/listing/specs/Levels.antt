-- How many lists a search works in. Assumes nothing.
use Rattle.std.specs.Prelude.{ℕ, ◌+◌}
use Rattle.sets.specs.Requests.{widest}

-- the conflicts, the drops, and one list for each request that is decided
abbrev pub most_levels : ℕ
most_levels = 2 + widest
