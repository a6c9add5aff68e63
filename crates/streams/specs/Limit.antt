-- How many bytes are taken, and that so many are enough. Assumes nothing.
use Rattle.std.specs.Prelude.{◌≡◌, ℕ, ◌+◌, ◌≤◌, List, length, take, Option}
use Rattle.std.specs.Io.KnownBytes.{Consumes}
use Rattle.ticket.specs.Reading.{longest}
use Rattle.report.specs.Explained.{explained}

-- one byte more than a ticket may have, so that a longer input is seen to be longer
abbrev pub most_taken : ℕ
most_taken = longest + 1

-- what is answered to some bytes is answered to the first of them, as many as are taken
abbrev pub LimitIsEnough : Type 0
LimitIsEnough = (xs : List ℕ) → explained xs ≡ explained (take most_taken xs)

-- of the known bytes that a reader has left, so many at most are taken
abbrev pub TakesAtMost : (most : ℕ) → (before after : Option (List ℕ)) → Type 0
TakesAtMost most before after =
    (taken : List ℕ) × (length taken ≤ most) × Consumes before after taken
