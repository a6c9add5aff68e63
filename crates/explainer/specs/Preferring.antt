-- In which order relaxations are listed. Assumes nothing.
use Rattle.std.specs.Prelude.{ℕ, Bool}
use Rattle.listing.specs.Orders.{IsOrder, keeps_more}

-- for each width, which of two sets goes before the other
abbrev pub Order : Type 0
Order = (width s t : ℕ) → Bool

-- at each width it is total, and a set goes before each of its proper parts
abbrev pub AreOrders : Order → Type 0
AreOrders order = (width : ℕ) → IsOrder width (order width)

-- relaxations are listed by keep weight; the other definitions of this crate take any order, and the
-- lemmas any that is one
abbrev pub preferring : Order
preferring = keeps_more
