-- What holds of orders and of the foremost set. Assumes nothing.
use Rattle.std.specs.Prelude.{◌≡◌, ℕ, Bool, List, Some, None, ◌↔◌}
use Rattle.listing.specs.Lines.{IsUnexplored, NothingLeft}
use Rattle.listing.specs.Orders.{IsOrder, keeps_more, IsForemost, foremost}
use Rattle.listing.specs.declared.lines.Line.{Line}

-- that of keep weight is an order
abbrev pub KeepOrders : Type 0
KeepOrders = (width : ℕ) → IsOrder width (keeps_more width)

-- in any order a set is told as the foremost exactly where it is the foremost of the unexplored ones
abbrev pub ForemostIs : Type 0
ForemostIs =
    (before : ℕ → ℕ → Bool) (width : ℕ) (lines : List Line) (s : ℕ) → IsOrder width before
    → (foremost before width lines ≡ Some s) ↔ IsForemost before (IsUnexplored width lines) s

-- and none is told exactly where nothing is left
abbrev pub ForemostNone : Type 0
ForemostNone =
    (before : ℕ → ℕ → Bool) (width : ℕ) (lines : List Line) → IsOrder width before
    → (foremost before width lines ≡ None) ↔ NothingLeft width lines

-- all of these
abbrev pub OrderLaws : Type 0
OrderLaws = KeepOrders × ForemostIs × ForemostNone
