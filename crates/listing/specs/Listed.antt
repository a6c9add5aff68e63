-- A `Listing` as the list of its lines. Assumes nothing.
use Rattle.std.specs.Prelude.{cond, List, [], ◌∷◌, ◌++◌, length, nat_lt, Ok, Err, Result}
use Rattle.listing.specs.Lines.{most_lines}
use Rattle.listing.specs.declared.lines.Full.{Full}
use Rattle.listing.specs.declared.lines.Line.{Line}
use Rattle.listing.specs.declared.lines.Listing.{Listing}

-- its lines, in the order in which they were listed
abbrev pub lines_of : Listing → List Line
lines_of l = l.lines.items

-- the lines with one more, where there is room
abbrev pub with_one : List Line → Line → List Line
with_one lines x = cond (nat_lt (length lines) most_lines) (lines ++ x ∷ []) lines

-- whether there was
abbrev pub room_answer : List Line → Result (Unit {0}) Full
room_answer lines = cond (nat_lt (length lines) most_lines) (Ok tt) (Err (record {}))
