-- A `Search` as the list of its lines. Assumes nothing.
use Rattle.std.specs.Prelude.{List}
use Rattle.listing.specs.Listed.{lines_of}
use Rattle.listing.specs.declared.lines.Line.{Line}
use Rattle.listing.specs.declared.seeds.Search.{Search}

-- its lines, in the order in which they were listed
abbrev pub lines_in : Search → List Line
lines_in s = lines_of s.listing
