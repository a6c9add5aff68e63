use Rattle.std.proofs.Common.{◌≡◌, ◌++◌, ℕ, List}
use Rattle.std.specs.Io.KnownBytes.{Appends}
use Rattle.streams.proofs.writing.write_through.Given as goal

-- what was sent and what is left are all
abbrev pub invariant-loop : goal.invariant-loop
invariant-loop g l = record {
  sent : List ℕ;
  whole : sent ++ l.rest ≡ l.bytes;
  written : Appends (g.W.Write.contents l.fn.writer) (g.W.Write.contents l.writer) sent;
}
