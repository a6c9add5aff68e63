use denote.Shadow.{shadow}
use denote.Text.{Utf8}
use Rattle.std.proofs.Common.{◌≡◌}
use Rattle.std.specs.Fmt.{HasWritten, IsPlainFormatter}
use Rattle.sets.specs.Sets.{bits_of}
use Rattle.report.specs.Texts.{with_commas}
use Rattle.report.proofs.Printed.{below, comma_after}
use Rattle.report.proofs.texts.NumbersDisplay.fmt.Given as goal

-- the comma is text, and stands where a request was printed; those below the next number are printed, with commas between them
abbrev pub invariant-loop-request : goal.invariant-loop-request
invariant-loop-request g l =
    shadow (Utf8 l.comma)
    × (l.comma ≡ comma_after (below l.request-counter (bits_of l.fn.self.0)))
    × (IsPlainFormatter l.fn.f → HasWritten g.W.Write.write_str_gives l.fn.f (with_commas (below l.request-counter (bits_of l.fn.self.0))) l.f)
