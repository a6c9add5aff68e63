use Rattle.std.proofs.Common.{◌++◌, take, codes, decimal}
use Rattle.std.specs.Fmt.{HasWritten, IsPlainFormatter}
use Rattle.report.specs.Texts.{lines_text}
use Rattle.report.proofs.texts.ReportDisplay.fmt.Given as goal

-- the first line of the report is printed, and then the lines up to this one
abbrev pub invariant-loop-line : goal.invariant-loop-line
invariant-loop-line g l =
    IsPlainFormatter l.fn.f
    → HasWritten g.W.Write.write_str_gives l.fn.f
    (codes "requests=" ++ (decimal l.fn.self.requests ++ (codes "\n" ++ lines_text (take l.line-index l.line-items)))) l.f
