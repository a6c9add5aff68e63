use Rattle.listing.proofs.SeedBack.{IsBack}
use Rattle.listing.proofs.seeds.leave.Given as goal

-- so many of the last requests are gone through
abbrev pub invariant-loop-after : goal.invariant-loop-after
invariant-loop-after l = IsBack l.fn.width l.fn.lines l.fn.top.bits l.after l.kept.bits l.free.bits
