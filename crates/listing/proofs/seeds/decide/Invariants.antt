use Rattle.std.proofs.Common.{◌<◌}
use Rattle.listing.specs.Deciding.{IsBest}
use Rattle.listing.proofs.seeds.decide.Given as goal

-- the requests below this one are decided
abbrev pub invariant-loop-request : goal.invariant-loop-request
invariant-loop-request l = (0 < l.request) × IsBest l.fn.width l.fn.lines l.request l.free.bits l.kept.bits l.best.bits
