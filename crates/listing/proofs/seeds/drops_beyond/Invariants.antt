use Rattle.std.proofs.Common.{◌≡◌, ◌≤◌, length, take}
use Rattle.listing.specs.Settling.{drops_of}
use Rattle.listing.proofs.seeds.drops_beyond.Given as goal

-- so far what the relaxations leave out is kept, no more than there were lines
abbrev pub invariant-loop-line : goal.invariant-loop-line
invariant-loop-line l = (l.drops.items ≡ drops_of l.kept.bits l.free.bits (take l.line-index l.lines)) × (length l.drops.items ≤ l.line-index)
