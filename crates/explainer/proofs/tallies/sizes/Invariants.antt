use Rattle.std.proofs.Common.{◌≡◌, take}
use Rattle.listing.specs.Bill.{sizes as all_sizes}
use Rattle.explainer.proofs.tallies.sizes.Given as goal

-- so far the sizes of the conflicts are added up
abbrev pub invariant-loop-line : goal.invariant-loop-line
invariant-loop-line l = l.total ≡ all_sizes (take l.line-index l.lines)
