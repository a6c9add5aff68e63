use Rattle.std.proofs.Common.{◌≡◌, vec_len}
use Rattle.listing.proofs.seeds.Room.new.Given as goal

-- so far as many lists are made
abbrev pub invariant-loop-level : goal.invariant-loop-level
invariant-loop-level l = vec_len l.levels ≡ l._level
