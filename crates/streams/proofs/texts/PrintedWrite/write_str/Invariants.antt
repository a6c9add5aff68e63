use Rattle.std.proofs.Common.{◌≡◌, ◌++◌, take}
use Rattle.streams.proofs.texts.PrintedWrite.write_str.Given as goal

-- what was pushed is the beginning of the piece
abbrev pub invariant-loop-byte : goal.invariant-loop-byte
invariant-loop-byte l =
    l.self.bytes.items ≡ l.fn.self.bytes.items ++ take l.byte-index l.byte-items
