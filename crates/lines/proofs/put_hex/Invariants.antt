-- With the bytes from here on put, the buffer is what it shall be.
use Rattle.lines.proofs.Writing.{PuttingHex}
use Rattle.lines.proofs.put_hex.Given as goal

abbrev pub invariant-loop-byte : goal.invariant-loop-byte
invariant-loop-byte l = PuttingHex l.initial.out l.from l.bytes l.out l.at l.byte-index
