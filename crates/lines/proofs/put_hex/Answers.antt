-- With the bytes from here on put, the buffer is what it shall be.
-- Rests on the laws of `put`.
use Rattle.std.proofs.Common.{rules}
use Rattle.lines.proofs.Writing.{hex_step}
use Rattle.lines.proofs.put_hex.Goals as goal

pub loop-byte-preserved : goal.loop-byte-preserved
loop-byte-preserved c = search (hex_step, rules)
