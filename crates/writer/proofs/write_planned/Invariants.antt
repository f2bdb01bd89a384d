-- The entries to come are of the nodes that are left; with them put from here, and the head before them, the buffer is what it shall be.
use Rattle.numbers.specs.Members.{members_left}
use Rattle.instances.proofs.Walk.{Walk}
use Rattle.writer.proofs.Writer.{PuttingEntries}
use Rattle.writer.proofs.write_planned.Given as goal

abbrev pub invariant-loop-n : goal.invariant-loop-n
invariant-loop-n l = Walk l.schema.bytes.now l.slots (PuttingEntries l.schema.bytes.now l.slots l.initial.out l.at l.count l.out) (members_left l.n-iterator)
