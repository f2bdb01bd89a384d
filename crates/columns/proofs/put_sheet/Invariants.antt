-- With the lines of the entries to come put from here, the buffer is what it shall be.
use Rattle.numbers.specs.Members.{members_left}
use Rattle.instances.proofs.Walk.{Walk}
use Rattle.columns.proofs.Lines.{PuttingLines}
use Rattle.columns.proofs.put_sheet.Given as goal

abbrev pub invariant-loop-n : goal.invariant-loop-n
invariant-loop-n l = Walk l.schema.bytes.now l.slots (PuttingLines l.schema.bytes.now l.slots l.initial.out l.at l.out) (members_left l.n-iterator)
