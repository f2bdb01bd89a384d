-- With the lines of the records left put from here, the buffer is what it shall be.
use Rattle.passplan.proofs.Printing.{Printing}
use Rattle.passplan.proofs.put_lines.Given as goal

abbrev pub invariant-loop-at : goal.invariant-loop-at
invariant-loop-at l = Printing l.schema l.policies l.from l.s l.initial.out l.out l.at l.to
