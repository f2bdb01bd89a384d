-- With the lines of the records left put from here, the buffer is what it shall be.
-- Rests on the laws of `put` and on put_answer's contract.
use Rattle.std.proofs.Common.{rules}
use Rattle.passplan.proofs.Printing.{printing_break, printing_step, printing_last}
use Rattle.passplan.proofs.put_lines.Goals as goal

pub returns-in_err-to : goal.returns-in_err-to
returns-in_err-to c =
    search (printing_break _ _ _ _ _ _ _ _ c.loop-at.invariant c.loop-at-test.true c.requires.s_len c.in_err-to.ensures, rules)

pub loop-at-preserved : goal.loop-at-preserved
loop-at-preserved c =
    printing_step _ _ _ _ _ _ _ _ c.loop-at.invariant c.loop-at-test.true c.requires.s_len c.in_ok-to.ensures c.requires.most_in_bounds

pub returns-in_ok-to : goal.returns-in_ok-to
returns-in_ok-to c =
    search (printing_last _ _ _ _ _ _ _ _ c.loop-at.invariant c.loop-at-test.true c.requires.s_len c.in_ok-to.ensures, rules)
