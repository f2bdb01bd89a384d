-- The line says what the call answered; its instance is what the buffer begins with.
-- Rests on the reconciler's and put_answer_line's contracts: a length answered is within the buffer.
use Rattle.passplan.proofs.Printing.{value_inside, ok_laid, err_laid}
use Rattle.passplan.proofs.put_pass.Goals as goal

pub slice_bounds-put_answer_line-end : goal.slice_bounds-put_answer_line-end
slice_bounds-put_answer_line-end c = value_inside _ _ _ _ _ c.in-Ok.ensures

pub returns-in-Ok : goal.returns-in-Ok
returns-in-Ok c = ok_laid _ _ _ _ _ c.in-Ok.ensures _ _ c.put_answer_line.ensures c.requires.instance_len

pub returns-in-Err : goal.returns-in-Err
returns-in-Err c = err_laid _ _ _ _ _ c.in-Err.ensures _ _ c.put_answer_line-in-Err.ensures
