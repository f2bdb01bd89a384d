-- What was summed and the widths from variable k on make the whole.
-- Rests on what the schema's methods answer.
use borrow.Author.Rules.{rules}
use Rattle.lookup.proofs.Lookup.{summed_init, summed_step, summed_fits, summed_exit}
use Rattle.lookup.proofs.values_width.Goals as goal

pub loop-k-init : goal.loop-k-init
loop-k-init c = search summed_init

pub overflow_add-width : goal.overflow_add-width
overflow_add-width c = search (summed_fits, rules)

pub loop-k-preserved : goal.loop-k-preserved
loop-k-preserved c = search (summed_step, rules)

pub returns : goal.returns
returns c = search summed_exit
