-- The PN read so far stand in a row, and are walked over.
-- Rests on the laws of PN in a row.
use Rattle.std.proofs.Common.{◌∙◌, sym, arith}
use Rattle.policy_reader.proofs.Rules.{row_init, row_offset, row_step}
use Rattle.policy_reader.proofs.take_row.Goals as goal

pub loop-low-init : goal.loop-low-init
loop-low-init c = search row_init

pub overflow_add-head-in-loop-low : goal.overflow_add-head-in-loop-low
overflow_add-head-in-loop-low c = omega (arith, row_offset _ _ _ _ _ _ _ _ _ _ _ c.loop-low.invariant (omega arith) c.requires.shapes (sym c.is_next.ensures ∙ c.if-not-is_next.false))

pub loop-low-preserved : goal.loop-low-preserved
loop-low-preserved c =
    row_step _ _ _ _ _ _ _ _ _ _ _ c.loop-low.invariant (omega arith) c.requires.shapes (sym c.is_next.ensures ∙ c.if-not-is_next.false) c.from-width.ensures c.note_if.ensures
