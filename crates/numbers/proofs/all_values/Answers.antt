-- Below 32 the shifted one less one is the mask; at 32 it is all ones.
-- Rests on ones-room, ones-part and ones-whole.
use Rattle.numbers.proofs.Bits.{ones-room, ones-part, ones-whole}
use Rattle.numbers.proofs.all_values.Goals as goal

pub overflow_sub-result : goal.overflow_sub-result
overflow_sub-result c = search ones-room

pub returns-then-size-lt32 : goal.returns-then-size-lt32
returns-then-size-lt32 c = search ones-part

pub returns-else-size-lt32 : goal.returns-else-size-lt32
returns-else-size-lt32 c = search ones-whole
