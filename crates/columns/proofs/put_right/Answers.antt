-- The spaces of all columns, then the digits over the last of them.
-- Rests on the laws of `put`.
use Rattle.columns.proofs.Columns.{right_wrote}
use Rattle.columns.proofs.put_right.Goals as goal

pub returns : goal.returns
returns c = right_wrote _ _ _ c.requires.width_in_bounds (c.fill.ensures.after λ y e. e) _ c.requires.x_len_bound c.put_ending.ensures
