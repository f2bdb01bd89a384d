-- The spaces of all columns, the digits over the last of them, and the sign before the digits.
-- Rests on the laws of `put`.
use borrow.Author.Rules.{rules}
use lib.ListN.{length-set}
use Rattle.columns.proofs.Columns.{negative_wrote}
use Rattle.columns.proofs.put_negative.Goals as goal

pub shape_of-out : goal.shape_of-out
shape_of-out c = simp length-set (search rules)

pub returns : goal.returns
returns c = negative_wrote _ _ _ c.requires.width_in_bounds (c.fill.ensures.after λ y e. e) _ c.requires.x_len_bound c.put_ending-first.ensures c.put_ending-first.auto.out
