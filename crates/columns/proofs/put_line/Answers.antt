-- Node, choice, values and line feed, each from where the one before ended.
-- Rests on the laws of `put`.
use borrow.Author.Rules.{rules}
use lib.ListN.{length-set}
use Rattle.schema.proofs.Access.{node_small}
use Rattle.columns.proofs.Lengths.{node-short}
use Rattle.columns.proofs.Lines.{line_wrote}
use Rattle.columns.proofs.put_line.Goals as goal

pub put_right-requires-clause-x_len_bound : goal.put_right-requires-clause-x_len_bound
put_right-requires-clause-x_len_bound c = search (node-short, node_small)

pub shape_of-out : goal.shape_of-out
shape_of-out c = simp length-set (search rules)

pub returns : goal.returns
returns c = search line_wrote
