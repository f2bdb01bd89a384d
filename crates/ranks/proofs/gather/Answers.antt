-- The rows of ranks are those of the noted policies that name the node, but for the first ones that decide nothing.
-- Rests on what the rows tell, in Row.
use Rattle.ranks.proofs.Row.{left_bytes, columns_gathered}
use Rattle.ranks.proofs.gather.Goals as goal

pub gather_rows-requires-clause-bytes_at : goal.gather_rows-requires-clause-bytes_at
gather_rows-requires-clause-bytes_at c =
    left_bytes c.args.policies.now c.args.n c.requires c.offsets.ensures.is c.rank_count-columns.ensures c.skip_alike-offsets.ensures

pub returns : goal.returns
returns c =
    columns_gathered c.args.policies.now c.args.n c.requires c.offsets.ensures.is c.rank_count-columns.ensures c.skip_alike-offsets.ensures c.gather_rows.ensures
