-- A column that is none of the node's has rank 0; the PN that forbid another are those of the noted policies.
-- Rests on what the rows tell, in Row.
use Rattle.ranks.proofs.Row.{column_beyond, column_bytes, column_allowed}
use Rattle.ranks.proofs.is_allowed.Goals as goal

pub returns-then-rank_count-k : goal.returns-then-rank_count-k
returns-then-rank_count-k c = column_beyond c.args.policies.now c.args.n c.requires c.args.k c.rank_count.ensures c.if-rank_count-k.true

pub none_forbids-requires : goal.none_forbids-requires
none_forbids-requires c =
    column_bytes c.args.policies.now c.args.n c.requires c.offsets.ensures.is c.args.k c.rank_count.ensures c.if-rank_count-k.false

pub returns : goal.returns
returns c =
    column_allowed c.args.policies.now c.args.n c.requires c.offsets.ensures.is c.args.k c.rank_count.ensures c.if-rank_count-k.false c.none_forbids.ensures
