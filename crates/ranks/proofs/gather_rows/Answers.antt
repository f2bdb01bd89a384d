-- At the end each offset has its row.
-- Rests on rows_done.
use Rattle.ranks.proofs.Gathering.{rows_done}
use Rattle.ranks.proofs.gather_rows.Goals as goal

pub returns : goal.returns
returns c =
    rows_done c.args.p.now c.args.offsets.now c.args.columns c.loop-r.r c.loop-r.ranks c.loop-r.invariant c.requires.bytes_at c.loop-r-test.false
