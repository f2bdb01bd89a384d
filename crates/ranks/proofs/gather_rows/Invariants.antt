-- The rows so far have the ranks at the offsets so far.
use Rattle.ranks.proofs.Gathering.{Rows}
use Rattle.ranks.proofs.gather_rows.Given as goal

abbrev pub invariant-loop-r : goal.invariant-loop-r
invariant-loop-r l = Rows l.p l.offsets l.columns l.r l.ranks
