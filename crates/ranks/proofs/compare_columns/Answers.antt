-- The first PN whose ranks differ decides.
-- Rests on the laws of a turn, in Comparing.
use Rattle.std.proofs.Common.{rules}
use Rattle.ranks.proofs.Comparing.{compare_differ, compare_alike}
use Rattle.ranks.proofs.compare_columns.Goals as goal

pub returns-then-ne : goal.returns-then-ne
returns-then-ne c = search (rules, compare_differ)

pub loop-at-preserved : goal.loop-at-preserved
loop-at-preserved c = search (rules, compare_alike)
