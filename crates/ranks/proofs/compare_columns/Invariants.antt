-- The offsets from here on are left to compare.
use mathlib.Core.Path.{◌≡◌}
use lib.ListN.{drop}
use Rattle.ranks.specs.Ranks.{order_by, rank_at}
use Rattle.ranks.proofs.compare_columns.Given as goal

abbrev pub invariant-loop-at : goal.invariant-loop-at
invariant-loop-at l = order_by (rank_at l.p l.columns) (drop l.at-index l.offsets) l.c l.d ≡ order_by (rank_at l.p l.columns) l.offsets l.c l.d
