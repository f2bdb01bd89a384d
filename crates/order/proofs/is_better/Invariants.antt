-- What the rows from here on decide is what all decide.
use mathlib.Core.Path.{◌≡◌}
use lib.ListN.{drop}
use Rattle.model.specs.Ranks.{better_in}
use Rattle.order.proofs.is_better.Given as goal

abbrev pub invariant-loop-row : goal.invariant-loop-row
invariant-loop-row l = better_in (drop l.row-index l.ranks) l.p l.q ≡ better_in l.ranks l.p l.q
