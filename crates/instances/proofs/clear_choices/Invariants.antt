-- The slots of the nodes before this one have no choice any more.
-- Rests on nothing.
use mathlib.Core.Path.{◌≡◌}
use Rattle.instances.specs.Plan.{without_choices}
use Rattle.instances.proofs.clear_choices.Given as goal

abbrev pub invariant-loop-n : goal.invariant-loop-n
invariant-loop-n l = l.slots ≡ without_choices l.n l.initial.slots
