-- The bytes left to 2^63 fall at each turn, since a turn without any ends the run.
use Rattle.std.proofs.Common.{◌-◌, ◌≡◌, length}
use Rattle.passplan.proofs.run.Given as goal

abbrev pub invariant-loop-from : goal.invariant-loop-from
invariant-loop-from l = length l.out ≡ 65536

abbrev pub decreases-loop-from : goal.decreases-loop-from
decreases-loop-from l = 9223372036854775808 - l.from
