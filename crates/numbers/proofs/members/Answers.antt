-- At first all of the set's members are left.
-- Assumes nothing.
use mathlib.Core.Path.{refl}
use Rattle.numbers.specs.Members.{members_left}
use Rattle.numbers.proofs.members.Goals as goal

pub returns : goal.returns
unfolding members_left
returns c = refl
