-- The members of a set of nodes, ascending, and those that an iterator has still to give.
use Rattle.std.specs.Prelude.{ℕ, List, filter}
use Rattle.std.specs.List.{range_with_len}
use Rattle.numbers.specs.Bits.{bit}
use Rattle.numbers.specs.declared.MembersLeft.{MembersLeft}

unfoldable pub members : ℕ → List ℕ
members m = filter (bit m) (range_with_len 0 64)

unfoldable pub members_left : MembersLeft → List ℕ
members_left s = members s.left
