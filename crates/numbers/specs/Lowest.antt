-- The lowest bit that is set, of a number below 2 ^ k.
use Rattle.std.specs.Prelude.{◌≡◌, ℕ, ◌<◌}
use Rattle.std.specs.Int.Count.{count_trailing_zeros}

pub record Lowest (k m r : ℕ) : Type 0 where
  pub is : r ≡ count_trailing_zeros k m
  pub small : r < k
