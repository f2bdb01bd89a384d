-- Offsets as a table of u16 holds them.
use Rattle.std.specs.Prelude.{ℕ, ◌%◌}

-- a number as two bytes hold it; every offset in an accepted file is below 65,536
unfoldable pub short : ℕ → ℕ
short o = o % 65536
