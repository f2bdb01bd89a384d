-- Bits of a number: a mask has those of the values that it admits, a set of nodes those of its nodes, below 64.
use Rattle.std.specs.Prelude.{ℕ, ◌/◌, ◌%◌, ◌^◌, ◌-◌, List, [], ◌∷◌, Bool, cond, ltb, eqb}
use Rattle.std.specs.Int.Bits.{bit_or, bit_xor}
use Rattle.std.specs.Int.Count.{ones as set_digits}

-- 'bit i (worth 2^i)'
unfoldable pub bit : ℕ → ℕ → Bool
bit m i = eqb (m / 2 ^ i % 2) 1

-- the mask of all values below size
unfoldable pub ones : ℕ → ℕ
ones size = 2 ^ size - 1

-- m with bit x set, if x is below 64
unfoldable pub with : ℕ → ℕ → ℕ
with m x = cond (ltb x 64) (bit_or m (2 ^ x)) m

-- m with bit x turned, if x is below 64
unfoldable pub turned : ℕ → ℕ → ℕ
turned m x = cond (ltb x 64) (bit_xor m (2 ^ x)) m

-- m with bit x cleared, if x is below 64
unfoldable pub without : ℕ → ℕ → ℕ
without m x = turned (with m x) x

-- m with every bit of a list set
unfoldable pub with_all : ℕ → List ℕ → ℕ
with_all m [] = m
with_all m (x ∷ xs) = with_all (with m x) xs

-- how many bits of m are set: how many nodes a set has
unfoldable pub cardinality : ℕ → ℕ
cardinality m = set_digits m
