-- Texts of the cases as lists of numbers: the bytes that 01 writes in hex.
-- Rests on what hex digits say (ReadBack).
use mathlib.Core.Bool.{cond, ◌&&◌}
use mathlib.Core.List.{List, [], ◌∷◌}
use Prim.Native.Nat.{ℕ, ◌+◌}
use Prim.Native.String.{String}
use lib.Dec.{leb, eqb}
use Rattle.decimals.proofs.Texts.{codes}
use Rattle.lines.proofs.ReadBack.{bytes_of}

-- without spaces, and a to f for A to F
unfoldable pub lowered : List ℕ → List ℕ
lowered [] = []
lowered (c ∷ cs) = cond (eqb c 32) (lowered cs) (cond (leb 65 c && leb c 70) (c + 32) c ∷ lowered cs)

-- the bytes that a text says in hex
unfoldable pub bytes : String → List ℕ
bytes s = bytes_of (lowered (codes s))
