-- Tables of u16: a number that two bytes can hold stays what it is, and each element can be an offset.
-- Rests on the definition of `short`.
use mathlib.Core.Path.{◌≡◌}
use mathlib.Core.List.{List}
use Prim.Native.Nat.{ℕ, ◌<◌}
use native.Mathlib.Omega.{arith}
use lib.ListN.{get_or}
use mir.Val.{Fits}
use mir.Syntax.{w16, w64}
use Rattle.fields.specs.Shorts.{short}

pub short-is : (o : ℕ) → o < 65536 → short o ≡ o
unfolding short
short-is o h = omega arith

-- for a cast of an element to usize
pub element-wide : (t : List ℕ) (i : ℕ) → ((j : ℕ) → Fits w16 (get_or t j 0)) → Fits w64 (get_or t i 0)
element-wide t i h = let z = (h i).fits in record { fits = omega arith }
