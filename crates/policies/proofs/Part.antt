-- The part of a file from an offset on, as a callee is lent it.
-- Rests on the library's law of a take that takes all.
use mathlib.Core.Path.{◌≡◌}
use mathlib.Core.List.{List}
use Prim.Native.Nat.{ℕ, ◌-◌}
use native.Mathlib.Omega.{arith}
use lib.ListN.{length, take, drop, length-drop}
use lib.Seq.{take_all}

-- what a callee of `f(&s[h..])` is lent
pub rest : (s : List ℕ) (h : ℕ) → take (length s - h) (drop h s) ≡ drop h s
rest s h = take_all (length s - h) (drop h s) (simp length-drop (omega arith))
