-- The stretch of the file that begins at an offset of a row, as a callee is lent it.
-- Rests on the laws of lists.
use mathlib.Core.List.{List}
use Prim.Native.Nat.{ℕ, ◌-◌, ◌≤◌, ◌<◌}
use native.Mathlib.Omega.{arith}
use lib.ListN.{length, get_or, take, drop, length-drop}
use Rattle.policies.specs.Rows.{BytesAt}
use Rattle.policies.proofs.Part.{rest}

abbrev pub stretch : List ℕ → ℕ → List ℕ
stretch p o = take (length p - o) (drop o p)

-- that of row r begins inside the file, and has the bytes
module _ (p offsets : List ℕ) (r width : ℕ) (b : BytesAt p offsets width) (h : r < length offsets) where
  pub stretch_inside : get_or offsets r 0 ≤ length p
  stretch_inside = omega (arith, b.each r h)

  pub stretch_room : width ≤ length (stretch p (get_or offsets r 0))
  stretch_room = rw (rest p (get_or offsets r 0)) (omega (arith, b.each r h, length-drop (get_or offsets r 0) p))
