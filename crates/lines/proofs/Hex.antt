-- The digit of half a byte, from the code's test; two digits a byte.
-- Rests on the definitions of `hex_digit` and `hex`.
use mathlib.Core.Path.{◌≡◌, refl}
use mathlib.Core.List.{List, [], ◌∷◌}
use Prim.Native.Nat.{ℕ, ◌+◌, ◌*◌, ◌≤◌, ◌<◌}
use native.Mathlib.Omega.{arith}
use borrow.Author.Tests.{lt-ltb, le-ltb}
use lib.ListN.{length}
use Rattle.lines.specs.Line.{hex_digit, hex}

pub digit_low : (n : ℕ) → n < 10 → 48 + n ≡ hex_digit n
unfolding hex_digit
digit_low n h = rw (lt-ltb n 10 h)

pub digit-high : (n : ℕ) → 10 ≤ n → 87 + n ≡ hex_digit n
unfolding hex_digit
digit-high n h = rw (le-ltb n 10 h)

pub hex-length : (bs : List ℕ) → length (hex bs) ≡ 2 * length bs
unfolding hex
hex-length [] = refl
hex-length (b ∷ bs) = let e = hex-length bs in omega arith
