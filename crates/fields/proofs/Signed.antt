-- Two's complement at 32 bits: below 2^31 a number is itself, from there on it is counted down from -1.
-- Rests on the library's `to_z` and `of_z`.
use mathlib.Core.Path.{◌≡◌, refl, ap, sym, ◌∙◌}
use mathlib.Core.Bool.{true, false}
use Prim.Native.Nat.{ℕ, zero, suc, ◌-◌, ◌^◌, ◌≤◌, ◌<◌}
use native.Mathlib.Omega.{arith}
use native.Mathlib.Nat.{not-suc-le-zero}
use borrow.Author.Tests.{ltb-true, le-ltb}
use lib.IntN.{ℤ, pos, negsuc, ◌-ℤ◌}
use lib.Signed.{lt_z, mag}
use mir.Syntax.{w32}
use mir.Val.{to_z, of_z, SFits}
use mir.ValLaws.{to_z_pos, to_z-of_z, of_z-to_z, of_z_fits}
use Rattle.fields.specs.Reading.{signed}
use Rattle.fields.specs.Writing.{unsigned}

-- -1 - n, and -1 - z of a negative z
pub down : (n : ℕ) → negsuc 0 -ℤ pos n ≡ negsuc n
down zero = refl
down (suc n) = ap negsuc (omega arith)

pub up : (n : ℕ) → negsuc 0 -ℤ negsuc n ≡ pos n
up n = rw (le-ltb (suc n) 1 (omega arith)) (ap pos (omega arith))

module _ (u : ℕ) (low : 2 ^ 31 ≤ u) (high : u < 2 ^ 32) where
  pub signed_high : signed u ≡ negsuc (4294967295 - u)
  signed_high = simp (le-ltb u (2 ^ 31) low) (ap negsuc (omega arith))

  minus : negsuc 0 -ℤ to_z w32 (4294967295 - u) ≡ negsuc (4294967295 - u)
  minus = rw (to_z_pos w32 (4294967295 - u) (omega arith)) (down (4294967295 - u))

  pub signed-fits : SFits w32 (negsuc 0 -ℤ to_z w32 (4294967295 - u))
  signed-fits = rw minus (record { sfits = omega arith })

  pub signed-neg : to_z w32 (of_z w32 (negsuc 0 -ℤ to_z w32 (4294967295 - u))) ≡ to_z w32 u
  signed-neg =
      to_z-of_z w32 (negsuc 0 -ℤ to_z w32 (4294967295 - u)) signed-fits
      ∙ minus
      ∙ sym signed_high

-- a number below 0, and one that is not
pub record Neg (z : ℤ) : Type 0 where
  pub n : ℕ
  pub is : z ≡ negsuc n
  pub small : n < 2147483648

pub neg_of : (z : ℤ) → SFits w32 z → lt_z z (pos 0) ≡ true → Neg z
neg_of (pos n) f t = absurd (not-suc-le-zero (ltb-true n 0 t))
neg_of (negsuc n) f t = record { n = n; is = refl; small = f.sfits }

pub record Pos (z : ℤ) : Type 0 where
  pub n : ℕ
  pub is : z ≡ pos n
  pub small : n < 2147483648

pub pos_of : (z : ℤ) → SFits w32 z → lt_z z (pos 0) ≡ false → Pos z
pos_of (pos n) f t = record { n = n; is = refl; small = f.sfits }
pos_of (negsuc n) f t = let e : ◌≡◌ {A = ℕ} 0 1 = cc in absurd (omega arith)

pub pos-fits : (n : ℕ) → n < 2147483648 → SFits w32 (pos n)
pos-fits n h = record { sfits = h }

-- a signed result of a call, as the caller returns it
pub signed-again : {z : ℤ} {u v : ℕ} → z ≡ to_z w32 u → u ≡ v → mag z < 2 ^ 31 → to_z w32 (of_z w32 z) ≡ to_z w32 v
signed-again {z} e h f = to_z-of_z w32 z (record { sfits = f }) ∙ e ∙ ap (to_z w32) h

-- a signed number is its 32 bits read as two's complement, and 32 bits are those of the number that they are read as
pub signed-unsigned : (z : ℤ) → SFits w32 z → signed (unsigned z) ≡ z
signed-unsigned z f = to_z-of_z w32 z f

pub unsigned_signed : (u : ℕ) → u < 256 ^ 4 → unsigned (signed u) ≡ u
unsigned_signed u h = of_z-to_z w32 u (record { fits = h })

pub unsigned-below : (z : ℤ) → SFits w32 z → unsigned z < 256 ^ 4
unsigned-below z f = (of_z_fits w32 z f).fits
