-- The order of signed numbers as a test: reflexive, transitive, antisymmetric, total; bounds of the greater and the lesser of two.
-- Rests on the library's laws of `leb` and `ltb` alone.
use mathlib.Core.Path.{◌≡◌, refl, ap, sym}
use mathlib.Core.Logic.{◌⊎◌, inl, inr}
use mathlib.Core.Bool.{Bool, true, false, cond}
use native.Mathlib.Omega.{arith}
use borrow.Author.Tests.{leb-true, le-leb, ltb-true, ltb-false}
use lib.IntN.{ℤ, pos, negsuc}
use lib.Signed.{le_z, lt_z}
use Rattle.fields.proofs.Tests.{never}
use Rattle.std.specs.Int.{int_max, int_min}

pub le_z-refl : (a : ℤ) → le_z a a ≡ true
le_z-refl (pos a) = le-leb a a (omega arith)
le_z-refl (negsuc a) = le-leb a a (omega arith)

pub le_z-trans : (a b c : ℤ) → le_z a b ≡ true → le_z b c ≡ true → le_z a c ≡ true
le_z-trans (pos a) (pos b) (pos c) h k = le-leb a c (omega (arith, leb-true a b h, leb-true b c k))
le_z-trans (pos a) (pos b) (negsuc c) h k = k
le_z-trans (pos a) (negsuc b) c h k = never h
le_z-trans (negsuc a) (pos b) (pos c) h k = refl
le_z-trans (negsuc a) (pos b) (negsuc c) h k = never k
le_z-trans (negsuc a) (negsuc b) (pos c) h k = refl
le_z-trans (negsuc a) (negsuc b) (negsuc c) h k = le-leb c a (omega (arith, leb-true b a h, leb-true c b k))

pub le_z-antisym : (a b : ℤ) → le_z a b ≡ true → le_z b a ≡ true → a ≡ b
le_z-antisym (pos a) (pos b) h k = ap pos (omega (arith, leb-true a b h, leb-true b a k))
le_z-antisym (pos a) (negsuc b) h k = never h
le_z-antisym (negsuc a) (pos b) h k = never k
le_z-antisym (negsuc a) (negsuc b) h k = ap negsuc (omega (arith, leb-true b a h, leb-true a b k))

lt-le : (a b : ℤ) → lt_z a b ≡ true → le_z a b ≡ true
lt-le (pos a) (pos b) h = le-leb a b (omega (arith, ltb-true a b h))
lt-le (pos a) (negsuc b) h = never h
lt-le (negsuc a) (pos b) h = refl
lt-le (negsuc a) (negsuc b) h = le-leb b a (omega (arith, ltb-true b a h))

no_lt : (a b : ℤ) → lt_z a b ≡ false → le_z b a ≡ true
no_lt (pos a) (pos b) h = le-leb b a (ltb-false a b h)
no_lt (pos a) (negsuc b) h = refl
no_lt (negsuc a) (pos b) h = never (sym h)
no_lt (negsuc a) (negsuc b) h = le-leb a b (ltb-false b a h)

pub le_z-total : (a b : ℤ) → (le_z a b ≡ true) ⊎ (le_z b a ≡ true)
le_z-total a b = go (lt_z a b) refl
  where
    go : (q : Bool) → lt_z a b ≡ q → (le_z a b ≡ true) ⊎ (le_z b a ≡ true)
    go true e = inl (lt-le a b e)
    go false e = inr (no_lt a b e)

-- x is at or above the greater of a and b exactly if it is at or above both
pub max-le : (a b x : ℤ) → le_z (int_max a b) x ≡ true → (le_z a x ≡ true) × (le_z b x ≡ true)
max-le a b x h = go (lt_z b a) refl h
  where
    go : (q : Bool) → lt_z b a ≡ q → le_z (cond q a b) x ≡ true → (le_z a x ≡ true) × (le_z b x ≡ true)
    go true e u = (u, le_z-trans b a x (lt-le b a e) u)
    go false e u = (le_z-trans a b x (no_lt b a e) u, u)

pub le-max : (a b x : ℤ) → le_z a x ≡ true → le_z b x ≡ true → le_z (int_max a b) x ≡ true
le-max a b x h k = go (lt_z b a)
  where
    go : (q : Bool) → le_z (cond q a b) x ≡ true
    go true = h
    go false = k

-- and at or below the lesser exactly if it is at or below both
pub min-le : (a b x : ℤ) → le_z x (int_min a b) ≡ true → (le_z x a ≡ true) × (le_z x b ≡ true)
min-le a b x h = go (lt_z b a) refl h
  where
    go : (q : Bool) → lt_z b a ≡ q → le_z x (cond q b a) ≡ true → (le_z x a ≡ true) × (le_z x b ≡ true)
    go true e u = (le_z-trans x b a u (lt-le b a e), u)
    go false e u = (u, le_z-trans x a b u (no_lt b a e))

pub le-min : (a b x : ℤ) → le_z x a ≡ true → le_z x b ≡ true → le_z x (int_min a b) ≡ true
le-min a b x h k = go (lt_z b a)
  where
    go : (q : Bool) → le_z x (cond q b a) ≡ true
    go true = k
    go false = h
