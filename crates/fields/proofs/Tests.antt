-- A test that the code made, as the test of a definition: one law for each connective.
-- Rests on the library's laws of `leb`, `ltb` and `eqb` alone.
use mathlib.Core.Path.{◌≡◌, refl, ap, sym}
use mathlib.Core.Logic.{◌⊎◌, inl, inr}
use mathlib.Core.Bool.{Bool, true, false, cond, ◌&&◌, ◌||◌, not}
use Prim.Native.Nat.{ℕ}
use native.Mathlib.Omega.{arith}
use borrow.Author.Tests.{le-leb, lt-leb, lt-ltb, le-ltb, eq-eqb, ne_eqb}
use lib.Dec.{leb, ltb}

pub and_yes : {a b : Bool} → a ≡ true → b ≡ true → (a && b) ≡ true
and_yes e h = rw e h

pub and_no : {a : Bool} (b : Bool) → a ≡ false → (a && b) ≡ false
and_no b e = rw e

pub and-no-2 : {a b : Bool} → a ≡ true → b ≡ false → (a && b) ≡ false
and-no-2 e h = rw e h

pub or_no : {a b : Bool} → a ≡ false → b ≡ false → (a || b) ≡ false
or_no e h = rw e h

pub or_yes : {a : Bool} (b : Bool) → a ≡ true → (a || b) ≡ true
or_yes b e = rw e

pub or-yes-2 : {a b : Bool} → a ≡ false → b ≡ true → (a || b) ≡ true
or-yes-2 e h = rw e h

pub ne-pos : (v : ℕ) → (v ≡ 0 → ⊥) → ltb 0 v ≡ true
ne-pos v h = lt-ltb 0 v (omega arith)

pub eq-none : (v : ℕ) → v ≡ 0 → ltb 0 v ≡ false
eq-none v h = le-ltb 0 v (omega arith)

pub eq-le : (v m : ℕ) → v ≡ 0 → leb v m ≡ true
eq-le v m h = le-leb v m (omega arith)

pub ruleset tests = (
  and_yes,
  and_no,
  and-no-2,
  or_no,
  or_yes,
  or-yes-2,
  le-leb,
  lt-leb,
  lt-ltb,
  le-ltb,
  eq-eqb,
  ne_eqb,
  ne-pos,
  eq-none,
  eq-le,
)

-- and back: the parts of a conjunction that holds
pub and-true : (a b : Bool) → (a && b) ≡ true → (a ≡ true) × (b ≡ true)
and-true true b e = (refl, e)
and-true false b e = absurd (let k : ◌≡◌ {A = ℕ} 0 1 = ap (λ (t : Bool). cond t 1 0) e in omega arith)

pub or-true : (a b : Bool) → (a || b) ≡ true → (a ≡ true) ⊎ (b ≡ true)
or-true true b e = inl refl
or-true false b e = inr e

pub or_left : (a b : Bool) → a ≡ true → (a || b) ≡ true
or_left a b e = rw e

pub or_right : (a b : Bool) → b ≡ true → (a || b) ≡ true
or_right true b e = refl
or_right false b e = e

pub never : {A : Type 0} → false ≡ true → A
never e = absurd (let k : ◌≡◌ {A = ℕ} 0 1 = ap (λ (t : Bool). cond t 1 0) e in omega arith)

pub not_yes : (a : Bool) → not a ≡ true → a ≡ true → ⊥
not_yes true e h = never e
not_yes false e h = never h

pub not-not : (a : Bool) → (a ≡ true → ⊥) → not a ≡ true
not-not true h = absurd (h refl)
not-not false h = refl

pub is-not : (a : Bool) → (a ≡ true → ⊥) → a ≡ false
is-not true h = absurd (h refl)
is-not false h = refl

pub alike : (a b : Bool) → (a ≡ true → b ≡ true) → (b ≡ true → a ≡ true) → a ≡ b
alike true b f h = sym (f refl)
alike false true f h = h refl
alike false false f h = refl
