-- The pass: each outcome of the code's tests as one of the definition.
-- Rests on the library's laws of `leb`.
use mathlib.Core.Path.{◌≡◌}
use Prim.Native.Nat.{ℕ, ◌+◌, ◌-◌, ◌≤◌, ◌<◌}
use native.Mathlib.Omega.{arith}
use borrow.Author.Tests.{le-leb, lt-leb}
use Rattle.fields.specs.Reading.{got, bad}
use Rattle.fields.specs.Answers.{end_of}
use Rattle.policies.specs.Pass.{pass}

module _ (a b : ℕ) where
  pub pass_early : b < a → bad 12 0 ≡ end_of (pass a b)
  unfolding pass
  pass_early h = rw (lt-leb a b h)

  pub pass_late : a ≤ b → 1 < b - a → bad 12 0 ≡ end_of (pass a b)
  unfolding pass
  pass_late h k = rw (le-leb a b h, lt-leb b (a + 1) (omega arith))

  pub pass_good : a ≤ b → b - a ≤ 1 → got tt 0 ≡ end_of (pass a b)
  unfolding pass
  pass_good h k = rw (le-leb a b h, le-leb b (a + 1) (omega arith))
