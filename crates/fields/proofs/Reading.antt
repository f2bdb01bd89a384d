-- What a reader answered, back to what was read; and a field and the end of a file by the code's tests.
-- Rests on the definitions of `part`, `whole`, `field` and `ended` alone.
use mathlib.Core.Path.{◌≡◌}
use mathlib.Core.List.{List}
use Prim.Native.Nat.{ℕ, ◌+◌, ◌≤◌, ◌<◌}
use native.Mathlib.Omega.{arith}
use borrow.Author.Tests.{le-leb, lt-leb, le-ltb, lt-ltb}
use lib.ListN.{length}
use Rattle.fields.specs.Reading.{Got, got, bad, part, be, whole, ended}
use Rattle.fields.specs.Answers.{end_of}

-- w bytes, from the code's test of the length
module _ (w : ℕ) (s : List ℕ) (p : ℕ) where
  pub whole_cut : length s < p + w → whole w s p ≡ bad 2 p
  unfolding whole
  whole_cut h = simp (lt-leb (p + w) (length s) h)

  pub whole_got : p + w ≤ length s → whole w s p ≡ got (be w s p) (p + w)
  unfolding whole
  whole_got h = simp (le-leb (p + w) (length s) h)

-- an answer that tells only the end, back to what was read
module _ {A : Type 0} (g : Got A) where
  pub stopped : {n o : ℕ} → bad n o ≡ end_of g → g ≡ bad n o
  stopped {n} {o} e = go g e
    where
      go : (g : Got A) → bad n o ≡ end_of g → g ≡ bad n o
      go (got a p) e = cc
      go (bad m i) e = cc

  pub stepped : {q : ℕ} → got tt q ≡ end_of g → (a : A) × (g ≡ got a q)
  stepped {q} e = go g e
    where
      go : (g : Got A) → got tt q ≡ end_of g → (a : A) × (g ≡ got a q)
      go (got a p) e = (a, (cc))
      go (bad n o) e = absurd (let z : ◌≡◌ {A = ℕ} 0 1 = cc in omega arith)

-- a part whose value is known
pub part-ok : {A B : Type 0} (g : Got A) (k : A → ℕ → Got B) {a : A} {q : ℕ} {h : Got B} → g ≡ got a q → k a q ≡ h → part g k ≡ h
unfolding part
part-ok g k e z = rw e z

-- the end of a file
module _ {A : Type 0} (s : List ℕ) (x : A) (p : ℕ) where
  pub ended-bad : p < length s → ended s x p ≡ bad 7 p
  unfolding ended
  ended-bad h = rw (lt-ltb p (length s) h)

  pub ended-ok : length s ≤ p → ended s x p ≡ got x p
  unfolding ended
  ended-ok h = rw (le-ltb p (length s) h)
