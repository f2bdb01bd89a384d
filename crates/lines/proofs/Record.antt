-- A PS record: where an accepted record ends, and between which places a refused one stops.
-- Rests on the laws of reading of the crate fields.
use mathlib.Core.Path.{◌≡◌, refl}
use mathlib.Core.Bool.{Bool, true, false, cond}
use mathlib.Core.List.{List}
use Prim.Native.Nat.{ℕ, ◌+◌, ◌≤◌}
use native.Mathlib.Omega.{arith}
use lib.Dec.{leb, eqb}
use lib.ListN.{length}
use Rattle.fields.specs.Reading.{Got, got, bad, part, be, whole, field, mark}
use Rattle.fields.proofs.Back.{whole_back, any-back, mark-back, after-mark}
use Rattle.lines.specs.Record.{PS, pass_at}
use Rattle.lines.specs.declared.Days.{Days}

-- a record that was read has six bytes
pub record Taken (s : List ℕ) (p : ℕ) (x : Days) (q : ℕ) : Type 0 where
  pub inside : p + 6 ≤ length s
  pub next : q ≡ p + 6
  pub first : x.a ≡ be 2 s (p + 2)
  pub last : x.b ≡ be 2 s (p + 4)

pub pass-taken : (s : List ℕ) (p : ℕ) {x : Days} {q : ℕ} → pass_at s p ≡ got x q → Taken s p x q
unfolding pass_at
pass-taken s p {x} {q} e =
    let h = after-mark PS s p _ e in
    let k = any-back 2 s (p + 2) _ h.then in
    let l = any-back 2 s (p + 2 + 2) _ k.then in
    let w = l.then in
    let z : p + 2 + 2 ≡ p + 4 = omega arith in
    let y : p + 2 + 2 + 2 ≡ p + 6 = omega arith in
    record { inside = omega (arith, l.inside); next = cc; first = cc; last = cc }

-- a breach is at one of the record's three fields
pub record Stopped (p n o : ℕ) : Type 0 where
  pub from : p ≤ o
  pub upto : o ≤ p + 4
  pub low : 1 ≤ n
  pub high : n ≤ 2

stopped-at : {p q n m o : ℕ} → (n ≡ m) × (o ≡ q) → (k : ℕ) → q ≡ p + k → k ≤ 4 → (1 ≤ m) × (m ≤ 2) → Stopped p n o
stopped-at z k e h l = record { from = omega (arith, z.1); upto = omega (arith, z.1); low = omega (arith, z.0, l.0); high = omega (arith, z.0, l.1) }

part-stops : {A B : Type 0} (g : Got A) (k : A → ℕ → Got B) {n o : ℕ} {X : Type 0} → part g k ≡ bad n o → (g ≡ bad n o → X)
    → ((a : A) (p : ℕ) → g ≡ got a p → k a p ≡ bad n o → X) → X
unfolding part
part-stops (got a p) k e f h = h a p refl e
part-stops (bad n o) k e f h = f (cc)

unmet : (t : Bool) (g : Got ℕ) (v q m p : ℕ) {n o : ℕ} → g ≡ got v q → cond t g (bad m p) ≡ bad n o → (n ≡ m) × (o ≡ p)
unmet true g v q m p h e = absurd (let z : ◌≡◌ {A = ℕ} 0 1 = cc in omega arith)
unmet false g v q m p h e = ((cc), (cc))

whole-stops : (w : ℕ) (s : List ℕ) (p : ℕ) {n o : ℕ} → whole w s p ≡ bad n o → (n ≡ 2) × (o ≡ p)
unfolding whole
whole-stops w s p e = unmet (leb (p + w) (length s)) (got (be w s p) (p + w)) (be w s p) (p + w) 2 p refl e

mark-stops : (m s : List ℕ) (p : ℕ) {n o : ℕ} → mark m s p ≡ bad n o → Stopped p n o
unfolding mark field
mark-stops m s p e =
    part-stops (whole 2 s p) _ e (λ h. let z = whole-stops 2 s p h in stopped-at z 0 (omega arith) (omega arith) (omega arith, omega arith))
    (λ v q h k. let z = unmet (eqb v (be 2 m 0)) (got v q) v q 1 p refl k in stopped-at z 0 (omega arith) (omega arith) (omega arith, omega arith))

pub pass-stops : (s : List ℕ) (p : ℕ) {n o : ℕ} → pass_at s p ≡ bad n o → Stopped p n o
unfolding pass_at
pass-stops s p e =
    part-stops (mark PS s p) _ e (λ h. mark-stops PS s p h)
    (λ v q h k. let y = (mark-back PS s p h).next in
    part-stops (whole 2 s q) _ k (λ h. stopped-at (whole-stops 2 s q h) 2 y (omega arith) (omega arith, omega arith))
    (λ a r h k. let x = (whole_back 2 s q h).next in
    part-stops (whole 2 s r) _ k (λ h. stopped-at (whole-stops 2 s r h) 4 (omega arith) (omega arith) (omega arith, omega arith))
    (λ b t h k. absurd (let z : ◌≡◌ {A = ℕ} 0 1 = cc in omega arith))))
