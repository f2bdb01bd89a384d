-- The loop over the offsets, for one variable: the conditions from row r on are left.
-- Rests on the definition of what they leave, and on the stretch that begins at an offset, in policies.
use mathlib.Core.Path.{◌≡◌, ap, ap₂, sym, ◌∙◌}
use mathlib.Core.List.{List}
use Prim.Native.Nat.{ℕ, ◌+◌, ◌≤◌, ◌<◌, ◌^◌}
use lib.ListN.{length, get_or, drop, drop_of_length-le}
use lib.Bits.{bit_and}
use lib.IntN.{ℤ}
use lib.Signed.{mag}
use mir.Syntax.{w32}
use mir.Val.{to_z, of_z}
use mir.ValLaws.{to_z-of_z}
use Rattle.std.specs.Int.{int_max, int_min}
use Rattle.std.proofs.lemmas.List.{drop_more}
use Rattle.fields.specs.Reading.{be, signed}
use Rattle.policies.specs.Policies.{Condition, range, mask}
use Rattle.policies.proofs.Part.{rest}
use Rattle.policies.proofs.Offsets.{stretch}
use Rattle.model.specs.Reconciling.{both}
use Rattle.conditions.specs.Rules.{range_at, mask_at, narrowed_by}

-- a bound is what its bits say
pub kept : (z : ℤ) → mag z < 2 ^ 31 → to_z w32 (of_z w32 z) ≡ z
kept z f = to_z-of_z w32 z (record { sfits = f })

-- a bound that is read
pub read : (s : List ℕ) (at : ℕ) (z : ℤ) → of_z w32 z ≡ be 4 s at → to_z w32 (of_z w32 z) ≡ signed (be 4 s at)
read s at z e = ap (to_z w32) e

-- a range as the code narrows it
module _ (s : List ℕ) (at : ℕ) (a b : ℤ) (fa : mag a < 2 ^ 31) (fb : mag b < 2 ^ 31) (x y : ℤ) (ex : of_z w32 x ≡ be 4 s at) (ey : of_z w32 y ≡ be 4 s (at + 4)) where
  pub narrowed : (u v : ℤ) → u ≡ int_max (to_z w32 (of_z w32 a)) (to_z w32 (of_z w32 x)) → v ≡ int_min (to_z w32 (of_z w32 b)) (to_z w32 (of_z w32 y)) → mag u < 2 ^ 31 → mag v < 2 ^ 31
      → range (to_z w32 (of_z w32 u)) (to_z w32 (of_z w32 v)) ≡ both (range a b) (range (signed (be 4 s at)) (signed (be 4 s (at + 4))))
  unfolding both
  narrowed u v eu ev fu fv =
      ap₂ range
      (kept u fu ∙ eu ∙ ap₂ int_max (kept a fa) (read s at x ex))
      (kept v fv ∙ ev ∙ ap₂ int_min (kept b fb) (read s (at + 4) y ey))

-- ---- what the conditions from row r on leave of c is what all leave of start

module _ (f : ℕ → Condition) (offsets : List ℕ) (r : ℕ) (c : Condition) {all : Condition} (w : narrowed_by f (drop r offsets) c ≡ all) where
  pub narrowed_step : {d : Condition} → r < length offsets → d ≡ both c (f (get_or offsets r 0)) → narrowed_by f (drop (r + 1) offsets) d ≡ all
  unfolding narrowed_by
  narrowed_step {d} h e = ap (narrowed_by f (drop (r + 1) offsets)) e ∙ sym (ap (λ (os : List ℕ). narrowed_by f os c) (drop_more offsets r 0 h)) ∙ w

  pub narrowed_exit : length offsets ≤ r → c ≡ all
  unfolding narrowed_by
  narrowed_exit h = sym (ap (λ (os : List ℕ). narrowed_by f os c) (drop_of_length-le offsets {i = r} h)) ∙ w

-- a number's bounds, as the stretch of its PN has them
pub range_step : (p : List ℕ) (skip : ℕ) (offsets : List ℕ) (r : ℕ) (c : Condition) {all d : Condition} → narrowed_by (range_at p skip) (drop r offsets) c ≡ all → r < length offsets
    → (o : ℕ) → o ≡ get_or offsets r 0 → d ≡ both c (range (signed (be 4 (stretch p o) skip)) (signed (be 4 (stretch p o) (skip + 4)))) → narrowed_by (range_at p skip) (drop (r + 1) offsets) d ≡ all
unfolding range_at
range_step p skip offsets r c w h o i e =
    narrowed_step (range_at p skip) offsets r c w h
    (e ∙ ap (λ (l : List ℕ). both c (range (signed (be 4 l skip)) (signed (be 4 l (skip + 4))))) (rest p o ∙ ap (λ (j : ℕ). drop j p) i))

-- a mask
pub mask_step : (p : List ℕ) (skip : ℕ) (offsets : List ℕ) (r m : ℕ) {x : ℕ} {all : Condition} → narrowed_by (mask_at p skip) (drop r offsets) (mask m) ≡ all → r < length offsets
    → (o : ℕ) → o ≡ get_or offsets r 0 → x ≡ be 4 (stretch p o) skip → narrowed_by (mask_at p skip) (drop (r + 1) offsets) (mask (bit_and m x)) ≡ all
unfolding mask_at both
mask_step p skip offsets r m w h o i e =
    narrowed_step (mask_at p skip) offsets r (mask m) w h
    (ap (λ (y : ℕ). mask (bit_and m y)) (e ∙ ap (λ (l : List ℕ). be 4 l skip) (rest p o ∙ ap (λ (j : ℕ). drop j p) i)))

-- nothing is left
pub range_exit : (p : List ℕ) (skip : ℕ) (offsets : List ℕ) (r : ℕ) (a b : ℤ) (start : Condition) → narrowed_by (range_at p skip) (drop r offsets) (range a b) ≡ narrowed_by (range_at p skip) offsets start
    → length offsets ≤ r → range a b ≡ narrowed_by (range_at p skip) offsets start
range_exit p skip offsets r a b start w h = narrowed_exit (range_at p skip) offsets r (range a b) w h

pub mask_exit : (p : List ℕ) (skip : ℕ) (offsets : List ℕ) (r m : ℕ) (start : Condition) → narrowed_by (mask_at p skip) (drop r offsets) (mask m) ≡ narrowed_by (mask_at p skip) offsets start
    → length offsets ≤ r → mask m ≡ narrowed_by (mask_at p skip) offsets start
mask_exit p skip offsets r m start w h = narrowed_exit (mask_at p skip) offsets r (mask m) w h
