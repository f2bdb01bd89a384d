-- Which values the conditions at the offsets admit.
-- Rests on the definition of what is asked, and on the stretch that begins at an offset, in policies.
use mathlib.Core.Path.{◌≡◌, refl, ap, ap₂, sym, ◌∙◌}
use mathlib.Core.Bool.{Bool, true, false, ◌&&◌}
use mathlib.Core.List.{List}
use Prim.Native.Nat.{ℕ, ◌+◌, ◌≤◌, ◌<◌, ◌^◌}
use native.Mathlib.Omega.{arith}
use borrow.Author.Tests.{le-ltb}
use lib.ListN.{drop}
use lib.IntN.{ℤ}
use lib.Dec.{ltb}
use lib.Signed.{le_z}
use mir.Syntax.{w32}
use mir.Val.{to_z, of_z, SFits}
use mir.ValLaws.{to_z-of_z}
use Rattle.fields.specs.Reading.{be, signed}
use Rattle.fields.proofs.Tests.{and_no}
use Rattle.numbers.specs.Bits.{bit}
use Rattle.numbers.proofs.Bits.{bit_below}
use Rattle.policies.proofs.Part.{rest}
use Rattle.policies.proofs.Offsets.{stretch}
use Rattle.schema.specs.declared.Variable.{Variable}
use Rattle.schema.specs.declared.Variable.TheVariants.{Number, Listed}
use Rattle.instances.specs.File.{value_of}
use Rattle.model.specs.Satisfaction.{admits}
use Rattle.conditions.specs.Rules.{range_at, mask_at, condition_in}

-- ---- one condition

-- the PN whose ranks begin at o, as the code reads them there
module _ (p : List ℕ) (o skip : ℕ) where
  word : (at z : ℕ) → z ≡ be 4 (stretch p o) at → z ≡ be 4 (drop o p) at
  word at z e = e ∙ ap (λ (l : List ℕ). be 4 l at) (rest p o)

  -- a number
  module _ (v : Variable) {lo hi : ℤ} (q : v ≡ Number lo hi) (u : ℕ) (x : ℤ) (i : x ≡ to_z w32 u) (f : SFits w32 x) (a : ℤ) (e : of_z w32 a ≡ be 4 (stretch p o) skip) where
    abbrev it : Bool
    it = admits v (condition_in p skip v o) (value_of v u)

    told : it ≡ (le_z (signed (be 4 (drop o p) skip)) x && le_z x (signed (be 4 (drop o p) (skip + 4))))
    unfolding admits condition_in range_at value_of
    told = ap (λ (v : Variable). admits v (condition_in p skip v o) (value_of v u)) q ∙ ap (λ (z : ℤ). le_z (signed (be 4 (drop o p) skip)) z && le_z z (signed (be 4 (drop o p) (skip + 4)))) (sym i)

    lower : le_z (to_z w32 (of_z w32 a)) (to_z w32 (of_z w32 x)) ≡ le_z (signed (be 4 (drop o p) skip)) x
    lower = ap₂ le_z (ap (to_z w32) (word skip (of_z w32 a) e)) (to_z-of_z w32 x f)

    pub range_below : le_z (to_z w32 (of_z w32 a)) (to_z w32 (of_z w32 x)) ≡ false → le_z (to_z w32 (of_z w32 a)) (to_z w32 (of_z w32 x)) ≡ it
    range_below t = t ∙ sym (told ∙ and_no (le_z x (signed (be 4 (drop o p) (skip + 4)))) (sym lower ∙ t))

    pub range_inside : (b : ℤ) → of_z w32 b ≡ be 4 (stretch p o) (skip + 4) → le_z (to_z w32 (of_z w32 a)) (to_z w32 (of_z w32 x)) ≡ true
        → le_z (to_z w32 (of_z w32 x)) (to_z w32 (of_z w32 b)) ≡ it
    range_inside b g t =
        ap₂ le_z (to_z-of_z w32 x f) (ap (to_z w32) (word (skip + 4) (of_z w32 b) g))
        ∙ ap (λ (y : Bool). y && le_z x (signed (be 4 (drop o p) (skip + 4)))) (sym (sym lower ∙ t))
        ∙ sym told

  -- a listed variable's value
  module _ (v : Variable) {size : ℕ} (q : v ≡ Listed size) (i m : ℕ) (e : m ≡ be 4 (stretch p o) skip) where
    abbrev mask_admits : Bool
    mask_admits = admits v (condition_in p skip v o) (value_of v i)

    told_bit : bit m i ≡ mask_admits
    unfolding admits condition_in mask_at value_of
    told_bit = ap (λ (x : ℕ). bit x i) (word skip m e) ∙ sym (ap (λ (v : Variable). admits v (condition_in p skip v o) (value_of v i)) q)

    pub mask_bits : (k : ℕ) → k ≡ m → {r : Bool} → r ≡ bit k i → r ≡ mask_admits
    mask_bits k f d = d ∙ ap (λ (x : ℕ). bit x i) f ∙ told_bit

    pub mask_beyond : m < 2 ^ 32 → 32 ≤ i → ltb i 32 ≡ mask_admits
    mask_beyond l h = le-ltb i 32 h ∙ go (bit m i) refl ∙ told_bit
      where
        go : (b : Bool) → bit m i ≡ b → false ≡ bit m i
        go true t = absurd (let z = bit_below m 32 i l t in omega arith)
        go false t = sym t
