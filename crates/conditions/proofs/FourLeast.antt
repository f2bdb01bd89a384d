-- The least values of four numbers: the bits of the lower bounds are stored, and each range is asked whether it has a value.
-- Rests on the laws of a node's values, in Least, and on what four numbers tell, in Numbers.
use mathlib.Core.Path.{◌≡◌, refl, ap, sym, ◌∙◌}
use mathlib.Core.Bool.{Bool, true, ◌&&◌}
use mathlib.Core.List.{List, []}
use mathlib.Core.Option.{Option, none, some}
use Prim.Native.Nat.{ℕ, zero, suc, ◌+◌, ◌≤◌, ◌<◌, ◌^◌}
use native.Mathlib.Omega.{arith}
use native.Mathlib.Decide.{dec_lt}
use lib.ListN.{length, get_or, set, length-set}
use lib.Seq.{get_or-set_same, get_or-set_other}
use lib.IntN.{ℤ, pos}
use lib.Signed.{le_z, mag}
use mir.Syntax.{w32}
use mir.Val.{to_z, of_z}
use Rattle.fields.proofs.Tests.{and-true, never}
use Rattle.schema.specs.Schema.{Node, node_at, no_variable, is_number}
use Rattle.schema.specs.declared.Variable.{Variable}
use Rattle.schema.specs.declared.Variable.TheVariants.{Number, Listed}
use Rattle.policies.specs.Policies.{mask, Policy}
use Rattle.instances.specs.File.{value_of}
use Rattle.model.specs.Reconciling.{combined, is_some, least, least_each, with_head}
use Rattle.conditions.specs.Least.{LeastIn, range_in, ranges_in}
use Rattle.conditions.specs.Rules.{four_numbers}
use Rattle.conditions.specs.declared.Conditions.{Conditions}
use Rattle.conditions.proofs.Least.{left-range, values-some}
use Rattle.conditions.proofs.Narrowing.{kept}
use Rattle.conditions.proofs.Numbers.{below-four, four-length, every-number, number_at}

-- ---- four ranges, each with its lower bound as the least value

range-in : (c : Conditions) (k : ℕ) → k < 4 → get_or (ranges_in c) k (mask 0) ≡ range_in c k
unfolding ranges_in
range-in c zero h = refl
range-in c (suc zero) h = refl
range-in c (suc (suc zero)) h = refl
range-in c (suc (suc (suc zero))) h = refl
range-in c (suc (suc (suc (suc k)))) h = absurd (omega arith)

-- whether each of four has one
all-some : (o p q r : Option ℤ) → is_some (with_head o (with_head p (with_head q (with_head r (some []))))) ≡ (((is_some o && is_some p) && is_some q) && is_some r)
all-some none p q r = refl
all-some (some x) none q r = refl
all-some (some x) (some y) none r = refl
all-some (some x) (some y) (some z) none = refl
all-some (some x) (some y) (some z) (some u) = refl

module _ (c : Conditions) where
  abbrev left : ℕ → Bool
  left k = is_some (least (range_in c k))

  all-left : is_some (least_each (ranges_in c)) ≡ (((left 0 && left 1) && left 2) && left 3)
  unfolding ranges_in least_each
  all-left = all-some (least (range_in c 0)) (least (range_in c 1)) (least (range_in c 2)) (least (range_in c 3))

  pub numbers_left : {w x y z : Bool} → w ≡ left 0 → x ≡ left 1 → y ≡ left 2 → z ≡ left 3 → (((w && x) && y) && z) ≡ is_some (least_each (ranges_in c))
  numbers_left ew ex ey ez = rw (ew, ex, ey, ez) (sym all-left)

  each-left : is_some (least_each (ranges_in c)) ≡ true → (k : ℕ) → k < 4 → left k ≡ true
  each-left q =
      let t = and-true ((left 0 && left 1) && left 2) (left 3) (sym all-left ∙ q) in
      let u = and-true (left 0 && left 1) (left 2) t.0 in
      let v = and-true (left 0) (left 1) u.0 in
      below-four (λ k. left k ≡ true) v.0 v.1 u.1 t.1

  each-has : is_some (least_each (ranges_in c)) ≡ true → (k : ℕ) → k < 4 → le_z (get_or c.lo k (pos 0)) (get_or c.hi k (pos 0)) ≡ true
  each-has q k h = sym (left-range (get_or c.lo k (pos 0)) (get_or c.hi k (pos 0))) ∙ each-left q k h

number-value : (v : Variable) (u : ℕ) → is_number v ≡ true → value_of v u ≡ to_z w32 u
unfolding value_of
number-value (Number lo hi) u e = refl
number-value (Listed size) u e = never e

-- ---- the bits of the lower bounds before k stand in their slots

pub record Stored (c : Conditions) (k : ℕ) (t : List ℕ) : Type 0 where
  pub each : (i : ℕ) → i < k → to_z w32 (get_or t i 0) ≡ get_or c.lo i (pos 0)
  pub long : length t ≡ 4

pub stored_init : (c : Conditions) (t : List ℕ) → length t ≡ 4 → Stored c 0 t
stored_init c t l = record { each = λ i h. absurd (omega arith); long = l }

module _ (c : Conditions) (k : ℕ) (t : List ℕ) (w : Stored c k t) (l : k < 4) where
  pub stored_step : (u : ℕ) → mag (get_or c.lo k (pos 0)) < 2 ^ 31 → u ≡ of_z w32 (to_z w32 (of_z w32 (get_or c.lo k (pos 0)))) → Stored c (k + 1) (set t k u)
  stored_step u f e = record { each = λ i j. one i j (dec_lt i k); long = length-set t k u ∙ w.long }
    where
      one : (i : ℕ) → i < k + 1 → Dec (i < k) → to_z w32 (get_or (set t k u) i 0) ≡ get_or c.lo i (pos 0)
      one i j (yes y) = ap (to_z w32) (get_or-set_other t k i u 0 (λ z. omega arith)) ∙ w.each i y
      one i j (no y) =
          let q : i ≡ k = omega arith in
          rw q
          (ap (to_z w32) (get_or-set_same t k u 0 (omega (arith, w.long)) ∙ e ∙ ap (of_z w32) (kept (get_or c.lo k (pos 0)) f))
          ∙ kept (get_or c.lo k (pos 0)) f)

-- all four do
module _ (g : List Node) (qs : List Policy) (n : ℕ) (c : Conditions) (k : ℕ) (t : List ℕ) (w : Stored c k t) (f : four_numbers (node_at g n).variables ≡ true)
    (e : ranges_in c ≡ combined g qs n) (l : 4 ≤ k) where
  abbrev vs : List Variable
  vs = (node_at g n).variables

  value-at : is_some (least_each (ranges_in c)) ≡ true → (i : ℕ) → i < length vs → least (get_or (ranges_in c) i (mask 0)) ≡ some (value_of (get_or vs i no_variable) (get_or t i 0))
  unfolding least
  value-at q i h =
      let j : i < 4 = omega (arith, four-length vs f) in
      rw (range-in c i j, each-has c q i j)
      (ap {B = Option ℤ} some (sym (number-value (get_or vs i no_variable) (get_or t i 0) (number_at vs i (every-number vs f) h) ∙ w.each i (omega arith))))

  pub stored_exit : {r : Bool} → r ≡ is_some (least_each (ranges_in c)) → LeastIn g n (combined g qs n) t r
  unfolding ranges_in
  stored_exit {r} a =
      rw (← e)
      (record {
        found = a;
        values = λ y. values-some vs (ranges_in c) t (sym (four-length vs f)) (value-at (sym a ∙ y));
      })
