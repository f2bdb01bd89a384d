-- The sweep over the nodes from the highest to 0: from node n up, the flags of the nodes that the first instance reaches are right.
-- Rests on `good-by-table` of the model: a table that is right above a node gives what is right at it.
use mathlib.Core.Path.{◌≡◌, refl, ap, ap₂, sym, subst, ◌∙◌}
use mathlib.Core.Bool.{Bool, true, false}
use mathlib.Core.List.{List}
use Prim.Native.Nat.{ℕ, ◌-◌, ◌≤◌, ◌<◌}
use native.Mathlib.Omega.{arith}
use native.Mathlib.Decide.{dec_lt}
use lib.Dec.{eqb}
use mir.Val.{bool_byte}
use lib.ListN.{length, get_or, set, replicate, length-set, length-replicate}
use lib.Seq.{get_or-set_same, get_or-set_other}
use Rattle.fields.proofs.Bytes.{Bytes}
use Rattle.schema.specs.Schema.{Node, schema_of}
use Rattle.schema.specs.Table.{Accepted, AtMost}
use Rattle.schema.proofs.Sound.{Sound}
use Rattle.schema.proofs.Accepted.{sound}
use Rattle.policies.specs.Policies.{Policy}
use Rattle.policies.specs.declared.Row.{Row}
use Rattle.policies.specs.Rows.{noted}
use Rattle.instances.specs.File.{encode, ReadsBack}
use Rattle.instances.specs.Instance.{Entry}
use Rattle.instances.specs.Plan.{slot_at}
use Rattle.instances.specs.declared.Slot.{Slot}
use Rattle.instances.proofs.IsInstance.{Reached, root, IsInstance}
use Rattle.instances.proofs.RoundTrip.{read_is, encode-bytes, reached-below}
use Rattle.model.specs.Order.{better, good_at, good_step, good, as_good}
use Rattle.order.specs.Order.{in_set}
use Rattle.model.proofs.Order.{good-by-table}
use Rattle.comparison.specs.Comparison.{Choices, YieldsAsGood}

-- two instances with these choices
pub record Of (g : List Node) (first second : List Slot) (i j : List Entry) : Type 0 where
  pub first-is : IsInstance g i
  pub second_is : IsInstance g j
  pub first-chosen : Choices g i first
  pub second-chosen : Choices g j second

pub record Flagging (schema p : List ℕ) (rows : List Row) (first second : List Slot) (flags : List ℕ) (n : ℕ) : Type 0 where
  pub sound : Sound (schema_of schema)
  pub below : n ≤ length (schema_of schema)
  pub long : length flags ≡ 64
  pub right : (i j : List Entry) → Of (schema_of schema) first second i j → (m : ℕ) → n ≤ m → Reached (schema_of schema) i m
      → in_set flags m ≡ good (schema_of schema) (better (schema_of schema) (noted (schema_of schema) p rows)) i j m

module _ (schema p : List ℕ) (rows : List Row) (first second : List Slot) where
  abbrev g : List Node
  g = schema_of schema

  abbrev ps : List Policy
  ps = noted (schema_of schema) p rows

  pub flagging_init : {n : ℕ} → Accepted schema → Bytes schema → AtMost 64 (length g) n → Flagging schema p rows first second (replicate 64 0) n
  flagging_init c sb l =
      let A = sound schema sb c.some in
      record {
        sound = A;
        below = omega (arith, l.is);
        long = length-replicate {A = ℕ} 64 0;
        right = λ i j o m h v. absurd (let z = reached-below g A i o.first-is v in omega (arith, l.is));
      }

  module _ (flags : List ℕ) (n : ℕ) (w : Flagging schema p rows first second flags n) where
    pub flagging_node : 0 < n → n - 1 < length g
    flagging_node h = let z = w.below in omega arith

    pub flagging_small : 0 < n → n - 1 < 64
    flagging_small h = let z = w.below in let y = w.sound.few in omega arith

    module _ (h : 0 < n) {r : Bool} (e : r ≡ good_at g (better g ps) (in_set flags) (n - 1) (slot_at first (n - 1)).choice (slot_at second (n - 1)).choice) where
      here : (i j : List Entry) → Of g first second i j → Reached g i (n - 1) → r ≡ good g (better g ps) i j (n - 1)
      unfolding good_step
      here i j o v =
          e
          ∙ ap₂ (good_at g (better g ps) (in_set flags) (n - 1))
          (o.first-chosen.is (n - 1) (flagging_node h))
          (o.second-chosen.is (n - 1) (flagging_node h))
          ∙ good-by-table g (better g ps) w.sound i j o.first-is (in_set flags) (n - 1) v (λ m k u. w.right i j o m (omega arith) u)

      module _ {f : ℕ} (k : f ≡ bool_byte r) where
        at-node : in_set (set flags (n - 1) f) (n - 1) ≡ r
        at-node =
            ap (λ (z : ℕ). eqb z 1) (get_or-set_same flags (n - 1) f 0 (let z = w.long in let y = flagging_small h in omega arith) ∙ k)
            ∙ go r
          where
            go : (b : Bool) → eqb (bool_byte b) 1 ≡ b
            go true = refl
            go false = refl

        at_other : (m : ℕ) → n - 1 < m → in_set (set flags (n - 1) f) m ≡ in_set flags m
        at_other m l = ap (λ (z : ℕ). eqb z 1) (get_or-set_other flags (n - 1) m f 0 (λ q. omega arith))

        right-now : (i j : List Entry) → Of g first second i j → (m : ℕ) → n - 1 ≤ m → Reached g i m → in_set (set flags (n - 1) f) m ≡ good g (better g ps) i j m
        right-now i j o m l v = go (dec_lt (n - 1) m)
          where
            go : Dec (n - 1 < m) → in_set (set flags (n - 1) f) m ≡ good g (better g ps) i j m
            go (yes k) = at_other m k ∙ w.right i j o m (omega arith) v
            go (no k) =
                let z : n - 1 ≡ m = omega arith in
                subst (λ (q : ℕ). in_set (set flags (n - 1) f) q ≡ good g (better g ps) i j q) z (at-node ∙ here i j o (subst (Reached g i) (sym z) v))

        pub flagging_step : Flagging schema p rows first second (set flags (n - 1) f) (n - 1)
        flagging_step =
            record {
              sound = w.sound;
              below = let z = w.below in omega arith;
              long = length-set flags (n - 1) f ∙ w.long;
              right = right-now;
            }

    pub flagging_long : length flags ≡ 64
    flagging_long = w.long

    pub flagging_exit : n ≤ 0 → YieldsAsGood g ps first second (eqb (get_or flags 0 0) 1)
    unfolding as_good
    flagging_exit h =
        record {
          is = λ i j a b c d. w.right i j (record { first-is = instance-is i a; second_is = instance-is j b; first-chosen = c; second-chosen = d }) 0 h root;
        }
      where
        instance-is : (i : List Entry) → ReadsBack g i → IsInstance g i
        instance-is i a = read_is g w.sound (encode g i) (encode-bytes g i) a.back
