-- The sweep from the highest node to 0: a set and tables that are right above a node give what is right at it.
-- Rests on the model's can-by-table, and on what one node's plan leaves.
use mathlib.Core.Path.{◌≡◌, refl, ap, sym, subst, ◌∙◌}
use mathlib.Core.Bool.{Bool, true, false, ◌&&◌, ◌||◌}
use mathlib.Core.List.{List, []}
use mathlib.Core.Option
use Prim.Native.Nat.{ℕ, ◌-◌, ◌≤◌, ◌<◌}
use native.Mathlib.Omega.{arith}
use native.Mathlib.Decide.{dec_lt, ℕ_discrete}
use borrow.Author.Tests.{eq-eqb, ne_eqb}
use lib.Dec.{eqb}
use lib.ListN.{length, get_or, set, length-set}
use lib.Seq.{get_or-set_same, get_or-set_other}
use Rattle.fields.proofs.Tests.{or_right}
use Rattle.numbers.specs.Bits.{bit, with}
use Rattle.numbers.proofs.Bits.{no-bit, with-bit}
use Rattle.schema.specs.Schema.{Node, schema_of, node_at}
use Rattle.schema.specs.Table.{AtMost}
use Rattle.schema.proofs.Sound.{Sound}
use Rattle.schema.proofs.Accepted.{sound_of}
use Rattle.policies.specs.Policies.{Policy}
use Rattle.instances.specs.Instance.{elem, chooses}
use Rattle.instances.specs.Plan.{values_from, no_slot, slot_at, Unchosen}
use Rattle.instances.specs.declared.Slot.{Slot}
use Rattle.instances.proofs.Valid.{successor-in}
use Rattle.model.specs.Reconciling.{Rules, can, rules_of}
use Rattle.model.proofs.Reconciler.{can-by-table}
use Rattle.planning.specs.Plan.{EligibleRoom}
use Rattle.planning.specs.Sweep.{is_eligible, NodePlanned, Swept}

-- ---- the node whose turn it is

pub sweep_below : (schema : List ℕ) (n : ℕ) {c : ℕ} → AtMost 64 (length (schema_of schema)) c → 0 < n → n ≤ c → n - 1 < length (schema_of schema)
sweep_below schema n m h l = omega (arith, m.is)

pub sweep_small : (schema : List ℕ) (n : ℕ) {c : ℕ} → AtMost 64 (length (schema_of schema)) c → 0 < n → n ≤ c → n - 1 < 64
sweep_small schema n m h l = omega (arith, m.most)

-- ---- before the first

pub sweep_init : (schema : List ℕ) (qs : List Policy) (eligible : List ℕ) (slots : List Slot) {n : ℕ} → AtMost 64 (length (schema_of schema)) n → EligibleRoom schema eligible → Unchosen schema slots → Swept schema qs n 0 eligible slots
sweep_init schema qs eligible slots m l r =
    record {
      known = λ i a b. absurd (omega (arith, m.is));
      eligible-is = λ i a b. absurd (omega (arith, m.is));
      values = λ i a b. absurd (omega (arith, m.is));
      blank = λ i a. no-bit i;
      eligible-room = l;
      unchosen = r;
    }

-- which successors are eligible, by what is known of the nodes above
eligible-alike : (g : List Node) → Sound g → (r : Rules) (h k : ℕ → Bool) (n : ℕ) → ((s : ℕ) → n < s → s < length g → h s ≡ k s) → (x : ℕ) → is_eligible g r h n x ≡ is_eligible g r k n x
unfolding is_eligible
eligible-alike g A r h k n f x = go (elem x (node_at g n).successors) refl
  where
    go : (b : Bool) → elem x (node_at g n).successors ≡ b → b && (r.allowed n x && h x) ≡ b && (r.allowed n x && k x)
    go true m = let z = successor-in g A n x m in ap (λ (b : Bool). r.allowed n x && b) (f x z.0 z.1)
    go false m = refl

-- ---- one turn

module _ (schema : List ℕ) (qs : List Policy) (n feasible : ℕ) (eligible₀ : List ℕ) (slots₀ : List Slot) (w : Swept schema qs n feasible eligible₀ slots₀) {c : ℕ} (M : AtMost 64 (length (schema_of schema)) c) (h : 0 < n) (L : n ≤ c)
    (eligible bits : List ℕ) {r : Bool} (q : NodePlanned (schema_of schema) qs (n - 1) feasible eligible₀ eligible bits r) where
  abbrev g : List Node
  g = schema_of schema

  abbrev rules : Rules
  rules = rules_of g qs

  l : n ≤ length (schema_of schema)
  l = omega (arith, M.is)

  A : Sound g
  A = sound_of schema (omega (arith, l))

  here : n - 1 < length g
  here = omega (arith, l)

  above : (m : ℕ) → n - 1 < m → m < length g → bit feasible m ≡ can g rules m
  above m i j = w.known m (omega arith) j

  feasible-here : r ≡ can g rules (n - 1)
  feasible-here = q.is ∙ can-by-table g A rules (bit feasible) (n - 1) here above

  -- its slot with the bits of its values
  abbrev slots : List Slot
  slots = set slots₀ (n - 1) (record { choice = (slot_at slots₀ (n - 1)).choice; bits = bits })

  at-node : slot_at slots (n - 1) ≡ record { choice = (slot_at slots₀ (n - 1)).choice; bits = bits }
  at-node = get_or-set_same slots₀ (n - 1) _ no_slot (omega (arith, here, w.unchosen.room.long))

  at_other : (m : ℕ) → (m ≡ n - 1 → ⊥) → slot_at slots m ≡ slot_at slots₀ m
  at_other m f = get_or-set_other slots₀ (n - 1) m _ no_slot f

  same-choice : (m : ℕ) → (slot_at slots m).choice ≡ (slot_at slots₀ m).choice
  same-choice m = go (ℕ_discrete m (n - 1))
    where
      go : Dec (m ≡ n - 1) → (slot_at slots m).choice ≡ (slot_at slots₀ m).choice
      go (yes e) = subst (λ (k : ℕ). (slot_at slots k).choice ≡ (slot_at slots₀ k).choice) (sym e) (ap (λ (x : Slot). x.choice) at-node)
      go (no f) = ap (λ (x : Slot). x.choice) (at_other m f)

  -- a set that tells of node n - 1 too
  turn : (feasible' : ℕ) → ((m : ℕ) → (m ≡ n - 1 → ⊥) → bit feasible' m ≡ bit feasible m) → bit feasible' (n - 1) ≡ r → Swept schema qs (n - 1) feasible' eligible slots
  turn feasible' e k =
      record {
        known = λ m i j. known m i j (dec_lt (n - 1) m);
        eligible-is = λ m i j t. eligible-is m i j t (dec_lt (n - 1) m);
        values = λ m i j t. values m i j t (dec_lt (n - 1) m);
        blank = λ m i. e m (λ y. omega arith) ∙ w.blank m (omega arith);
        eligible-room = record { long = omega (arith, q.eligible-long, w.eligible-room.long) };
        unchosen =
            record {
              room = record { long = omega (arith, w.unchosen.room.long, length-set slots₀ (n - 1) (record { choice = (slot_at slots₀ (n - 1)).choice; bits = bits })) };
              none = λ m i. same-choice m ∙ w.unchosen.none m i;
            };
      }
    where
      known : (m : ℕ) → n - 1 ≤ m → m < length g → Dec (n - 1 < m) → bit feasible' m ≡ can g rules m
      known m i j (yes z) = e m (λ y. omega arith) ∙ above m z j
      known m i j (no z) = let y : m ≡ n - 1 = omega arith in rw y (k ∙ feasible-here)

      eligible-is : (m : ℕ) → n - 1 ≤ m → m < length g → can g rules m ≡ true → Dec (n - 1 < m) → chooses (node_at g m) ≡ true → (s : ℕ) → bit (get_or eligible m 0) s ≡ is_eligible g rules (can g rules) m s
      eligible-is m i j t (yes z) c s = ap (λ (o : ℕ). bit o s) (q.eligible-others m (λ y. omega arith)) ∙ w.eligible-is m (omega arith) j t c s
      eligible-is m i j t (no z) c s =
          let y : m ≡ n - 1 = omega arith in
          subst (λ (m : ℕ). bit (get_or eligible m 0) s ≡ is_eligible g rules (can g rules) m s) (sym y)
          (q.eligible-is (feasible-here ∙ subst (λ (m : ℕ). can g rules m ≡ true) y t) (subst (λ (m : ℕ). chooses (node_at g m) ≡ true) y c) s
          ∙ eligible-alike g A rules (bit feasible) (can g rules) (n - 1) above s)

      values : (m : ℕ) → n - 1 ≤ m → m < length g → can g rules m ≡ true → Dec (n - 1 < m) → values_from (node_at g m).variables (slot_at slots m).bits 0 ≡ Option.get_or (rules.least m) []
      values m i j t (yes z) =
          ap (λ (x : Slot). values_from (node_at g m).variables x.bits 0) (at_other m (λ y. omega arith)) ∙ w.values m (omega arith) j t
      values m i j t (no z) =
          let y : m ≡ n - 1 = omega arith in
          subst (λ (m : ℕ). values_from (node_at g m).variables (slot_at slots m).bits 0 ≡ Option.get_or (rules.least m) []) (sym y)
          (ap (λ (x : Slot). values_from (node_at g (n - 1)).variables x.bits 0) at-node ∙ q.values (feasible-here ∙ subst (λ (m : ℕ). can g rules m ≡ true) y t))

  pub sweep_infeasible : r ≡ false → Swept schema qs (n - 1) feasible eligible slots
  sweep_infeasible e = turn feasible (λ m y. refl) (w.blank (n - 1) (omega arith) ∙ sym e)

  pub sweep_feasible : {feasible' : ℕ} → r ≡ true → feasible' ≡ with feasible (n - 1) → Swept schema qs (n - 1) feasible' eligible slots
  sweep_feasible {feasible'} e v = turn feasible' (λ m y. in-set m ∙ ap (λ (b : Bool). bit feasible m || b) (ne_eqb m (n - 1) y) ∙ no_more (bit feasible m)) (in-set (n - 1) ∙ or_right (bit feasible (n - 1)) (eqb (n - 1) (n - 1)) (eq-eqb (n - 1) (n - 1) refl) ∙ sym e)
    where
      in-set : (m : ℕ) → bit feasible' m ≡ bit feasible m || eqb m (n - 1)
      in-set m = ap (λ (x : ℕ). bit x m) v ∙ with-bit feasible (n - 1) m (omega (arith, A.few))

      no_more : (b : Bool) → b || false ≡ b
      no_more true = refl
      no_more false = refl

pub sweep_exit : (schema : List ℕ) (qs : List Policy) (n feasible : ℕ) (eligible : List ℕ) (slots : List Slot) → Swept schema qs n feasible eligible slots → n ≤ 0 → Swept schema qs 0 feasible eligible slots
sweep_exit schema qs n feasible eligible slots w h = let z : n ≡ 0 = omega arith in subst (λ (m : ℕ). Swept schema qs m feasible eligible slots) z w
