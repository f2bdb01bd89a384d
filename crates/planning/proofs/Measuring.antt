-- How long the file of some nodes is: the sum node by node, and that a plan's file is so long for the nodes that it reaches.
-- Rests on the entries of a plan, on the laws of bits of the crate numbers, and on a sound schema for the greatest length.
use mathlib.Core.Path.{◌≡◌, refl, ap, sym, ◌∙◌}
use mathlib.Core.Bool.{Bool, true, false, cond, ◌||◌}
use mathlib.Core.List.{List, []}
use Prim.Native.Nat.{ℕ, zero, suc, ◌+◌, ◌*◌, ◌≤◌, ◌<◌}
use native.Mathlib.Omega.{arith}
use native.Mathlib.Decide.{dec_lt}
use borrow.Author.Tests.{eq-eqb, ne_eqb}
use lib.ListN.{length, length-append}
use mir.Val.{Fits}
use mir.Syntax.{w64}
use Rattle.fields.proofs.Tests.{is-not}
use Rattle.numbers.specs.Bits.{bit, with}
use Rattle.numbers.proofs.Bits.{no-bit, with-bit}
use Rattle.schema.specs.Schema.{Node, schema_of, node_at}
use Rattle.schema.specs.Table.{AtMost}
use Rattle.schema.proofs.Sound.{Sound}
use Rattle.instances.specs.Instance.{Entry}
use Rattle.instances.specs.File.{most_bytes, values_width, encode_entry, encode_entries, encode}
use Rattle.instances.specs.Plan.{planned, nodes_of, plan_of}
use Rattle.instances.specs.declared.Slot.{Slot}
use Rattle.instances.proofs.Lengths.{entry-most}
use Rattle.instances.proofs.Entries.{planned-length, head-length, Own, own, AscendingFrom, none, more, planned-ascending, nodes-from}
use Rattle.planning.specs.Plan.{entries_length, file_length}

-- ---- the sum so far

pub record Summing (g : List Node) (nodes n sum : ℕ) : Type 0 where
  pub is : sum ≡ entries_length g nodes n
  pub most : sum ≤ 20 * n
  pub below : n ≤ length g

pub summing_init : (g : List Node) (nodes : ℕ) → Summing g nodes 0 0
unfolding entries_length
summing_init g nodes = record { is = refl; most = omega arith; below = omega arith }

module _ (f : List ℕ) (nodes n sum : ℕ) {c : ℕ} (w : Summing (schema_of f) nodes n sum) (l : AtMost 64 (length (schema_of f)) c) where
  pub summing_exit : c ≤ n → AtMost 1280 (entries_length (schema_of f) nodes (length (schema_of f))) sum
  summing_exit h =
      let z : n ≡ length (schema_of f) = omega (arith, l.is, w.below) in
      record { is = w.is ∙ ap (entries_length (schema_of f) nodes) z; most = omega (arith, w.most, w.below, l.is, l.most) }

  module _ (h : n < c) where
    pub summing_small : n < 64
    summing_small = omega (arith, l.most)

    pub summing_fits : {x k : ℕ} → AtMost 16 x k → Fits w64 (sum + (4 + k))
    summing_fits d = record { fits = omega (arith, w.most, l.most, d.most) }

    module _ {t : Bool} (e : t ≡ bit nodes n) where
      next : {u : Bool} → t ≡ u → entries_length (schema_of f) nodes (n + 1) ≡ entries_length (schema_of f) nodes n + cond u (4 + values_width (node_at (schema_of f) n).variables) 0
      unfolding entries_length
      next q = let z : n + 1 ≡ suc n = omega arith in rw (z, sym e ∙ q)

      pub summing_take : {k r : ℕ} → t ≡ true → AtMost 16 (values_width (node_at (schema_of f) n).variables) k → r ≡ sum + (4 + k) → Summing (schema_of f) nodes (n + 1) r
      summing_take q d i = record { is = omega (arith, w.is, d.is, next q); most = omega (arith, w.most, d.most); below = omega (arith, l.is) }

      pub summing_skip : {r : ℕ} → t ≡ false → r ≡ sum → Summing (schema_of f) nodes (n + 1) r
      summing_skip q i = record { is = omega (arith, w.is, next q); most = omega (arith, w.most); below = omega (arith, l.is) }

pub file_sum : (g : List Node) (nodes : ℕ) {r : ℕ} → AtMost 1280 (entries_length g nodes (length g)) r → AtMost most_bytes (file_length g nodes) (3 + r)
unfolding file_length
file_sum g nodes w = record { is = ap (λ (k : ℕ). 3 + k) w.is; most = omega (arith, w.most) }

-- ---- a plan's file

module _ (g : List Node) where
  abbrev width : ℕ → ℕ
  width n = 4 + values_width (node_at g n).variables

  no-nodes : (n : ℕ) → entries_length g 0 n ≡ 0
  unfolding entries_length
  no-nodes zero = refl
  no-nodes (suc n) = rw (no-bit n) (omega (arith, no-nodes n))

  -- one node more
  module _ (nodes m : ℕ) (small : m < 64) (new : bit nodes m ≡ false) where
    others_same : (j : ℕ) → (j ≡ m → ⊥) → bit (with nodes m) j ≡ bit nodes j
    others_same j h = with-bit nodes m j small ∙ ap (λ (b : Bool). bit nodes j || b) (ne_eqb j m h) ∙ or-none (bit nodes j)
      where
        or-none : (a : Bool) → a || false ≡ a
        or-none true = refl
        or-none false = refl

    new-set : bit (with nodes m) m ≡ true
    new-set = with-bit nodes m m small ∙ rw (new, eq-eqb m m refl)

    below_new : (j : ℕ) → j ≤ m → entries_length g (with nodes m) j ≡ entries_length g nodes j
    unfolding entries_length
    below_new zero h = refl
    below_new (suc j) h = rw (others_same j (λ e. omega arith)) (omega (arith, below_new j (omega arith)))

    above_new : (j : ℕ) → m < j → entries_length g (with nodes m) j ≡ entries_length g nodes j + width m
    unfolding entries_length
    above_new zero h = absurd (omega arith)
    above_new (suc j) h = go (λ k. above_new j k) (dec_lt m j)
      where
        go : (m < j → entries_length g (with nodes m) j ≡ entries_length g nodes j + width m) → Dec (m < j) → entries_length g (with nodes m) (suc j) ≡ entries_length g nodes (suc j) + width m
        go ih (yes k) = rw (others_same j (λ e. omega arith)) (omega (arith, ih k))
        go ih (no k) = let z : j ≡ m = omega arith in rw (z, new-set, new) (omega (arith, below_new m (omega arith)))

  entries-sum : (plan : ℕ → Entry) → Own plan → {k n : ℕ} {es : List Entry} → k ≤ 64 → ((m : ℕ) → length (encode_entry g (plan m)) ≡ width m) → AscendingFrom plan k n es
      → entries_length g (nodes_of es) k ≡ length (encode_entries g es)
  unfolding nodes_of encode_entries
  entries-sum plan mine {k} h long none = no-nodes k
  entries-sum plan mine {k} h long (more m {es} a b f) =
      let new = is-not (bit (nodes_of es) m) (λ t. let z = nodes-from plan mine h f m t in omega arith) in
      ap (λ (j : ℕ). entries_length g (with (nodes_of es) j) k) (mine m)
      ∙ omega (
        arith,
        above_new (nodes_of es) m (omega arith) new k b,
        entries-sum plan mine h long f,
        long m,
        length-append (encode_entry g (plan m)) (encode_entries g es),
      )

  pub file-length-is : length g ≤ 64 → (slots : List Slot) → file_length g (nodes_of (planned g (plan_of g slots))) ≡ length (encode g (planned g (plan_of g slots)))
  unfolding file_length
  file-length-is h slots =
      let plan = plan_of g slots in
      omega (arith, head-length g (planned g plan), entries-sum plan (own g slots) h (planned-length g slots) (planned-ascending plan g))

  -- and none is longer
  module _ (S : Sound g) (nodes : ℕ) where
    entry-width : (n : ℕ) (b : Bool) → cond b (width n) 0 ≤ 20
    entry-width n true = omega (arith, planned-length g [] n, entry-most g S (plan_of g [] n))
    entry-width n false = omega arith

    sum-most : (n : ℕ) → entries_length g nodes n ≤ 20 * n
    unfolding entries_length
    sum-most zero = omega arith
    sum-most (suc n) = omega (arith, sum-most n, entry-width n (bit nodes n))

    pub file-length-most : file_length g nodes ≤ most_bytes
    unfolding file_length
    file-length-most = omega (arith, sum-most (length g), S.few)
