-- The entries of a plan: the bytes of each, and their nodes as bits, ascending from the lowest on.
-- Rests on the laws of bits of the crate numbers, and on the definition of `planned`.
use mathlib.Core.Path.{◌≡◌, refl, ap, sym, ◌∙◌}
use mathlib.Core.Logic.{◌⊎◌, inl, inr}
use mathlib.Core.Bool.{Bool, true, false, cond, ◌||◌}
use mathlib.Core.List.{List, [], ◌∷◌, ◌++◌}
use Prim.Native.Nat.{ℕ, zero, suc, ◌+◌, ◌≤◌, ◌<◌}
use native.Mathlib.Omega.{arith}
use borrow.Author.Tests.{eq-eqb, eqb-true}
use lib.Dec.{eqb}
use lib.ListN.{length, get_or, length-append}
use Rattle.fields.specs.Writing.{spell}
use Rattle.fields.proofs.Bytes.{spell-length}
use Rattle.fields.proofs.Tests.{never, is-not, or-true, or_right}
use Rattle.numbers.specs.Bits.{bit, cardinality}
use Rattle.numbers.specs.Members.{members}
use Rattle.numbers.proofs.Bits.{no-bit, with-bit, turned-with, cardinality-with}
use Rattle.numbers.proofs.InTurn.{members_first}
use Rattle.schema.specs.Schema.{Node, node_at}
use Rattle.schema.specs.declared.Variable.{Variable}
use Rattle.instances.specs.Instance.{Entry}
use Rattle.instances.specs.File.{IH, reached, values_width, value_of, encode_value, encode_values, encode_entry, encode_entries, encode}
use Rattle.instances.specs.Plan.{planned_from, planned, nodes_of, values_from, slot_at, plan_of}
use Rattle.instances.specs.declared.Slot.{Slot}
use Rattle.instances.proofs.Lengths.{value-width, entry_length}

-- ---- bytes

abbrev pub values_bytes : List Variable → List ℕ → ℕ → List ℕ
values_bytes vs bits j = encode_values vs (values_from vs bits j)

pub values_length : (vs : List Variable) (bits : List ℕ) (j : ℕ) → length (values_bytes vs bits j) ≡ values_width vs
unfolding values_from encode_values values_width
values_length [] bits j = refl
values_length (v ∷ vs) bits j =
    let x = value_of v (get_or bits j 0) in
    omega (arith, length-append (encode_value v x) (values_bytes vs bits (j + 1)), value-width v x, values_length vs bits (j + 1))

pub planned-length : (g : List Node) (slots : List Slot) (n : ℕ) → length (encode_entry g (plan_of g slots n)) ≡ 4 + values_width (node_at g n).variables
unfolding plan_of
planned-length g slots n = entry_length g (plan_of g slots n) ∙ ap (λ (k : ℕ). 4 + k) (values_length (node_at g n).variables (slot_at slots n).bits 0)

pub entries-length : (g : List Node) (slots : List Slot) (n : ℕ) (es : List Entry)
    → length (encode_entries g (plan_of g slots n ∷ es)) ≡ 4 + values_width (node_at g n).variables + length (encode_entries g es)
unfolding encode_entries
entries-length g slots n es = omega (arith, length-append (encode_entry g (plan_of g slots n)) (encode_entries g es), planned-length g slots n)

pub head-length : (g : List Node) (i : List Entry) → length (encode g i) ≡ 3 + length (encode_entries g i)
unfolding encode
head-length g i =
    let mb = spell 1 (length i) in
    omega (arith, length-append (IH ++ mb) (encode_entries g i), length-append IH mb, spell-length 1 (length i))

-- ---- nodes

-- a plan's entry for each node is that node's
abbrev pub Own : (ℕ → Entry) → Type 0
Own plan = (n : ℕ) → (plan n).node ≡ n

pub own : (g : List Node) (slots : List Slot) → Own (plan_of g slots)
unfolding plan_of
own g slots n = refl

-- entries of the plan, of ascending nodes from n on and below k
pub data AscendingFrom (plan : ℕ → Entry) (k : ℕ) : ℕ → List Entry → Type 0 where
  none : {n : ℕ} → AscendingFrom plan k n []
  more : {n : ℕ} (m : ℕ) {es : List Entry} → n ≤ m → m < k → AscendingFrom plan k (suc m) es → AscendingFrom plan k n (plan m ∷ es)

module _ (plan : ℕ → Entry) where
  lower : {k m : ℕ} {es : List Entry} (n : ℕ) → n ≤ m → AscendingFrom plan k m es → AscendingFrom plan k n es
  lower n h none = none
  lower n h (more j a b f) = more {n = n} j (omega arith) b f

  from-ascending : (g : List Node) (k n : ℕ) (es : List Entry) {top : ℕ} → n + k ≡ top → AscendingFrom plan top n (planned_from g plan k n es)
  unfolding planned_from
  from-ascending g zero n es e = none
  from-ascending g (suc k) n es {top} e = go (reached g es n) (from-ascending g k (n + 1) (plan n ∷ es) (omega arith)) (from-ascending g k (n + 1) es (omega arith))
    where
      go : (b : Bool) → AscendingFrom plan top (n + 1) (planned_from g plan k (n + 1) (plan n ∷ es)) → AscendingFrom plan top (n + 1) (planned_from g plan k (n + 1) es)
          → AscendingFrom plan top n (cond b (plan n ∷ planned_from g plan k (n + 1) (plan n ∷ es)) (planned_from g plan k (n + 1) es))
      go true t f = more {n = n} n (omega arith) (omega arith) (lower (suc n) (omega arith) t)
      go false t f = lower n (omega arith) f

  pub planned-ascending : (g : List Node) → AscendingFrom plan (length g) 0 (planned g plan)
  unfolding planned
  planned-ascending g = from-ascending g (length g) 0 [] (omega arith)

  module _ (mine : Own plan) {k : ℕ} (small : k ≤ 64) where
    -- one entry more
    first_bit : (m j : ℕ) (es : List Entry) → m < k → bit (nodes_of (plan m ∷ es)) j ≡ bit (nodes_of es) j || eqb j m
    unfolding nodes_of
    first_bit m j es h = rw (mine m) (with-bit (nodes_of es) m j (omega arith))

    -- no bit below the first
    pub nodes-from : {n : ℕ} {es : List Entry} → AscendingFrom plan k n es → (j : ℕ) → bit (nodes_of es) j ≡ true → n ≤ j
    unfolding nodes_of
    nodes-from none j t = never (sym (no-bit j) ∙ t)
    nodes-from {n} (more m {es} a b f) j t = go (λ q. nodes-from f j q) (or-true (bit (nodes_of es) j) (eqb j m) (sym (first_bit m j es b) ∙ t))
      where
        go : (bit (nodes_of es) j ≡ true → suc m ≤ j) → (bit (nodes_of es) j ≡ true) ⊎ (eqb j m ≡ true) → n ≤ j
        go ih (inl q) = let z = ih q in omega arith
        go ih (inr q) = let z = eqb-true j m q in omega arith

    module _ (m : ℕ) (es : List Entry) (h : m < k) where
      first-set : bit (nodes_of (plan m ∷ es)) m ≡ true
      first-set = first_bit m m es h ∙ or_right (bit (nodes_of es) m) (eqb m m) (eq-eqb m m refl)

      -- it is none of the others
      first-new : AscendingFrom plan k (suc m) es → bit (nodes_of es) m ≡ false
      first-new f = is-not (bit (nodes_of es) m) (λ t. let z = nodes-from f m t in omega arith)

      -- the nodes are its own and those of the others
      pub nodes-members : AscendingFrom plan k (suc m) es → members (nodes_of (plan m ∷ es)) ≡ m ∷ members (nodes_of es)
      unfolding nodes_of
      nodes-members f =
          members_first (nodes_of (plan m ∷ es)) m (omega arith) first-set (nodes-from (more {n = m} m (omega arith) h f))
          ∙ ap (λ (x : ℕ). m ∷ members x) (rw (mine m) (turned-with (nodes_of es) m (omega arith) (first-new f)))

      -- one more than the others
      pub nodes-more : AscendingFrom plan k (suc m) es → cardinality (nodes_of (plan m ∷ es)) ≡ suc (cardinality (nodes_of es))
      unfolding nodes_of
      nodes-more f = rw (mine m) (cardinality-with (nodes_of es) m (omega arith) (first-new f))
