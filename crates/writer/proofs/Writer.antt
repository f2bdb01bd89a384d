-- Writing at a growing position: with the rest put from here, the buffer is what it shall be.
-- Rests on the laws of `put` of the crate fields, on the walk over a plan's entries, and on a sound schema for their number.
use mathlib.Core.Path.{◌≡◌, refl, ap, ◌∙◌, subst}
use mathlib.Core.List.{List, [], ◌∷◌, ◌++◌, map}
use Prim.Native.Nat.{ℕ, ◌+◌, ◌%◌, ◌^◌, ◌≤◌, ◌<◌}
use native.Mathlib.Omega.{arith}
use native.Mathlib.Nat.{zero-add}
use lib.IntN.{ℤ}
use lib.ListN.{length, get_or, drop, drop_of_length-le}
use mir.Val.{to_z, of_z, Fits}
use mir.ValLaws.{of_z-to_z}
use mir.Syntax.{w8, w32}
use Rattle.fields.specs.Writing.{spell, put, Wrote}
use Rattle.fields.proofs.Bytes.{Bytes, spell-length}
use Rattle.fields.proofs.Putting.{Putting, putting-init, putting-step, putting-exit, wrote_then, wrote-before}
use Rattle.schema.specs.Schema.{Node, schema_of, node_at, no_variable}
use Rattle.schema.specs.Table.{Accepted, AtMost}
use Rattle.schema.specs.declared.Variable.{Variable}
use Rattle.schema.specs.declared.Variable.TheVariants.{Number, Listed}
use Rattle.schema.proofs.Accepted.{sound}
use Rattle.schema.proofs.Access.{node_small}
use Rattle.instances.specs.Instance.{Entry}
use Rattle.instances.specs.File.{IH, IN, value_width, values_width, value_of, encode_value, encode_values, encode_entry, encode_entries, encode}
use Rattle.instances.specs.Plan.{planned, values_from, slot_at, plan_of, held}
use Rattle.instances.specs.declared.Slot.{Slot}
use Rattle.instances.proofs.Lengths.{width-number, width-listed}
use Rattle.instances.proofs.Planned.{from-few}
use Rattle.instances.proofs.Entries.{values_bytes, values_length, entries-length, head-length}
use Rattle.instances.proofs.Walk.{Walk, walk-exit, walk-holds, walk_step}
use Rattle.instances.proofs.Node.{vars_more}

-- ---- a value

low_byte : (u : ℕ) → spell 1 (u % 256) ≡ spell 1 u
unfolding spell
low_byte u = ap (λ (k : ℕ). k ∷ []) (omega arith)

module _ (at room : ℕ) (v : Variable) (h : at + value_width v ≤ room) where
  pub number_room : {lo hi : ℤ} → v ≡ Number lo hi → at + 4 ≤ room
  number_room e = omega (arith, width-number v e)

  pub listed_room : {size : ℕ} → v ≡ Listed size → at + 1 ≤ room
  listed_room e = omega (arith, width-listed v e)

module _ (b : List ℕ) (at u : ℕ) (v : Variable) {c : List ℕ} where
  pub number_wrote : {lo hi : ℤ} → v ≡ Number lo hi → u < 2 ^ 32 → c ≡ put b at (spell 4 u) → Wrote b at (encode_value v (value_of v u)) c (at + 4)
  unfolding encode_value value_of
  number_wrote e h k =
      let z : of_z w32 (to_z w32 u) ≡ u = of_z-to_z w32 u (record { fits = h }) in
      rw (e, z) (record { holds = k; next = omega (arith, spell-length 4 u) })

  pub listed_wrote : {size : ℕ} → v ≡ Listed size → c ≡ put b at (spell 1 (u % 256)) → Wrote b at (encode_value v (value_of v u)) c (at + 1)
  unfolding encode_value value_of
  listed_wrote e k = rw e (record { holds = k ∙ ap (put b at) (low_byte u); next = omega (arith, spell-length 1 u) })

-- ---- a node's values, from variable k on

abbrev pub PuttingValues : Node → List ℕ → ℕ → List ℕ → ℕ → List ℕ → ℕ → Type 0
PuttingValues x bits k b₀ from b at = Putting b₀ from (values_bytes x.variables bits 0) b at (values_bytes (drop k x.variables) bits k)

pub values_init : (x : Node) (bits : List ℕ) (b : List ℕ) (from : ℕ) → PuttingValues x bits 0 b from b from
values_init x bits b from = putting-init b from (values_bytes x.variables bits 0)

module _ (x : Node) (bits : List ℕ) (k : ℕ) (b₀ : List ℕ) (from : ℕ) (b : List ℕ) (at : ℕ) {c : ℕ} (w : PuttingValues x bits k b₀ from b at) (l : AtMost 4 (length x.variables) c) where
  pub values_room : {v : Variable} → k < c → v ≡ get_or x.variables k no_variable → from + values_width x.variables ≤ length b₀ → at + value_width v ≤ length b
  unfolding values_width
  values_room h e r =
      omega (
        arith,
        w.offset,
        w.long,
        values_length x.variables bits 0,
        values_length (drop k x.variables) bits k,
        ap values_width (vars_more x k l h e),
      )

  pub values_step : {v : Variable} {d : List ℕ} {r : ℕ} → k < c → from + values_width x.variables ≤ length b₀ → v ≡ get_or x.variables k no_variable
      → Wrote b at (encode_value v (value_of v (get_or bits k 0))) d r → length d ≡ length b → PuttingValues x bits (k + 1) b₀ from d r
  unfolding values_from encode_values
  values_step {v} {d} {r} h y e q z =
      let this = encode_value v (value_of v (get_or bits k 0)) in
      let t = subst (λ (vs : List Variable). Putting b₀ from (values_bytes x.variables bits 0) b at (values_bytes vs bits k)) (vars_more x k l h e) w in
      putting-step this (values_bytes (drop (k + 1) x.variables) bits (k + 1)) t (let a = values_room h e y in omega arith) q z

  pub values_exit : c ≤ k → Wrote b₀ from (values_bytes x.variables bits 0) b at
  unfolding values_from encode_values
  values_exit h =
      putting-exit (subst (λ (vs : List Variable). Putting b₀ from (values_bytes x.variables bits 0) b at (values_bytes vs bits k))
      (drop_of_length-le x.variables {i = k} (omega (arith, l.is))) w)

-- ---- an entry

pub node_fits : (s : List ℕ) (n : ℕ) → n < length (schema_of s) → Fits w8 n
node_fits s n i = let z = node_small s n i in record { fits = omega arith }

pub entry_wrote : (g : List Node) (slots : List Slot) (b : List ℕ) (n from : ℕ) {c₁ c₂ c₃ d : List ℕ} {r : ℕ} → from + 4 + values_width (node_at g n).variables ≤ length b → c₁ ≡ put b from IN → c₂ ≡ put c₁ (from + 2) (spell 1 n)
    → c₃ ≡ put c₂ (from + 3) (spell 1 (slot_at slots n).choice) → Wrote c₃ (from + 4) (values_bytes (node_at g n).variables (slot_at slots n).bits 0) d r
    → Wrote b from (encode_entry g (plan_of g slots n)) d r
unfolding encode_entry plan_of
entry_wrote g slots b n from {c₁} {c₂} {c₃} h e₁ e₂ e₃ w =
    let nb = spell 1 n in
    let cb = spell 1 (slot_at slots n).choice in
    let w₁ : Wrote b from IN c₁ (from + 2) = record { holds = e₁; next = refl } in
    let w₂ : Wrote c₁ (from + 2) nb c₂ (from + 3) = record { holds = e₂; next = omega (arith, spell-length 1 n) } in
    let w₃ : Wrote c₂ (from + 3) cb c₃ (from + 4) = record { holds = e₃; next = omega (arith, spell-length 1 (slot_at slots n).choice) } in
    wrote_then (IN ++ nb ++ cb) (values_bytes (node_at g n).variables (slot_at slots n).bits 0) (wrote_then (IN ++ nb) cb (wrote_then IN nb w₁ w₂ (omega arith)) w₃ (omega arith)) w (omega arith)

-- ---- the entries, and the head before them

-- with the rest of them put from here and counted, the file is what it shall be
pub record PuttingEntries (f : List ℕ) (slots : List Slot) (b₀ : List ℕ) (at count : ℕ) (b : List ℕ) (rest : List Entry) : Type 0 where
  pub done : Putting b₀ 3 (encode_entries (schema_of f) (held f slots)) b at (encode_entries (schema_of f) rest)
  pub counts : count + length rest ≡ length (held f slots)

pub entries_init : (f : List ℕ) (slots : List Slot) (b : List ℕ) → PuttingEntries f slots b 3 0 b (held f slots)
entries_init f slots b = record { done = putting-init b 3 (encode_entries (schema_of f) (held f slots)); counts = zero-add (length (held f slots)) }

module _ {f : List ℕ} {slots : List Slot} {b₀ left : List ℕ} {at count : ℕ} {b : List ℕ} (w : Walk f slots (PuttingEntries f slots b₀ at count b) left) where
  abbrev g : List Node
  g = schema_of f

  pub entries_few : Accepted f → Bytes f → count + 1 < 256
  unfolding planned
  entries_few a x = omega (arith, w.holds.counts, from-few g (plan_of g slots) (length g) 0 [], (sound f x a.some).few)

  module _ (room : length (encode (schema_of f) (held f slots)) ≤ length b₀) where
    pub head_room : (c : List ℕ) (k : ℕ) → k ≤ 3 → length c ≡ length b → k ≤ length c
    head_room c k h e = omega (arith, w.holds.done.long, head-length g (held f slots))

    pub file_wrote : {c d : List ℕ} → left ≡ [] → c ≡ put b 0 IH → d ≡ put c 2 (spell 1 count) → Wrote b₀ 0 (encode (schema_of f) (held f slots)) d at
    unfolding encode encode_entries
    file_wrote {c} {d} t e₁ e₂ =
        let mb = spell 1 count in
        let end = walk-exit w t in
        let z : length (held f slots) ≡ count = omega (arith, end.counts) in
        let room : 3 ≤ length b = head_room b 3 (omega arith) refl in
        let head : Wrote b 0 (IH ++ mb) d 3 = wrote_then IH mb (record { holds = e₁; next = refl }) (record { holds = e₂; next = omega (arith, spell-length 1 count) }) (omega arith) in
        rw z (wrote-before (IH ++ mb) (encode_entries g (held f slots)) (putting-exit end.done) head (omega (arith, w.holds.done.long)))

    module _ {n : ℕ} {others : List ℕ} (t : left ≡ n ∷ others) where
      pub entries_room : at + 4 + values_width (node_at (schema_of f) n).variables ≤ length b
      entries_room =
          let d = (walk-holds w t).done in
          omega (arith, d.offset, d.long, head-length g (held f slots), entries-length g slots n (map (plan_of g slots) others))

      pub entries_step : {r : ℕ} {d : List ℕ} → Wrote b at (encode_entry (schema_of f) (plan_of (schema_of f) slots n)) d r → length d ≡ length b
          → Walk f slots (PuttingEntries f slots b₀ r (count + 1) d) others
      unfolding encode_entries
      entries_step k l =
          let h = walk-holds w t in
          walk_step w t
          (record {
            done = putting-step (encode_entry g (plan_of g slots n)) (encode_entries g (map (plan_of g slots) others)) h.done (omega (arith, entries_room)) k l;
            counts = omega (arith, h.counts);
          })
