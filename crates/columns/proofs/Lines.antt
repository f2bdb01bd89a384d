-- The columns of a line put in turn, and the lines: with the rest put from here, the buffer is what it shall be.
-- Rests on the laws of `put` of the crate fields, and on the walk over a plan's entries.
use mathlib.Core.Path.{◌≡◌, ap, sym, ◌∙◌}
use mathlib.Core.List.{List, [], ◌∷◌, ◌++◌, map, append_assoc, append-nil}
use Prim.Native.Nat.{ℕ, suc, ◌+◌, ◌*◌, ◌-◌, ◌≤◌, ◌<◌}
use native.Mathlib.Omega.{arith}
use lib.ListN.{length, get_or, set, take, drop, drop_of_length-le}
use borrow.Rule.Slice.PartMut.{put_mid}
use Rattle.fields.specs.Writing.{Wrote}
use Rattle.fields.proofs.Bytes.{Bytes}
use Rattle.fields.proofs.Putting.{Putting, putting-init, putting-step, putting-exit, wrote_then, wrote-byte}
use Rattle.decimals.specs.Decimal.{decimal}
use Rattle.numbers.specs.Bits.{cardinality}
use Rattle.schema.specs.Schema.{Node, schema_of, node_at, no_variable}
use Rattle.schema.specs.Table.{Accepted, AtMost}
use Rattle.schema.specs.declared.Variable.{Variable}
use Rattle.instances.specs.Instance.{Entry}
use Rattle.instances.specs.File.{value_of}
use Rattle.instances.specs.Plan.{nodes_of, values_from, slot_at, plan_of, held}
use Rattle.instances.specs.declared.Slot.{Slot}
use Rattle.instances.proofs.Node.{vars_more}
use Rattle.instances.proofs.Walk.{Walk, held-count, walk-exit, walk-holds, walk_step}
use Rattle.columns.specs.Sheet.{spaces, right_aligned, signed_decimal, choice_column, value_columns, sheet_line, sheet, line_bytes}
use Rattle.columns.proofs.Columns.{spaces_wrote, spaces_long}
use Rattle.columns.proofs.Lengths.{no-values}

-- ---- a node's values

-- the columns from variable k's on
abbrev columns_from : Node → List ℕ → ℕ → List ℕ
columns_from x bits k = value_columns (4 - k) (values_from (drop k x.variables) bits k)

-- they are still to be put, from here
pub record PuttingValues (x : Node) (bits : List ℕ) (k : ℕ) (b₀ : List ℕ) (from : ℕ) (b : List ℕ) (at : ℕ) : Type 0 where
  pub done : Putting b₀ from (value_columns 4 (values_from x.variables bits 0)) b at (columns_from x bits k)
  pub offset : at ≡ from + 12 * k
  pub upto : k ≤ 4

pub values_init : (x : Node) (bits : List ℕ) (b : List ℕ) (from : ℕ) → PuttingValues x bits 0 b from b from
values_init x bits b from =
    record { done = putting-init b from (value_columns 4 (values_from x.variables bits 0)); offset = omega arith; upto = omega arith }

module _ (x : Node) (bits : List ℕ) (k : ℕ) (b₀ : List ℕ) (from : ℕ) (b : List ℕ) (at : ℕ) {c : ℕ} (w : PuttingValues x bits k b₀ from b at)
    (l : AtMost 4 (length x.variables) c) (r : from + 48 ≤ length b₀) where
  pub values_step : {v : Variable} {d : List ℕ} → k < c → v ≡ get_or x.variables k no_variable
      → Wrote b at (spaces 1 ++ right_aligned 11 (signed_decimal (value_of v (get_or bits k 0)))) d (at + 12) → length d ≡ length b
      → PuttingValues x bits (k + 1) b₀ from d (at + 12)
  unfolding values_from value_columns
  values_step {v} h e q y =
      let text = right_aligned 11 (signed_decimal (value_of v (get_or bits k 0))) in
      let j : 4 - k ≡ suc (4 - (k + 1)) = omega arith in
      let m : columns_from x bits k ≡ (spaces 1 ++ text) ++ columns_from x bits (k + 1) = rw (vars_more x k l h e, j) in
      record {
        done = putting-step (spaces 1 ++ text) (columns_from x bits (k + 1)) (rw m at w.done) (omega arith) q y;
        offset = omega arith;
        upto = omega arith;
      }

  pub values_end : at ≤ from + 48
  values_end = omega (arith, w.offset, w.upto)

  pub values_exit : {ys : List ℕ} → c ≤ k → ys ≡ spaces (length (take (from + 48 - at) (drop at b)))
      → Wrote b₀ from (value_columns 4 (values_from x.variables bits 0)) (put_mid at (from + 48 - at) b ys) (from + 48)
  unfolding values_from
  values_exit h e =
      let long : from + 48 ≤ length b = omega (arith, w.done.long) in
      let q = spaces_wrote b at (from + 48) values_end long e in
      let y = spaces_long b at (from + 48) values_end long e in
      let z : 12 * (4 - k) ≡ from + 48 - at = omega arith in
      let m : columns_from x bits k ≡ spaces (from + 48 - at) ++ [] =
      rw (drop_of_length-le x.variables {i = k} (omega arith)) (no-values (4 - k) ∙ ap spaces z ∙ sym (append-nil (spaces (from + 48 - at)))) in
      putting-exit (putting-step (spaces (from + 48 - at)) [] (rw m at w.done) (omega arith) q y)

-- ---- a line

pub line_wrote : (g : List Node) (slots : List Slot) (b : List ℕ) (n at : ℕ) {b₁ b₂ b₃ : List ℕ} → at + line_bytes ≤ length b → Wrote b at (right_aligned 2 (decimal n)) b₁ (at + 2)
    → Wrote b₁ (at + 2) (spaces 1 ++ choice_column (slot_at slots n).choice) b₂ (at + 2 + 4) → Wrote b₂ (at + 2 + 4) (value_columns 4 (values_from (node_at g n).variables (slot_at slots n).bits 0)) b₃ (at + 2 + 4 + 48)
    → length b₁ ≡ length b → length b₂ ≡ length b₁ → length b₃ ≡ length b₂ → Wrote b at (sheet_line (plan_of g slots n)) (set b₃ (at + 2 + 4 + 48) 10) (at + line_bytes)
unfolding sheet_line plan_of
line_wrote g slots b n at h w₁ w₂ w₃ l₁ l₂ l₃ =
    let node = right_aligned 2 (decimal n) in
    let choice = choice_column (slot_at slots n).choice in
    let values = value_columns 4 (values_from (node_at g n).variables (slot_at slots n).bits 0) in
    let z : at + line_bytes ≡ at + 2 + 4 + 48 + 1 = omega arith in
    rw (z, append_assoc node (spaces 1) choice)
    (wrote-byte (node ++ (spaces 1 ++ choice) ++ values) 10
    (wrote_then (node ++ (spaces 1 ++ choice)) values (wrote_then node (spaces 1 ++ choice) w₁ w₂ (omega arith)) w₃ (omega arith)) (omega arith) (omega arith))

-- ---- the lines, the lowest node's first

-- with the rest of them put from here the sheet is what it shall be, and there is room for them
pub record PuttingLines (f : List ℕ) (slots : List Slot) (b₀ : List ℕ) (at : ℕ) (b : List ℕ) (rest : List Entry) : Type 0 where
  pub done : Putting b₀ 0 (sheet (held f slots)) b at (sheet rest)
  pub room : at + line_bytes * length rest ≤ length b

pub lines_init : (f : List ℕ) (slots : List Slot) (b : List ℕ) {left : ℕ} → Accepted f → Bytes f → left ≡ nodes_of (held f slots) → line_bytes * cardinality left ≤ length b
    → PuttingLines f slots b 0 b (held f slots)
lines_init f slots b a x e h =
    record { done = putting-init b 0 (sheet (held f slots)); room = omega (arith, held-count f slots a x, ap cardinality e) }

module _ {f : List ℕ} {slots : List Slot} {b₀ left : List ℕ} {at : ℕ} {b : List ℕ} (w : Walk f slots (PuttingLines f slots b₀ at b) left) where
  pub lines_exit : left ≡ [] → Wrote b₀ 0 (sheet (held f slots)) b at
  unfolding sheet
  lines_exit t = putting-exit (walk-exit w t).done

  module _ {n : ℕ} {others : List ℕ} (t : left ≡ n ∷ others) where
    pub lines_room : at + line_bytes ≤ length b
    lines_room = omega (arith, (walk-holds w t).room)

    pub lines_step : {d : List ℕ} → Wrote b at (sheet_line (plan_of (schema_of f) slots n)) d (at + line_bytes) → length d ≡ length b
        → Walk f slots (PuttingLines f slots b₀ (at + line_bytes) d) others
    unfolding sheet
    lines_step q y =
        let k = walk-holds w t in
        walk_step w t
        (record {
          done = putting-step (sheet_line (plan_of (schema_of f) slots n)) (sheet (map (plan_of (schema_of f) slots) others)) k.done (omega arith) q y;
          room = omega arith;
        })
