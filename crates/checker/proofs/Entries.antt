-- An entry is its choice and then its values; the entries of the nodes that are left are to judge, the lowest node's first.
-- Rests on the walk over a plan's entries, and on that the longest file is short.
use mathlib.Core.Path.{◌≡◌, refl, sym, ◌∙◌}
use mathlib.Core.Bool.{Bool, true, false}
use mathlib.Core.List.{List, [], ◌∷◌, map}
use mathlib.Core.Option.{Option, none, some}
use Prim.Native.Nat.{ℕ, ◌+◌, ◌≤◌}
use native.Mathlib.Omega.{arith}
use lib.ListN.{length}
use mir.Syntax.{w64}
use mir.Val.{Fits}
use Rattle.fields.proofs.Bytes.{Bytes}
use Rattle.schema.specs.Schema.{Node, schema_of, node_at}
use Rattle.schema.specs.Table.{Accepted, AtMost}
use Rattle.schema.proofs.Accepted.{sound}
use Rattle.policies.specs.Policies.{Policy}
use Rattle.instances.specs.Instance.{Entry}
use Rattle.instances.specs.File.{values_width, encode_entry, encode_entries}
use Rattle.instances.specs.Plan.{values_from, slot_at, plan_of, held}
use Rattle.instances.specs.declared.Slot.{Slot}
use Rattle.instances.proofs.Planned.{planned-longest}
use Rattle.instances.proofs.Entries.{planned-length, entries-length, head-length}
use Rattle.instances.proofs.Walk.{Walk, walk-exit, walk-holds, walk_step}
use Rattle.model.specs.Satisfaction.{choice_meets}
use Rattle.model.specs.Comparing.{forbidden_value, forbidden_entry, or_next, forbidden_from, forbidden}
use Rattle.checker.specs.Checks.{Found, forbidden_in, choosing}
use Rattle.std.specs.Prelude.{Some, None}

-- ---- an entry

module _ (g : List Node) (ps : List Policy) (slots : List Slot) (n p : ℕ) {x : ℕ} {c : Bool} (y : x ≡ (slot_at slots n).choice) (e : c ≡ choice_meets g ps (choosing n x)) where
  pub entry_no : c ≡ false → Some (p + 3) ≡ forbidden_in (forbidden_entry g ps (plan_of g slots n) p)
  unfolding forbidden_entry choice_meets plan_of
  entry_no h = rw (← y, sym e ∙ h)

  pub entry_on : {r : Found} → c ≡ true → r ≡ forbidden_in (forbidden_value ps n 0 (node_at g n).variables (values_from (node_at g n).variables (slot_at slots n).bits 0) (p + 4))
      → r ≡ forbidden_in (forbidden_entry g ps (plan_of g slots n) p)
  unfolding forbidden_entry choice_meets plan_of
  entry_on h q = rw (← y, sym e ∙ h) q

-- ---- the loop over the entries

-- those to come end early enough, and the first forbidden field of them is the first of all
pub record JudgingEntries (f : List ℕ) (slots : List Slot) (ps : List Policy) (p : ℕ) (rest : List Entry) : Type 0 where
  pub room : p + length (encode_entries (schema_of f) rest) ≤ 1283
  pub same : forbidden_in (forbidden_from (schema_of f) ps rest p) ≡ forbidden_in (forbidden (schema_of f) ps (held f slots))

pub entries_init : (f : List ℕ) (slots : List Slot) (ps : List Policy) → Accepted f → Bytes f → JudgingEntries f slots ps 3 (held f slots)
unfolding forbidden
entries_init f slots ps a b =
    record { room = omega (arith, head-length (schema_of f) (held f slots), planned-longest (schema_of f) (sound f b a.some) (plan_of (schema_of f) slots)); same = refl }

first_stops : (x y : Option ℕ) {X : Found} {o : ℕ} → forbidden_in (or_next x y) ≡ X → forbidden_in x ≡ Some o → Some o ≡ X
first_stops none y e h = absurd (let z : ◌≡◌ {A = ℕ} 0 1 = cc in omega arith)
first_stops (some q) y e h = sym h ∙ e

first_passes : (x y : Option ℕ) {X : Found} → forbidden_in (or_next x y) ≡ X → forbidden_in x ≡ None → forbidden_in y ≡ X
first_passes none y e h = e
first_passes (some q) y e h = absurd (let z : ◌≡◌ {A = ℕ} 0 1 = cc in omega arith)

module _ {f : List ℕ} {slots : List Slot} {ps : List Policy} {left : List ℕ} {p : ℕ} (w : Walk f slots (JudgingEntries f slots ps p) left) where
  pub entries_exit : left ≡ [] → None ≡ forbidden_in (forbidden (schema_of f) ps (held f slots))
  unfolding forbidden_from
  entries_exit t = (walk-exit w t).same

  pub entries_head_fits : Fits w64 (p + 4)
  entries_head_fits = record { fits = omega (arith, w.holds.room) }

  pub entries_fits : {x k : ℕ} → AtMost 16 x k → Fits w64 (p + 4 + k)
  entries_fits v = record { fits = omega (arith, w.holds.room, v.most) }

  module _ {n : ℕ} {others : List ℕ} (t : left ≡ n ∷ others) where
    abbrev here : Option ℕ
    here = forbidden_entry (schema_of f) ps (plan_of (schema_of f) slots n) p

    abbrev later : Option ℕ
    later = forbidden_from (schema_of f) ps (map (plan_of (schema_of f) slots) others) (p + length (encode_entry (schema_of f) (plan_of (schema_of f) slots n)))

    pub entries_room : p + 4 + values_width (node_at (schema_of f) n).variables ≤ 1283
    entries_room = omega (arith, (walk-holds w t).room, entries-length (schema_of f) slots n (map (plan_of (schema_of f) slots) others))

    module _ {x : Found} (d : x ≡ forbidden_in (forbidden_entry (schema_of f) ps (plan_of (schema_of f) slots n) p)) where
      pub entries_no : {o : ℕ} → x ≡ Some o → Some o ≡ forbidden_in (forbidden (schema_of f) ps (held f slots))
      unfolding forbidden_from
      entries_no e = first_stops here later (walk-holds w t).same (sym d ∙ e)

      pub entries_step : {k : ℕ} → AtMost 16 (values_width (node_at (schema_of f) n).variables) k → x ≡ None → Walk f slots (JudgingEntries f slots ps (p + 4 + k)) others
      unfolding forbidden_from
      entries_step {k} v e =
          let z : p + length (encode_entry (schema_of f) (plan_of (schema_of f) slots n)) ≡ p + 4 + k = omega (arith, planned-length (schema_of f) slots n, v.is) in
          walk_step w t
          (record {
            room = omega (arith, (walk-holds w t).room, entries-length (schema_of f) slots n (map (plan_of (schema_of f) slots) others), v.is);
            same = rw (← z) (first_passes here later (walk-holds w t).same (sym d ∙ e));
          })
