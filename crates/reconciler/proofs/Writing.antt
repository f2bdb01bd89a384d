-- The plan's file in the buffer, or 13 or 14.
-- Rests on the contracts of the plan and of the writer.
use mathlib.Core.Path.{◌≡◌, refl, ap, sym, subst, ◌∙◌}
use mathlib.Core.Bool.{Bool, true, false}
use mathlib.Core.List.{List}
use mathlib.Core.Option.{Option, none, some}
use Prim.Native.Nat.{ℕ, ◌≤◌}
use native.Mathlib.Omega.{arith}
use borrow.Author.Tests.{le-ltb, ltb-true, ltb-false}
use lib.Dec.{ltb}
use lib.ListN.{length}
use Rattle.std.specs.Prelude.{Some, None}
use Rattle.fields.specs.Writing.{Wrote}
use Rattle.fields.specs.Answers.{Answer, success, refusal}
use Rattle.fields.specs.Outcomes.{Did}
use Rattle.fields.proofs.Bytes.{Bytes}
use Rattle.fields.proofs.Placed.{placed_short_did, placed_wrote_did}
use Rattle.schema.specs.Schema.{Node, schema_of}
use Rattle.schema.specs.Table.{Accepted, AtMost}
use Rattle.schema.proofs.Accepted.{sound}
use Rattle.instances.specs.Instance.{Entry}
use Rattle.instances.specs.File.{most_bytes, encode}
use Rattle.instances.specs.Plan.{planned, nodes_of, plan_of}
use Rattle.instances.specs.declared.Slot.{Slot}
use Rattle.planning.specs.Plan.{Plan, plan_for, Plans, file_length}
use Rattle.planning.proofs.Measuring.{file-length-is, file-length-most}
use Rattle.calls.specs.Calls.{given}
use Rattle.reconciler.specs.Plan.{held_by}

-- ---- a plan, written

-- what is planned is what the answer and the slots hold
held-is : (g : List Node) (o : Option (List Entry)) (slots : List Slot) {plan : Plan} → Plans g o slots plan → held_by g plan slots ≡ o
unfolding held_by plan_for
held-is g none slots w = ap (λ (x : Plan). held_by g x slots) w.answer
held-is g (some i) slots w = ap (λ (x : Plan). held_by g x slots) w.answer ∙ ap {B = Option (List Entry)} some (w.holds i refl)

module _ (g : List Node) (o : Option (List Entry)) (slots : List Slot) {plan : Plan} (w : Plans g o slots plan) where
  pub plans_held : Plans g (held_by g plan slots) slots plan
  plans_held = subst (λ (i : Option (List Entry)). Plans g i slots plan) (sym (held-is g o slots w)) w

  pub did_held : (out : List ℕ) {r : Answer} {after : List ℕ} → Did (given g out (held_by g plan slots)) r after → Did (given g out o) r after
  did_held out {r} {after} d = subst (λ (i : Option (List Entry)). Did (given g out i) r after) (held-is g o slots w) d

pub no_instance : (g : List Node) (slots : List Slot) (out : List ℕ) {plan : Plan} → plan ≡ None → Did (given g out (held_by g plan slots)) (refusal 13 0 0) out
unfolding given held_by
no_instance g slots out e = rw e (record { answer = refl; buffer = refl })

-- so many bytes, or fewer than the room
pub room_less : (s : List ℕ) (nodes room : ℕ) {long : ℕ} → AtMost most_bytes (file_length (schema_of s) nodes) long → ltb room long ≡ ltb room (file_length (schema_of s) nodes)
room_less s nodes room w = ap (ltb room) w.is

-- room for the longest file is room for each
pub room_most : (s : List ℕ) (nodes : ℕ) {room : ℕ} → Accepted s → Bytes s → most_bytes ≤ room → false ≡ ltb room (file_length (schema_of s) nodes)
room_most s nodes {room} a x h = sym (le-ltb room (file_length (schema_of s) nodes) (omega (arith, file-length-most (schema_of s) (sound s x a.some) nodes)))

module _ (s : List ℕ) (slots : List Slot) {plan : Plan} {nodes : ℕ} (w : Plans (schema_of s) (held_by (schema_of s) plan slots) slots plan) (e : plan ≡ Some nodes) where
  abbrev g : List Node
  g = schema_of s

  abbrev file : List ℕ
  file = encode g (planned g (plan_of g slots))

  pub plan_nodes : nodes ≡ nodes_of (planned (schema_of s) (plan_of (schema_of s) slots))
  unfolding held_by plan_for
  plan_nodes = let z : Some nodes ≡ Some (nodes_of (planned g (plan_of g slots))) = sym e ∙ w.answer ∙ ap (λ (x : Plan). plan_for (held_by g x slots)) e in cc

  module _ (a : Accepted s) (x : Bytes s) where
    long-is : file_length g nodes ≡ length file
    long-is = ap (file_length g) plan_nodes ∙ file-length-is g (sound s x a.some).few slots

    module _ (out : List ℕ) {t : Bool} (d : t ≡ ltb (length out) (file_length (schema_of s) nodes)) where
      pub plan_room : t ≡ false → length (encode (schema_of s) (planned (schema_of s) (plan_of (schema_of s) slots))) ≤ length out
      plan_room h = omega (arith, long-is, ltb-false (length out) (file_length g nodes) (sym d ∙ h))

      pub plan_short : t ≡ true → Did (given (schema_of s) out (held_by (schema_of s) plan slots)) (refusal 14 0 0) out
      unfolding given held_by
      plan_short h = rw e (placed_short_did file out (omega (arith, long-is, ltb-true (length out) (file_length g nodes) (sym d ∙ h))) refl)

      pub plan_written : {after : List ℕ} {n : ℕ} → t ≡ false → Wrote out 0 (encode (schema_of s) (planned (schema_of s) (plan_of (schema_of s) slots))) after n
          → Did (given (schema_of s) out (held_by (schema_of s) plan slots)) (success n) after
      unfolding given held_by
      plan_written h u = rw e (placed_wrote_did file out (plan_room h) u refl)
