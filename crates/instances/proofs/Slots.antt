-- The slots of a plan: arrays that have one for each node, and the places of a node's values.
-- Rests on that tables with room for the nodes of an accepted file are long enough, and a node has at most four variables.
use mathlib.Core.Path.{◌≡◌}
use mathlib.Core.List.{List}
use Prim.Native.Nat.{ℕ, ◌<◌}
use native.Mathlib.Omega.{arith}
use lib.ListN.{length, replicate, length-replicate}
use Rattle.schema.specs.Schema.{schema_of}
use Rattle.schema.specs.Table.{Accepted, AtMost, RoomIn}
use Rattle.schema.proofs.Fill.{nodes_in}
use Rattle.instances.specs.Plan.{SlotsRoom}
use Rattle.instances.specs.declared.Slot.{Slot}

pub slot_inside : (s : List ℕ) (n : ℕ) (slots : List Slot) → n < length (schema_of s) → SlotsRoom s slots → n < length slots
slot_inside s n slots i r = omega (arith, r.long)

-- the place of a node's value k
pub place_inside : (k : ℕ) {x c : ℕ} → AtMost 4 x c → k < c → k < 4
place_inside k l h = omega (arith, l.is, l.most)

-- slots that are all alike, as many as there is room for
pub slots_in : (s : List ℕ) (m : ℕ) (x : Slot) → Accepted s → RoomIn s m → SlotsRoom s (replicate m x)
slots_in s m x a h = record { long = omega (arith, nodes_in s m a h, length-replicate {A = Slot} m x) }

-- an array of the same length has them too
pub slots_kept : (s : List ℕ) (slots after : List Slot) → SlotsRoom s slots → length after ≡ length slots → SlotsRoom s after
slots_kept s slots after r e = record { long = omega (arith, r.long) }
