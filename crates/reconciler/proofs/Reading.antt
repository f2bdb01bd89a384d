-- Room for the eligible successors, for each size of the tables.
-- Rests on that tables with room for the nodes of an accepted file are long enough.
use mathlib.Core.List.{List}
use Prim.Native.Nat.{ℕ}
use native.Mathlib.Omega.{arith}
use lib.ListN.{replicate, length-replicate}
use Rattle.schema.specs.Table.{Accepted, RoomIn}
use Rattle.schema.proofs.Fill.{nodes_in}
use Rattle.planning.specs.Plan.{EligibleRoom}

pub eligible_in : (s : List ℕ) (m : ℕ) → Accepted s → RoomIn s m → EligibleRoom s (replicate m 0)
eligible_in s m a h = record { long = omega (arith, nodes_in s m a h, length-replicate {A = ℕ} m 0) }
