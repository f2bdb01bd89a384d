-- What is planned for some policies, as the answer and the lent slots tell it.
use Rattle.std.specs.Prelude.{ℕ, zero, suc, ◌+◌, ◌≤◌, ◌≡◌, List, cond, length, Option as Answered, Some, None}
use Rattle.std.proofs.Math.Option.{Option, none, some}
use Rattle.numbers.specs.Bits.{bit}
use Rattle.schema.specs.Schema.{Node, schema_of, node_at}
use Rattle.instances.specs.Instance.{Entry}
use Rattle.instances.specs.File.{values_width}
use Rattle.instances.specs.Plan.{planned, nodes_of, plan_of}
use Rattle.instances.specs.declared.Slot.{Slot}

-- nodes as bits, or that there is no instance, as the code answers it
abbrev pub Plan : Type 0
Plan = Answered ℕ

-- an instance's nodes, or that there is none
unfoldable pub plan_for : Option (List Entry) → Plan
plan_for none = None
plan_for (some i) = Some (nodes_of i)

-- r tells so of the instance o, and the slots hold it; what they have of nodes without an entry, or where there is no instance, is free
pub record Plans (g : List Node) (o : Option (List Entry)) (slots : List Slot) (r : Plan) : Type 0 where
  pub answer : r ≡ plan_for o
  pub holds : (i : List Entry) → o ≡ some i → planned g (plan_of g slots) ≡ i

-- room for the eligible successors of each node, whatever stands there
pub record EligibleRoom (schema eligible : List ℕ) : Type 0 where
  pub long : length (schema_of schema) ≤ length eligible

-- ---- how long its file is

-- the bytes of the entries of those of these nodes, given as bits, that are below n
unfoldable pub entries_length : List Node → ℕ → ℕ → ℕ
entries_length g nodes zero = 0
entries_length g nodes (suc n) = entries_length g nodes n + cond (bit nodes n) (4 + values_width (node_at g n).variables) 0

-- the bytes of a file with an entry for each of these nodes
unfoldable pub file_length : List Node → ℕ → ℕ
file_length g nodes = 3 + entries_length g nodes (length g)
