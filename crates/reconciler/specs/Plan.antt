-- The instance that a plan tells of, as the slots hold it.
use Rattle.std.specs.Prelude.{List, Some, None}
use Rattle.std.proofs.Math.Option.{Option, none, some}
use Rattle.schema.specs.Schema.{Node}
use Rattle.instances.specs.Instance.{Entry}
use Rattle.instances.specs.Plan.{planned, plan_of}
use Rattle.instances.specs.declared.Slot.{Slot}
use Rattle.planning.specs.Plan.{Plan}

-- none where the plan has none, else that of the slots
unfoldable pub held_by : List Node → Plan → List Slot → Option (List Entry)
held_by g None slots = none
held_by g (Some nodes) slots = some (planned g (plan_of g slots))
