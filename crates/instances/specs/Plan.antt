-- The instance that a plan makes: a plan has an entry for each node, and those that are reached are taken.
use Rattle.std.specs.Prelude.{ℕ, zero, suc, ◌+◌, ◌<◌, ◌≤◌, ◌≡◌, List, [], ◌∷◌, cond, length, get_or, ℤ}
use Rattle.numbers.specs.Bits.{with}
use Rattle.schema.specs.Schema.{Node, schema_of, node_at}
use Rattle.schema.specs.declared.Variable.{Variable}
use Rattle.instances.specs.Instance.{Entry}
use Rattle.instances.specs.declared.Slot.{Slot}
use Rattle.instances.specs.File.{reached, value_of}

-- of k nodes from n on, those that the entries before them reach; es are the entries so far
unfoldable pub planned_from : List Node → (ℕ → Entry) → ℕ → ℕ → List Entry → List Entry
planned_from g plan zero n es = []
planned_from g plan (suc k) n es =
    cond (reached g es n) (plan n ∷ planned_from g plan k (n + 1) (plan n ∷ es)) (planned_from g plan k (n + 1) es)

unfoldable pub planned : List Node → (ℕ → Entry) → List Entry
planned g plan = planned_from g plan (length g) 0 []

-- the nodes that have an entry, as bits
unfoldable pub nodes_of : List Entry → ℕ
nodes_of [] = 0
nodes_of (e ∷ es) = with (nodes_of es) e.node

-- the values whose bits stand from place k on
unfoldable pub values_from : List Variable → List ℕ → ℕ → List ℤ
values_from [] bits k = []
values_from (v ∷ vs) bits k = value_of v (get_or bits k 0) ∷ values_from vs bits (k + 1)

-- where there is no slot
abbrev pub no_slot : Slot
no_slot = record { choice = 0; bits = [] }

-- node n's slot
abbrev pub slot_at : List Slot → ℕ → Slot
slot_at slots n = get_or slots n no_slot

-- the plan that slots hold, one for each node: its choice, and the bits of its values
unfoldable pub plan_of : List Node → List Slot → ℕ → Entry
plan_of g slots n =
    record { node = n; choice = (slot_at slots n).choice; values = values_from (node_at g n).variables (slot_at slots n).bits 0 }

-- the instance that they make under the schema file
abbrev pub held : List ℕ → List Slot → List Entry
held schema slots = planned (schema_of schema) (plan_of (schema_of schema) slots)

-- a slot for each node, whatever stands there
pub record SlotsRoom (schema : List ℕ) (slots : List Slot) : Type 0 where
  pub long : length (schema_of schema) ≤ length slots

-- and no choice is taken yet
pub record Unchosen (schema : List ℕ) (slots : List Slot) : Type 0 where
  pub room : SlotsRoom schema slots
  pub none : (n : ℕ) → n < length (schema_of schema) → (slot_at slots n).choice ≡ 255

-- slots of which the first k have no choice any more
unfoldable pub without_choices : ℕ → List Slot → List Slot
without_choices zero slots = slots
without_choices (suc k) [] = []
without_choices (suc k) (x ∷ slots) = record x { choice = 255 } ∷ without_choices k slots
