-- An accepted instance as decoded data: the choice of each node and the bits of its values, in the slots of a plan.
use Rattle.std.specs.Prelude.{ℕ, ◌+◌, ◌≡◌, List, [], ◌∷◌, set, replicate, ℤ, Result, Ok, Err}
use Rattle.std.specs.Int.Signed.{mag}
use Rattle.fields.specs.Reading.{Got, got, bad}
use Rattle.fields.specs.Writing.{unsigned}
use Rattle.fields.specs.Answers.{number}
use Rattle.fields.specs.declared.Breach.{Breach}
use Rattle.schema.specs.Schema.{Node, node_at}
use Rattle.schema.specs.declared.Variable.{Variable}
use Rattle.schema.specs.declared.Variable.TheVariants.{Number, Listed}
use Rattle.instances.specs.Instance.{Entry}
use Rattle.instances.specs.File.{instance, ReadsBack}
use Rattle.instances.specs.Plan.{planned, nodes_of, plan_of}
use Rattle.instances.specs.declared.Slot.{Slot}

-- the bits of a value
unfoldable pub bits_of : Variable → ℤ → ℕ
bits_of (Number lo hi) x = unsigned x
bits_of (Listed size) x = mag x

-- the bits of values, from place k on
unfoldable pub fill_values : List Variable → ℕ → List ℤ → List ℕ → List ℕ
fill_values [] k xs t = t
fill_values (v ∷ vs) k [] t = t
fill_values (v ∷ vs) k (x ∷ xs) t = fill_values vs (k + 1) xs (set t k (bits_of v x))

-- the slot of an entry: its choice and the bits of its values, 0 beyond them
unfoldable pub filled : List Node → Entry → Slot
filled g e = record { choice = e.choice; bits = fill_values (node_at g e.node).variables 0 e.values (replicate 4 0) }

-- put at its node
abbrev pub fill_slot : List Node → Entry → List Slot → List Slot
fill_slot g e t = set t e.node (filled g e)

-- those of an instance's entries; a node without one keeps what it had
unfoldable pub fill_slots : List Node → List Entry → List Slot → List Slot
fill_slots g [] t = t
fill_slots g (e ∷ es) t = fill_slots g es (fill_slot g e t)

-- the nodes that have an entry, as the reader answers them: no position is told
abbrev pub as_nodes : Result ℕ Breach → Got ℕ
as_nodes (Ok m) = got m 0
as_nodes (Err b) = bad (number b.fault) b.offset

abbrev pub nodes_in : Got (List Entry) → Got ℕ
nodes_in (got i q) = got (nodes_of i) 0
nodes_in (bad n o) = bad n o

-- the reader's answer for the file s, and what the slots then hold, of what they held before; after a refusal they hold anything
pub record YieldsInstance (g : List Node) (s : List ℕ) (before slots : List Slot) (r : Result ℕ Breach) : Type 0 where
  pub answer : as_nodes r ≡ nodes_in (instance g s)
  pub back : (i : List Entry) (q : ℕ) → instance g s ≡ got i q → ReadsBack g i
  pub holds : (i : List Entry) (q : ℕ) → instance g s ≡ got i q → planned g (plan_of g slots) ≡ i
  pub chosen : (i : List Entry) (q : ℕ) → instance g s ≡ got i q → slots ≡ fill_slots g i before
