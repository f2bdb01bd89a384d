-- What the sweep over the nodes leaves in its table and the slots, and which nodes are then reached and chosen.
-- For the contracts of functions that no other crate calls.
use Rattle.std.specs.Prelude.{ℕ, ◌<◌, ◌≤◌, ◌≡◌, Bool, true, false, ◌&&◌, List, [], length, get_or}
use Rattle.std.proofs.Math.Option
use Rattle.std.proofs.Math.Option.{some}
use Rattle.numbers.specs.Bits.{bit}
use Rattle.schema.specs.Schema.{Node, schema_of, node_at}
use Rattle.policies.specs.Policies.{Policy}
use Rattle.instances.specs.Instance.{elem, chooses}
use Rattle.instances.specs.Plan.{planned, nodes_of, values_from, slot_at, Unchosen}
use Rattle.instances.specs.declared.Slot.{Slot}
use Rattle.model.specs.Satisfaction.{allowed}
use Rattle.model.specs.Order.{better}
use Rattle.model.specs.Reconciling.{Rules, best, can_step, can, plan, rules_of}
use Rattle.order.specs.Order.{in_set}
use Rattle.planning.specs.Plan.{EligibleRoom}

-- the first places tell which of a node's successors are in a set of nodes
pub record SuccessorsIn (successors : List ℕ) (nodes : ℕ) (t : List ℕ) : Type 0 where
  pub each : (k : ℕ) → k < length successors → in_set t k ≡ bit nodes (get_or successors k 0)

-- a set of successors of node n, not empty
pub record Choice (g : List Node) (n set : ℕ) : Type 0 where
  pub some_in : 0 < set
  pub successors : (x : ℕ) → bit set x ≡ true → elem x (node_at g n).successors ≡ true

-- x is the successor of node n that comes first in a set, by the ranks of these policies
pub record Chosen (g : List Node) (qs : List Policy) (n set x : ℕ) : Type 0 where
  pub is : best (bit set) (better g qs n) (node_at g n).successors ≡ some x

-- r is true only if no column is banned
pub record NoneBanned (bans : List ℕ) (r : Bool) : Type 0 where
  pub each : r ≡ true → (k : ℕ) → k < 8 → get_or bans k 0 ≡ 255 → ⊥

-- r is a set without those successors of node n that these policies forbid
pub record Allowed (g : List Node) (qs : List Policy) (n set r : ℕ) : Type 0 where
  pub successors : (x : ℕ) → elem x (node_at g n).successors ≡ true → bit r x ≡ bit set x && allowed g qs n x
  pub others : (x : ℕ) → elem x (node_at g n).successors ≡ false → bit r x ≡ bit set x

-- x is a successor of node n that is allowed, and feasible, which h tells
unfoldable pub is_eligible : List Node → Rules → (ℕ → Bool) → ℕ → ℕ → Bool
is_eligible g r h n x = elem x (node_at g n).successors && (r.allowed n x && h x)

-- r tells whether node n is feasible under these policies, where the nodes above it are known; then these are the bits of its
-- values, and if it chooses, its eligible successors are in its place of the table of those
pub record NodePlanned (g : List Node) (qs : List Policy) (n feasible : ℕ) (eligible₀ eligible bits : List ℕ) (r : Bool) : Type 0 where
  pub is : r ≡ can_step g (rules_of g qs) (bit feasible) n
  pub eligible-is : r ≡ true → chooses (node_at g n) ≡ true → (x : ℕ) → bit (get_or eligible n 0) x ≡ is_eligible g (rules_of g qs) (bit feasible) n x
  pub eligible-others : (m : ℕ) → (m ≡ n → ⊥) → get_or eligible m 0 ≡ get_or eligible₀ m 0
  pub eligible-long : length eligible ≡ length eligible₀
  pub values : r ≡ true → values_from (node_at g n).variables bits 0 ≡ Option.get_or ((rules_of g qs).least n) []

-- the set, the table and the slots tell of each node from n on whether it is feasible, and then its eligible successors and
-- its values; none has chosen
pub record Swept (schema : List ℕ) (qs : List Policy) (n feasible : ℕ) (eligible : List ℕ) (slots : List Slot) : Type 0 where
  pub known : (m : ℕ) → n ≤ m → m < length (schema_of schema) → bit feasible m ≡ can (schema_of schema) (rules_of (schema_of schema) qs) m
  pub eligible-is : (m : ℕ) → n ≤ m → m < length (schema_of schema) → can (schema_of schema) (rules_of (schema_of schema) qs) m ≡ true → chooses (node_at (schema_of schema) m) ≡ true
      → (x : ℕ) → bit (get_or eligible m 0) x ≡ is_eligible (schema_of schema) (rules_of (schema_of schema) qs) (can (schema_of schema) (rules_of (schema_of schema) qs)) m x
  pub values : (m : ℕ) → n ≤ m → m < length (schema_of schema) → can (schema_of schema) (rules_of (schema_of schema) qs) m ≡ true
      → values_from (node_at (schema_of schema) m).variables (slot_at slots m).bits 0 ≡ Option.get_or ((rules_of (schema_of schema) qs).least m) []
  pub blank : (m : ℕ) → m < n → bit feasible m ≡ false
  pub eligible-room : EligibleRoom schema eligible
  pub unchosen : Unchosen schema slots

-- the root is feasible, and the table has the eligible successors of each feasible node that chooses
pub record Eligible (schema : List ℕ) (qs : List Policy) (eligible : List ℕ) : Type 0 where
  pub root : can (schema_of schema) (rules_of (schema_of schema) qs) 0 ≡ true
  pub some-nodes : 0 < length (schema_of schema)
  pub each : (m : ℕ) → m < length (schema_of schema) → can (schema_of schema) (rules_of (schema_of schema) qs) m ≡ true → chooses (node_at (schema_of schema) m) ≡ true
      → (x : ℕ) → bit (get_or eligible m 0) x ≡ is_eligible (schema_of schema) (rules_of (schema_of schema) qs) (can (schema_of schema) (rules_of (schema_of schema) qs)) m x
  pub room : EligibleRoom schema eligible

-- r has the nodes of the instance that the model plans, as bits; these are feasible, and their choices are in their slots;
-- the bits of the values stay
pub record Reached (g : List Node) (qs : List Policy) (slots₀ slots : List Slot) (r : ℕ) : Type 0 where
  pub is : r ≡ nodes_of (planned g (plan g (rules_of g qs)))
  pub below : (m : ℕ) → bit r m ≡ true → m < length g
  pub feasible : (m : ℕ) → bit r m ≡ true → can g (rules_of g qs) m ≡ true
  pub chosen : (m : ℕ) → bit r m ≡ true → (slot_at slots m).choice ≡ (plan g (rules_of g qs) m).choice
  pub values : (m : ℕ) → (slot_at slots m).bits ≡ (slot_at slots₀ m).bits
