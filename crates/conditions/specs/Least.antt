-- The least values that the combined conditions of a node leave, and the record of these conditions.
use Rattle.std.specs.Prelude.{ℕ, ◌≡◌, Bool, true, List, [], ◌∷◌, get_or, pos}
use Rattle.std.proofs.Math.Option.{some}
use Rattle.schema.specs.Schema.{Node, node_at}
use Rattle.schema.specs.declared.Variable.{Variable}
use Rattle.schema.specs.declared.Variable.TheVariants.{Number, Listed}
use Rattle.policies.specs.Policies.{Condition, range, mask}
use Rattle.instances.specs.Plan.{values_from}
use Rattle.model.specs.Reconciling.{is_some, least_each}
use Rattle.conditions.specs.declared.Conditions.{Conditions}

-- r tells whether the conditions leave a value for each of node n's variables, and then these are the bits of the least
pub record LeastIn (g : List Node) (n : ℕ) (cs : List Condition) (bits : List ℕ) (r : Bool) : Type 0 where
  pub found : r ≡ is_some (least_each cs)
  pub values : r ≡ true → least_each cs ≡ some (values_from (node_at g n).variables bits 0)

-- ---- for the contracts of functions that no other crate calls

-- what the record holds of variable k, a number, and of one by its type
abbrev pub range_in : Conditions → ℕ → Condition
range_in c k = range (get_or c.lo k (pos 0)) (get_or c.hi k (pos 0))

unfoldable pub condition_of : Conditions → ℕ → Variable → Condition
condition_of c k (Number lo hi) = range_in c k
condition_of c k (Listed size) = mask (get_or c.mask k 0)

-- of four numbers
unfoldable pub ranges_in : Conditions → List Condition
ranges_in c = range_in c 0 ∷ range_in c 1 ∷ range_in c 2 ∷ range_in c 3 ∷ []
