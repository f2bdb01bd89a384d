-- Instances of a schema (01, 'Instance and satisfaction').
use Rattle.std.specs.Prelude.{ℕ, List, [], ◌∷◌, Bool, false, cond, ◌&&◌, ◌||◌, length, ltb, eqb, ℤ, pos, negsuc}
use Rattle.std.specs.Int.Signed.{le_z}
use Rattle.schema.specs.Schema.{Node}
use Rattle.schema.specs.declared.Variable.{Variable}
use Rattle.schema.specs.declared.Variable.TheVariants.{Number, Listed}

-- an IN: 'node u8, choice u8, then the node's values'
pub record Entry : Type 0 where
  pub node : ℕ
  pub choice : ℕ
  pub values : List ℤ

abbrev pub elem : ℕ → List ℕ → Bool
elem n [] = false
elem n (x ∷ xs) = eqb n x || elem n xs

-- 'a kind 1 node that has successors'
unfoldable pub chooses : Node → Bool
chooses x = eqb x.kind 1 && ltb 0 (length x.successors)

-- 'a reached kind 0 node reaches all its successors, a reached kind 1 node that has successors reaches its choice'
unfoldable pub reaches : Node → ℕ → List ℕ
reaches x choice = cond (chooses x) (choice ∷ []) x.successors

-- 'the choice is a successor of a kind 1 node that has any, else 255'
unfoldable pub right_choice : Node → ℕ → Bool
right_choice x choice = cond (chooses x) (elem choice x.successors) (eqb choice 255)

-- 'values lie in the schema's domain'; of a listed variable 'its values being 0 to size − 1'
unfoldable pub in_domain : Variable → ℤ → Bool
in_domain (Number lo hi) x = le_z lo x && le_z x hi
in_domain (Listed size) (pos x) = ltb x size
in_domain (Listed size) (negsuc x) = false

-- n has an entry
unfoldable pub has : List Entry → ℕ → Bool
has [] n = false
has (e ∷ es) n = eqb e.node n || has es n
