-- Meeting policies (01, 'Instance and satisfaction'); the lists of policies are of those in force.
use Rattle.std.specs.Prelude.{ℕ, suc, List, [], ◌∷◌, Bool, true, false, cond, not, ◌&&◌, ◌||◌, eqb, ℤ, pos, negsuc}
use Rattle.std.proofs.Math.Option.{Option, none, some}
use Rattle.std.proofs.Math.ListN.{get_elem?}
use Rattle.std.specs.Int.Signed.{le_z}
use Rattle.numbers.specs.Bits.{bit}
use Rattle.schema.specs.Schema.{Node, node_at}
use Rattle.schema.specs.declared.Variable.{Variable}
use Rattle.schema.specs.declared.Variable.TheVariants.{Number, Listed}
use Rattle.policies.specs.Policies.{Condition, range, mask, Policy, rank_of, conditions_of}
use Rattle.instances.specs.Instance.{Entry, chooses}

-- the place of s among successors, and of its rank among ranks
unfoldable pub column_of : ℕ → List ℕ → ℕ
column_of s [] = 0
column_of s (x ∷ xs) = cond (eqb x s) 0 (suc (column_of s xs))

-- the rank that a policy gives successor s of node n: 'one rank u8 for each successor'
unfoldable pub rank : List Node → Policy → ℕ → ℕ → ℕ
rank g p n s = rank_of p n (column_of s (node_at g n).successors)

-- the condition that a policy sets on variable k of node n, none without PN
unfoldable pub condition_at : Policy → ℕ → ℕ → Option Condition
condition_at p n k = get_elem? (conditions_of p n) k

-- a condition admits a value: 'for a number, lo and hi i32 (lo above hi admits nothing)', signed; 'for a listed one, a mask u32
-- whose bit i (worth 2^i) admits value i'. One of another type than the variable's, which no accepted file has, says nothing
unfoldable pub admits : Variable → Condition → ℤ → Bool
admits (Number lo hi) (range a b) x = le_z a x && le_z x b
admits (Number lo hi) (mask m) x = true
admits (Listed size) (range a b) x = true
admits (Listed size) (mask m) (pos i) = bit m i
admits (Listed size) (mask m) (negsuc i) = false

-- a value meets its condition; 'a node without PN in a policy: .. each value is admitted'
unfoldable pub meets : Variable → Option Condition → ℤ → Bool
meets v none x = true
meets v (some c) x = admits v c x

-- ---- 'an instance meets a policy if no choice has rank 255 there and every value meets its condition'

abbrev pub every : {A : Type 0} → (A → Bool) → List A → Bool
every ok [] = true
every ok (x ∷ xs) = ok x && every ok xs

-- no policy of the list gives successor s of node n rank 255
unfoldable pub allowed : List Node → List Policy → ℕ → ℕ → Bool
allowed g ps n s = every (λ (p : Policy). not (eqb (rank g p n s) 255)) ps

-- every policy of the list admits value x of variable k of node n, which is v
unfoldable pub admitted : List Policy → ℕ → ℕ → Variable → ℤ → Bool
admitted ps n k v x = every (λ (p : Policy). meets v (condition_at p n k) x) ps

-- an entry's choice, if its node chooses
unfoldable pub choice_meets : List Node → List Policy → Entry → Bool
choice_meets g ps e = not (chooses (node_at g e.node)) || allowed g ps e.node e.choice
