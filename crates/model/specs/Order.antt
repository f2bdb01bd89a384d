-- The order of successors and of instances (01, 'The order').
use Rattle.std.specs.Prelude.{ℕ, zero, suc, List, [], ◌∷◌, Bool, false, cond, ◌&&◌, ◌||◌, length, eqb, ltb}
use Rattle.std.proofs.Math.Option.{Option, none, some}
use Rattle.schema.specs.Schema.{Node, node_at}
use Rattle.policies.specs.Policies.{Policy}
use Rattle.instances.specs.Instance.{Entry, chooses}
use Rattle.model.specs.Satisfaction.{rank, every}

-- ---- two successors p, q of one node

-- where rank x s is the rank that policy x gives to s:
-- 'the first policy in force, in file order, whose ranks differ decides, lower being better';
-- 'if none differs, the lower node number is better'
unfoldable pub better_by : {X : Type 0} → (X → ℕ → ℕ) → List X → ℕ → ℕ → Bool
better_by rank [] p q = ltb p q
better_by rank (x ∷ xs) p q = cond (eqb (rank x p) (rank x q)) (better_by rank xs p q) (ltb (rank x p) (rank x q))

-- at node n
unfoldable pub better : List Node → List Policy → ℕ → ℕ → ℕ → Bool
better g ps n p q = better_by (λ (x : Policy) (s : ℕ). rank g x n s) ps p q

-- ---- two instances

-- an instance's entry of node n, and its choice there
unfoldable pub entry_at : List Entry → ℕ → Option Entry
entry_at [] n = none
entry_at (e ∷ es) n = cond (eqb e.node n) (some e) (entry_at es n)

abbrev pub choice_of : Option Entry → ℕ
choice_of none = 255
choice_of (some e) = e.choice

abbrev pub choice_at : List Entry → ℕ → ℕ
choice_at i n = choice_of (entry_at i n)

-- a test of node n whose step asks the same of nodes above it, no more than k deep
unfoldable pub within : ((ℕ → Bool) → ℕ → Bool) → ℕ → ℕ → Bool
within step zero n = false
within step (suc k) n = step (within step k) n

-- I is at least as good as J at node n, where h tells so of the nodes above it; their choices are x and y.
-- 'Kind 1 with successors, if the choices are equal and it is so there, or I's choice is better'
unfoldable pub good_choice : (ℕ → ℕ → ℕ → Bool) → (ℕ → Bool) → ℕ → ℕ → ℕ → Bool
good_choice better h n x y = better n x y || eqb x y && h x

-- 'kind 0, if so at every successor'; 'leaf, always', since it has none
unfoldable pub good_at : List Node → (ℕ → ℕ → ℕ → Bool) → (ℕ → Bool) → ℕ → ℕ → ℕ → Bool
good_at g better h n x y = cond (chooses (node_at g n)) (good_choice better h n x y) (every h (node_at g n).successors)

unfoldable pub good_step : List Node → (ℕ → ℕ → ℕ → Bool) → List Entry → List Entry → (ℕ → Bool) → ℕ → Bool
good_step g better i j h n = good_at g better h n (choice_at i n) (choice_at j n)

-- no way up goes deeper than the count of nodes
unfoldable pub good : List Node → (ℕ → ℕ → ℕ → Bool) → List Entry → List Entry → ℕ → Bool
good g better i j n = within (good_step g better i j) (length g) n

-- '"at least as good" alone means at the root'
unfoldable pub as_good : List Node → List Policy → List Entry → List Entry → Bool
as_good g ps i j = good g (better g ps) i j 0
