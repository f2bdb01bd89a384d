-- What an instance is (01, 'Instance and satisfaction'): the round trips and the demands are stated with it.
-- Rests on the specs' definitions of what an entry reaches and which choices and values are right.
use Prim.Native.Nat.{ℕ, ◌<◌}
use mathlib.Core.Path.{◌≡◌}
use mathlib.Core.List.{List, [], ◌∷◌, Memᴰ}
use mathlib.Core.Bool.{Bool, true, false, ◌&&◌}
use lib.IntN.{ℤ}
use Rattle.schema.specs.Schema.{Node, node_at}
use Rattle.schema.specs.declared.Variable.{Variable}
use Rattle.instances.specs.Instance.{Entry, elem, reaches, right_choice, in_domain, has}

-- 'the root is reached'; a node is, if a reached node with an entry reaches it
pub data Reached (g : List Node) (i : List Entry) : ℕ → Type 0 where
  root : Reached g i 0
  on : {n : ℕ} (e : Entry) → Reached g i e.node → Memᴰ e i → elem n (reaches (node_at g e.node) e.choice) ≡ true → Reached g i n

-- one value for each variable: 'values lie in the schema's domain'
unfoldable pub in_domains : List Variable → List ℤ → Bool
in_domains [] [] = true
in_domains [] (x ∷ xs) = false
in_domains (v ∷ vs) [] = false
in_domains (v ∷ vs) (x ∷ xs) = in_domain v x && in_domains vs xs

-- an entry's choice and values
pub record RightEntry (g : List Node) (e : Entry) : Type 0 where
  pub right-choice : right_choice (node_at g e.node) e.choice ≡ true
  pub in-domains : in_domains (node_at g e.node).variables e.values ≡ true

abbrev pub Ascending : List Entry → Type 0
Ascending [] = Unit {0}
Ascending (e ∷ es) = ((d : Entry) → Memᴰ d es → e.node < d.node) × Ascending es

-- 'an instance has one entry for exactly the reached nodes', in ascending order
pub record IsInstance (g : List Node) (i : List Entry) : Type 0 where
  pub every : (n : ℕ) → Reached g i n → has i n ≡ true
  pub only : (e : Entry) → Memᴰ e i → Reached g i e.node
  pub ascending : Ascending i
  pub right : (e : Entry) → Memᴰ e i → RightEntry g e
