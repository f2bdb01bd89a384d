-- 01's relations on policies and instances: the demands are stated with them, and the specs' tests agree with them.
-- Rests on the specs' ranks, conditions and order of successors, and on what an instance is.
use Prim.Native.Nat.{ℕ, ◌+◌, ◌≤◌, ◌<◌}
use mathlib.Core.Path.{◌≡◌}
use mathlib.Core.Logic.{◌↔◌}
use mathlib.Core.List.{List, [], ◌∷◌, Memᴰ}
use mathlib.Core.Bool.{Bool, true, ◌&&◌}
use mathlib.Core.Option.{Option, none, some}
use lib.ListN.{length, get_elem?}
use lib.IntN.{ℤ}
use lib.Signed.{le_z}
use Rattle.schema.specs.Schema.{Node, node_at}
use Rattle.schema.specs.declared.Variable.{Variable}
use Rattle.policies.specs.Policies.{Policy}
use Rattle.policies.specs.Pass.{in_force}
use Rattle.instances.specs.Instance.{Entry, elem, chooses, has}
use Rattle.instances.specs.File.{value_width, encode_entry}
use Rattle.instances.proofs.IsInstance.{IsInstance}
use Rattle.model.specs.Satisfaction.{rank, condition_at, meets}
use Rattle.model.specs.Order.{better, entry_at, choice_at}

-- ---- meeting policies ('Instance and satisfaction')

-- 'an instance meets a policy if no choice has rank 255 there and every value meets its condition';
-- 'variables count on all kinds of node'
pub record MeetsPolicy (g : List Node) (p : Policy) (i : List Entry) : Type 0 where
  pub choices : (e : Entry) → Memᴰ e i → chooses (node_at g e.node) ≡ true → rank g p e.node e.choice ≡ 255 → ⊥
  pub values : (e : Entry) → Memᴰ e i → (k : ℕ) (v : Variable) (x : ℤ)
      → get_elem? (node_at g e.node).variables k ≡ some v → get_elem? e.values k ≡ some x → meets v (condition_at p e.node k) x ≡ true

-- every policy of a list
abbrev pub MeetsAll : List Node → List Policy → List Entry → Type 0
MeetsAll g ps i = (p : Policy) → Memᴰ p ps → MeetsPolicy g p i

-- every one that is in force in the pass from day a to day b
abbrev pub MeetsInForce : ℕ → ℕ → List Node → List Policy → List Entry → Type 0
MeetsInForce a b g ps i = (p : Policy) → Memᴰ p ps → in_force a b p ≡ true → MeetsPolicy g p i

-- ---- the order ('The order')

-- two successors p, q of one node, where rank x s is the rank that policy x gives to s:
-- 'the first policy in force, in file order, whose ranks differ decides, lower being better';
-- 'if none differs, the lower node number is better'
pub data Better {X : Type 0} (rank : X → ℕ → ℕ) (p q : ℕ) : List X → Type 0 where
  decides : {x : X} {xs : List X} → rank x p < rank x q → Better rank p q (x ∷ xs)
  later : {x : X} {xs : List X} → rank x p ≡ rank x q → Better rank p q xs → Better rank p q (x ∷ xs)
  by_number : p < q → Better rank p q []

-- 'instance I is at least as good as J at a node that both reach', where better compares two successors of a node
pub data AtLeast (g : List Node) (better : ℕ → ℕ → ℕ → Bool) (i j : List Entry) : ℕ → Type 0 where
  -- 'leaf, always'
  at_leaf : {n : ℕ} → (node_at g n).kind ≡ 1 → (node_at g n).successors ≡ [] → AtLeast g better i j n
  -- 'kind 0, if so at every successor'
  at_all : {n : ℕ} → (node_at g n).kind ≡ 0 → ((s : ℕ) → elem s (node_at g n).successors ≡ true → AtLeast g better i j s) → AtLeast g better i j n
  -- 'kind 1 with successors, if the choices are equal and it is so there'
  at_same : {n : ℕ} → chooses (node_at g n) ≡ true → choice_at i n ≡ choice_at j n → AtLeast g better i j (choice_at i n) → AtLeast g better i j n
  -- 'or I's choice is better'
  at-better : {n : ℕ} → chooses (node_at g n) ≡ true → better n (choice_at i n) (choice_at j n) ≡ true → AtLeast g better i j n

-- '"at least as good" alone means at the root'
abbrev pub AsGood : List Node → List Policy → List Entry → List Entry → Type 0
AsGood g ps i j = AtLeast g (better g ps) i j 0

-- ---- choices and values ('Reconciling')

-- 'two instances made the same choices if the same nodes have entries in both, with equal choices'
pub record SameChoices (i j : List Entry) : Type 0 where
  pub nodes : (n : ℕ) → has i n ≡ has j n
  pub choices : (n : ℕ) → choice_at i n ≡ choice_at j n

-- no value of ys is lower than that of xs: 'compared variable by variable, i32 as signed'
unfoldable pub no_lower : List ℤ → List ℤ → Bool
no_lower [] ys = true
no_lower (x ∷ xs) [] = true
no_lower (x ∷ xs) (y ∷ ys) = le_z x y && no_lower xs ys

-- the values of node n
abbrev pub values_of : Option Entry → List ℤ
values_of none = []
values_of (some e) = e.values

abbrev pub values_at : List Entry → ℕ → List ℤ
values_at i n = values_of (entry_at i n)

-- no value of instance j is lower than that of i
abbrev pub NoneLower : List Entry → List Entry → Type 0
NoneLower i j = (n : ℕ) → no_lower (values_at i n) (values_at j n) ≡ true

-- ---- what reconciling must give (demand 3): a rival is any instance of the schema that meets what is asked

pub record Best (g : List Node) (Meets : List Entry → Type 0) (better : ℕ → ℕ → ℕ → Bool) (i : List Entry) : Type 0 where
  -- 'an instance that meets them all'
  pub is-instance : IsInstance g i
  pub meets : Meets i
  -- 'and is at least as good as every such rival's in document 01's order'
  pub as-good : (j : List Entry) → IsInstance g j → Meets j → AtLeast g better i j 0
  -- 'where such a rival made the same choices, none of its values is lower than ours'
  pub lowest : (j : List Entry) → IsInstance g j → Meets j → SameChoices i j → NoneLower i j

pub record Right (g : List Node) (Meets : List Entry → Type 0) (better : ℕ → ℕ → ℕ → Bool) (o : Option (List Entry)) : Type 0 where
  -- 'refuses for lack of an instance exactly when no rival's instance meets every policy in force'
  pub refused : (o ≡ none) ↔ ((j : List Entry) → IsInstance g j → Meets j → ⊥)
  -- 'otherwise'
  pub given : (i : List Entry) → o ≡ some i → Best g Meets better i

-- ---- the verdict ('Checking and comparing'): P is 'the first is at least as good as the second', Q the reverse

pub data Verdict (P Q : Type 0) : ℕ → Type 0 where
  -- '"alike" means at least as good each way'
  alike : P → Q → Verdict P Q 0
  -- '"first better" means at least as good and not the reverse'
  first-better : P → (Q → ⊥) → Verdict P Q 1
  second-better : (P → ⊥) → Q → Verdict P Q 2
  neither : (P → ⊥) → (Q → ⊥) → Verdict P Q 3

-- ---- the checker's last row ('Where a number arises'): '18 first choice or value field that a policy in force forbids'

-- a policy of the list forbids the value that stands at o: of variable k and those after it, the first of which stands at p
pub data ForbiddenValue (ps : List Policy) (n : ℕ) : ℕ → List Variable → List ℤ → ℕ → ℕ → Type 0 where
  here : {k : ℕ} {v : Variable} {vs : List Variable} {x : ℤ} {xs : List ℤ} {p : ℕ} (q : Policy) → Memᴰ q ps → (meets v (condition_at q n k) x ≡ true → ⊥)
      → ForbiddenValue ps n k (v ∷ vs) (x ∷ xs) p p
  next : {k : ℕ} {v : Variable} {vs : List Variable} {x : ℤ} {xs : List ℤ} {p o : ℕ} → ForbiddenValue ps n (k + 1) vs xs (p + value_width v) o
      → ForbiddenValue ps n k (v ∷ vs) (x ∷ xs) p o

-- a policy of the list forbids the field that stands at o, of entries that stand from p on: mark and node, then 'choice u8, then the
-- node's values'
pub data ForbiddenField (g : List Node) (ps : List Policy) : List Entry → ℕ → ℕ → Type 0 where
  at-choice : {e : Entry} {i : List Entry} {p : ℕ} (q : Policy) → Memᴰ q ps → chooses (node_at g e.node) ≡ true → rank g q e.node e.choice ≡ 255
      → ForbiddenField g ps (e ∷ i) p (p + 3)
  at_value : {e : Entry} {i : List Entry} {p o : ℕ} → ForbiddenValue ps e.node 0 (node_at g e.node).variables e.values (p + 4) o → ForbiddenField g ps (e ∷ i) p o
  after : {e : Entry} {i : List Entry} {p o : ℕ} → ForbiddenField g ps i (p + length (encode_entry g e)) o → ForbiddenField g ps (e ∷ i) p o

-- o is the first offset of which P holds
pub record First (P : ℕ → Type 0) (o : ℕ) : Type 0 where
  pub has : P o
  pub least : (q : ℕ) → P q → o ≤ q
