-- The instance that reconciling gives (01, 'Reconciling').
use Rattle.std.specs.Prelude.{ℕ, ◌+◌, List, [], ◌∷◌, Bool, true, false, cond, not, ◌&&◌, ◌||◌, length, eqb, ℤ, pos}
use Rattle.std.proofs.Math.Option.{Option, none, some, get_or}
use Rattle.std.specs.Int.Bits.{bit_and}
use Rattle.std.specs.Int.Count.{count_trailing_zeros}
use Rattle.std.specs.Int.Signed.{le_z}
use Rattle.numbers.specs.Bits.{ones}
use Rattle.std.specs.Int.{int_max, int_min}
use Rattle.schema.specs.Schema.{Node, node_at}
use Rattle.schema.specs.declared.Variable.{Variable}
use Rattle.schema.specs.declared.Variable.TheVariants.{Number, Listed}
use Rattle.policies.specs.Policies.{Condition, range, mask, Policy}
use Rattle.instances.specs.Instance.{Entry, chooses}
use Rattle.instances.specs.Plan.{planned}
use Rattle.model.specs.Satisfaction.{condition_at, every, allowed}
use Rattle.model.specs.Order.{better, within}

-- ---- from rules: what the policies in force say, taken together

pub record Rules : Type 0 where
  -- at a node, of a successor
  pub allowed : ℕ → ℕ → Bool
  -- at a node, of two successors
  pub better : ℕ → ℕ → ℕ → Bool
  -- at a node, the least values that schema and all conditions admit
  pub least : ℕ → Option (List ℤ)

abbrev pub is_some {ℓ} : {A : Type ℓ} → Option A → Bool
is_some none = false
is_some (some a) = true

-- one of the list that passes is better than x
abbrev pub beaten : (ℕ → Bool) → (ℕ → ℕ → Bool) → List ℕ → ℕ → Bool
beaten ok better [] x = false
beaten ok better (y ∷ ys) x = ok y && better y x || beaten ok better ys x

abbrev pub first_of : (ℕ → Bool) → List ℕ → Option ℕ
first_of ok [] = none
first_of ok (x ∷ xs) = cond (ok x) (some x) (first_of ok xs)

-- the first that passes and that none that passes beats
unfoldable pub best : (ℕ → Bool) → (ℕ → ℕ → Bool) → List ℕ → Option ℕ
best ok better l = first_of (λ (x : ℕ). ok x && not (beaten ok better l x)) l

-- the successor that node n takes, where h tells which nodes above it can be met
unfoldable pub taken : List Node → Rules → (ℕ → Bool) → ℕ → Option ℕ
taken g r h n = best (λ (s : ℕ). r.allowed n s && h s) (r.better n) (node_at g n).successors

-- node n can be met: values are left, and a successor to take, or every successor can be where none is chosen
unfoldable pub can_step : List Node → Rules → (ℕ → Bool) → ℕ → Bool
can_step g r h n =
    is_some (r.least n) && cond (chooses (node_at g n)) (is_some (taken g r h n)) (every h (node_at g n).successors)

-- no way up goes deeper than the count of nodes
unfoldable pub can : List Node → Rules → ℕ → Bool
can g r n = within (can_step g r) (length g) n

-- a node's entry, if it is reached: 'the choice is a successor of a kind 1 node that has any, else 255'
unfoldable pub plan : List Node → Rules → ℕ → Entry
plan g r n =
    record {
      node = n;
      choice = cond (chooses (node_at g n)) (get_or (taken g r (can g r) n) 255) 255;
      values = get_or (r.least n) [];
    }

-- the instance, or none where the root can't be met
unfoldable pub reconcile : List Node → Rules → Option (List Entry)
reconcile g r = cond (can g r 0) (some (planned g (plan g r))) none

-- ---- the rules of policies: 'for each node the ranges and masks of schema and policies in force are combined'

-- the schema's own
unfoldable pub own : Variable → Condition
own (Number lo hi) = range lo hi
own (Listed size) = mask (ones size)

-- what both admit, in the first one's type: the greatest lower and the least upper bound, 'compared as signed', or the bits in both masks
unfoldable pub both : Condition → Condition → Condition
both (range a b) (range c d) = range (int_max a c) (int_min b d)
both (range a b) (mask m) = range a b
both (mask m) (range a b) = mask m
both (mask m) (mask k) = mask (bit_and m k)

unfoldable pub restrict : Condition → Option Condition → Condition
restrict c none = c
restrict c (some d) = both c d

-- what the policies leave of c, for variable k of node n
unfoldable pub restrict_all : List Policy → ℕ → ℕ → Condition → Condition
restrict_all [] n k c = c
restrict_all (p ∷ ps) n k c = restrict_all ps n k (restrict c (condition_at p n k))

-- of variable k and those after it
unfoldable pub combined_from : List Policy → ℕ → ℕ → List Variable → List Condition
combined_from ps n k [] = []
combined_from ps n k (v ∷ vs) = restrict_all ps n k (own v) ∷ combined_from ps n (k + 1) vs

-- 'the combined conditions of one node'
unfoldable pub combined : List Node → List Policy → ℕ → List Condition
combined g ps n = combined_from ps n 0 (node_at g n).variables

-- 'each variable takes the least value left'; 'a listed variable takes the lowest bit left in its mask'
unfoldable pub least : Condition → Option ℤ
least (range a b) = cond (le_z a b) (some a) none
least (mask m) = cond (eqb m 0) none (some (pos (count_trailing_zeros 32 m)))

abbrev pub with_head : Option ℤ → Option (List ℤ) → Option (List ℤ)
with_head none o = none
with_head (some x) none = none
with_head (some x) (some xs) = some (x ∷ xs)

-- if every variable has one
unfoldable pub least_each : List Condition → Option (List ℤ)
least_each [] = some []
least_each (c ∷ cs) = with_head (least c) (least_each cs)

abbrev pub rules_of : List Node → List Policy → Rules
rules_of g ps =
    record {
      allowed = allowed g ps;
      better = better g ps;
      least = λ n. least_each (combined g ps n);
    }

-- the instance that these policies get, or none
unfoldable pub reconciled : List Node → List Policy → Option (List Entry)
reconciled g ps = reconcile g (rules_of g ps)
