-- What the reconciler's theorem asks of rules: strict orders of successors, and least values that are least.
-- Rests on the definition of rules. A total order is a premise of its own: `total-best` of Successors alone uses it, for 'at least as
-- good' and for the law by which an engine picks.
use Prim.Native.Nat.{ℕ}
use mathlib.Core.Path.{◌≡◌}
use mathlib.Core.Logic.{◌⊎◌}
use mathlib.Core.List.{List, Memᴰ}
use mathlib.Core.Bool.{Bool, true, ◌&&◌}
use mathlib.Core.Option.{Option, none, some}
use lib.IntN.{ℤ}
use Rattle.schema.specs.Schema.{Node, node_at}
use Rattle.instances.specs.Instance.{Entry, chooses}
use Rattle.instances.proofs.IsInstance.{in_domains}
use Rattle.model.specs.Reconciling.{Rules}
use Rattle.model.proofs.Relations.{no_lower}

pub record Strict (better : ℕ → ℕ → Bool) : Type 0 where
  pub trans : (a b c : ℕ) → better a b ≡ true → better b c ≡ true → better a c ≡ true
  pub irreflexive : (a : ℕ) → better a a ≡ true → ⊥

pub record Total (better : ℕ → ℕ → Bool) : Type 0 where
  pub either : (a b : ℕ) → (better a b ≡ true) ⊎ ((a ≡ b) ⊎ (better b a ≡ true))

-- the least that passes, or none where none passes
abbrev pub IsLeast : {A : Type 0} → (A → A → Bool) → (A → Bool) → Option A → Type 0
IsLeast {A} le ok none = (y : A) → ok y ≡ true → ⊥
IsLeast {A} le ok (some x) = (ok x ≡ true) × ((y : A) → ok y ≡ true → le x y ≡ true)

pub record Lawful (g : List Node) (r : Rules) : Type 0 where
  pub strict : (n : ℕ) → Strict (r.better n)
  -- at a node, whether the policies admit its values
  pub admits : ℕ → List ℤ → Bool
  pub least-is : (n : ℕ) → IsLeast no_lower (λ (xs : List ℤ). in_domains (node_at g n).variables xs && admits n xs) (r.least n)

-- an instance meets rules that admit these values
pub record MeetsRules (g : List Node) (r : Rules) (admits : ℕ → List ℤ → Bool) (i : List Entry) : Type 0 where
  pub choices : (e : Entry) → Memᴰ e i → chooses (node_at g e.node) ≡ true → r.allowed e.node e.choice ≡ true
  pub values : (e : Entry) → Memᴰ e i → admits e.node e.values ≡ true
