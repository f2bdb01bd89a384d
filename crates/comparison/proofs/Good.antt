-- 'At least as good' at a node, by a table of flags of the nodes above it.
-- Rests on the model's clauses, and on that no successor is better than itself.
use mathlib.Core.Path.{◌≡◌, refl, ap, sym, ◌∙◌}
use mathlib.Core.Bool.{Bool, true, false, ◌||◌}
use mathlib.Core.List.{List}
use Prim.Native.Nat.{ℕ, ◌≤◌}
use native.Mathlib.Omega.{arith}
use borrow.Author.Tests.{eq-eqb, ne_eqb}
use lib.Dec.{eqb}
use lib.ListN.{length, get_or-eq_default}
use Rattle.fields.proofs.Tests.{is-not}
use Rattle.schema.specs.Schema.{Node, node_at}
use Rattle.policies.specs.Policies.{Policy}
use Rattle.instances.specs.Instance.{chooses}
use Rattle.model.specs.Satisfaction.{every}
use Rattle.model.specs.Order.{better, good_choice, good_at}
use Rattle.order.specs.Order.{in_set}
use Rattle.model.proofs.Ranks.{better-strict}

-- a number above all nodes is in no set of them
pub none_beyond : (flags : List ℕ) (s : ℕ) → length flags ≡ 64 → 64 ≤ s → false ≡ in_set flags s
none_beyond flags s l h = sym (ap (λ (x : ℕ). eqb x 1) (get_or-eq_default flags 0 {n = s} (omega arith)))

-- ---- the choices, and the node

module _ (g : List Node) (ps : List Policy) (h : ℕ → Bool) (n x y : ℕ) where
  pub choice_same : {r : Bool} → x ≡ y → r ≡ h x → r ≡ good_choice (better g ps) h n x y
  unfolding good_choice
  choice_same e q = rw (← e) (rw (is-not (better g ps n x x) ((better-strict g ps n).irreflexive x), eq-eqb x x refl) q)

  pub choice_other : {r : Bool} → (x ≡ y → ⊥) → r ≡ better g ps n x y → r ≡ good_choice (better g ps) h n x y
  unfolding good_choice
  choice_other e q = rw (ne_eqb x y e) (q ∙ go (better g ps n x y))
    where
      go : (b : Bool) → b ≡ (b || false)
      go true = refl
      go false = refl

module _ (g : List Node) (better : ℕ → ℕ → ℕ → Bool) (h : ℕ → Bool) (n x y : ℕ) {c r : Bool} (e : c ≡ chooses (node_at g n)) where
  pub node_chooses : c ≡ true → r ≡ good_choice better h n x y → r ≡ good_at g better h n x y
  unfolding good_at
  node_chooses t q = rw (sym e ∙ t) q

  pub node_rests : c ≡ false → r ≡ every h (node_at g n).successors → r ≡ good_at g better h n x y
  unfolding good_at
  node_rests t q = rw (sym e ∙ t) q
