-- Which of two numbers is better at a node, by how the ranks in their columns compare: a law for each way.
-- Rests on the laws of compared ranks, of the crate ranks.
use mathlib.Core.Path.{◌≡◌, ap₂, sym, ◌∙◌}
use mathlib.Core.Bool.{true, false}
use mathlib.Core.List.{List}
use Prim.Native.Nat.{ℕ}
use lib.Dec.{ltb}
use Rattle.std.specs.declared.cmp.Ordering.{Ordering}
use Rattle.std.specs.declared.cmp.Ordering.TheVariants.{Less, Equal, Greater}
use Rattle.schema.specs.Schema.{Node, node_at}
use Rattle.schema.specs.Table.{AtMost}
use Rattle.policies.specs.Policies.{Policy}
use Rattle.policies.specs.Rows.{rules_for}
use Rattle.model.specs.Satisfaction.{column_of}
use Rattle.model.specs.Order.{better}
use Rattle.ranks.specs.Ranks.{rank_order}
use Rattle.ranks.proofs.Comparing.{better_less, better_greater, better_equal}

module _ (g : List Node) (qs : List Policy) (n x y : ℕ) {u v c d : ℕ} (f : u ≡ x) (k : v ≡ y) (a : AtMost 8 (column_of u (node_at g n).successors) c) (b : AtMost 8 (column_of v (node_at g n).successors) d)
    {r : Ordering} (e : r ≡ rank_order (rules_for n qs) c d) where
  compared : r ≡ rank_order (rules_for n qs) (column_of x (node_at g n).successors) (column_of y (node_at g n).successors)
  compared = e ∙ ap₂ (rank_order (rules_for n qs)) (rw f at a).is (rw k at b).is

  pub ranks_less : r ≡ Less → true ≡ better g qs n x y
  ranks_less h = sym (better_less g qs n x y compared h)

  pub ranks_greater : r ≡ Greater → false ≡ better g qs n x y
  ranks_greater h = sym (better_greater g qs n x y compared h)

  pub ranks_equal : r ≡ Equal → ltb x y ≡ better g qs n x y
  ranks_equal h = sym (better_equal g qs n x y compared h)
