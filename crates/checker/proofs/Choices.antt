-- A choice is judged by its column, where its node chooses.
-- Rests on the column of a successor, of the crate ranks.
use mathlib.Core.Path.{◌≡◌, ap, sym, ◌∙◌}
use mathlib.Core.Bool.{Bool, true, false}
use mathlib.Core.List.{List}
use Prim.Native.Nat.{ℕ}
use Rattle.schema.specs.Schema.{Node, node_at}
use Rattle.schema.specs.Table.{AtMost}
use Rattle.policies.specs.Policies.{Policy}
use Rattle.instances.specs.Instance.{chooses}
use Rattle.model.specs.Satisfaction.{column_of, choice_meets}
use Rattle.ranks.specs.Ranks.{allowed_column}
use Rattle.ranks.proofs.Ranks.{allowed-column}
use Rattle.checker.specs.Checks.{choosing}

module _ (g : List Node) (ps : List Policy) (n x : ℕ) {c : Bool} (e : c ≡ chooses (node_at g n)) where
  pub choice-free : c ≡ false → true ≡ choice_meets g ps (choosing n x)
  unfolding choice_meets
  choice-free h = rw (sym e ∙ h)

  pub choice-is : {y k : ℕ} {r : Bool} → c ≡ true → y ≡ x → AtMost 8 (column_of y (node_at g n).successors) k → r ≡ allowed_column ps n k → r ≡ choice_meets g ps (choosing n x)
  unfolding choice_meets
  choice-is h f m q = rw (sym e ∙ h) (q ∙ ap (allowed_column ps n) (rw f at m).is ∙ allowed-column g ps n x)
