-- What the crates above have of bans and of gathered ranks: they forbid and order the successors as the policies do.
-- Rests on the model's laws: the order and the bans by column.
use mathlib.Core.Path.{◌≡◌, refl, sym, ◌∙◌}
use mathlib.Core.Bool.{Bool, true, false, cond}
use mathlib.Core.List.{List}
use Prim.Native.Nat.{ℕ, ◌<◌}
use native.Mathlib.Omega.{arith}
use lib.Dec.{eqb}
use lib.ListN.{length, get_or, take}
use Rattle.schema.specs.Schema.{Node, node_at}
use Rattle.schema.specs.Layout.{rank_count}
use Rattle.schema.proofs.Sound.{Sound}
use Rattle.policies.specs.Policies.{Policy}
use Rattle.model.specs.Satisfaction.{column_of, rank, allowed}
use Rattle.model.specs.Order.{better}
use Rattle.model.proofs.Ranks.{allowed_at, better-at}
use Rattle.model.specs.Ranks.{better_in}
use Rattle.ranks.specs.Ranks.{allowed_column, better_column, RanksGathered}

-- ---- a successor's column

pub allowed-column : (g : List Node) (qs : List Policy) (n x : ℕ) → allowed_column qs n (column_of x (node_at g n).successors) ≡ allowed g qs n x
unfolding allowed_column allowed rank
allowed-column g qs n x = refl

-- the k-th has a rank
successor-ranked : (x : Node) (k : ℕ) → k < rank_count x → k < length x.successors
unfolding rank_count
successor-ranked x k = go (eqb x.kind 1)
  where
    go : (b : Bool) → k < cond b (length x.successors) 0 → k < length x.successors
    go true h = h
    go false h = absurd (omega arith)

pub allowed-successor : (g : List Node) (A : Sound g) (qs : List Policy) (n : ℕ) → n < length g → (k : ℕ) → k < rank_count (node_at g n) → allowed_column qs n k ≡ allowed g qs n (get_or (node_at g n).successors k 0)
unfolding allowed_column
allowed-successor g A qs n low k h = sym (allowed_at g A n low qs k (successor-ranked (node_at g n) k h))

-- ---- the gathered ranks: which of two successors is better, by their columns

pub better-gathered : (g : List Node) (A : Sound g) (qs : List Policy) (n : ℕ) → n < length g → (t : List (List ℕ)) {r : ℕ} → RanksGathered (better_column qs n) (rank_count (node_at g n)) t r
    → (a b : ℕ) → a < rank_count (node_at g n) → b < rank_count (node_at g n) → better_in (take r t) a b ≡ better g qs n (get_or (node_at g n).successors a 0) (get_or (node_at g n).successors b 0)
unfolding better_column
better-gathered g A qs n low t w a b h k = w.each a b h k ∙ sym (better-at g A n low qs a b (successor-ranked (node_at g n) a h) (successor-ranked (node_at g n) b k))
