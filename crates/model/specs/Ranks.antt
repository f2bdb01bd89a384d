-- Rows of ranks, and the order of their columns (01, 'The order').
use Rattle.std.specs.Prelude.{ℕ, zero, suc, ◌+◌, Bool, List, [], ◌∷◌, get_or}
use Rattle.model.specs.Order.{better_by}

-- k numbers from c on
unfoldable pub count_up : ℕ → ℕ → List ℕ
count_up zero c = []
count_up (suc k) c = c ∷ count_up k (c + 1)

-- rows of ranks: a row for each policy in force, in file order, with a column for each successor
abbrev pub rank_in : List ℕ → ℕ → ℕ
rank_in row k = get_or row k 0

-- the order of two columns by the rows
unfoldable pub better_in : List (List ℕ) → ℕ → ℕ → Bool
better_in rows p q = better_by rank_in rows p q
