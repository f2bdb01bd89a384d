-- Which successor of a node comes first, from their ranks alone (01, 'The order').
use Rattle.std.specs.Prelude.{ℕ, ◌+◌, ◌*◌, ◌/◌, ◌%◌, ◌≤◌, ◌<◌, ◌≡◌, Bool, true, cond, ◌||◌, List, get_or, eqb, leb}
use Rattle.std.proofs.Math.Option
use Rattle.model.specs.Ranks.{count_up, better_in}
use Rattle.model.specs.Reconciling.{best}

-- column k has the byte 1 in a set
abbrev pub in_set : List ℕ → ℕ → Bool
in_set set k = eqb (get_or set k 0) 1

-- of the first k columns the one that comes first in the set; 8 for none
unfoldable pub first_column : List (List ℕ) → List ℕ → ℕ → ℕ
first_column rows set k = Option.get_or (best (in_set set) (better_in rows) (count_up k 0)) 8

-- r is that column
pub record Picked (rows : List (List ℕ)) (set : List ℕ) (k r : ℕ) : Type 0 where
  pub is : r ≡ first_column rows set k
  pub most : r ≤ 8

-- ---- for the contracts of functions that no other crate calls

-- column k in place of x, 8 for none, where it is better
unfoldable pub over : List (List ℕ) → ℕ → ℕ → ℕ
over rows k x = cond (leb 8 x || better_in rows k x) k x

-- r is of the first k columns the one that comes first in the set; 8 for none
pub record First (rows : List (List ℕ)) (set : List ℕ) (k r : ℕ) : Type 0 where
  pub most : r ≤ 8
  pub none_in : 8 ≤ r → (c : ℕ) → c < k → in_set set c ≡ true → ⊥
  pub below : r < 8 → r < k
  pub in-set : r < 8 → in_set set r ≡ true
  pub unbeaten : r < 8 → (c : ℕ) → c < k → in_set set c ≡ true → better_in rows c r ≡ true → ⊥

-- column k's key by a row: its rank, then its number
abbrev pub key_in : List ℕ → ℕ → ℕ
key_in row k = 8 * get_or row k 0 + k

-- r is the key of column k with this byte of the set and this rank; 2048, more than any key, where it is not in the set
pub record Keyed (byte rank k r : ℕ) : Type 0 where
  pub inside : byte ≡ 1 → r ≡ 8 * rank + k
  pub outside : (byte ≡ 1 → ⊥) → r ≡ 2048

-- a is the least key of those of the first k columns that are in the set, b the second least; 2048 for none
pub record TwoLeast (row set : List ℕ) (k a b : ℕ) : Type 0 where
  pub order : a ≤ b
  pub most : b ≤ 2048
  pub below : a < 2048 → a % 8 < k
  pub in-set : a < 2048 → in_set set (a % 8) ≡ true
  pub ranked : a < 2048 → get_or row (a % 8) 0 ≡ a / 8
  pub others : (c : ℕ) → c < k → in_set set c ≡ true → (key_in row c ≡ a → ⊥) → b ≤ key_in row c
