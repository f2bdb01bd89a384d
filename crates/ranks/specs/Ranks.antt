-- The ranks that policies give to the successors of a node, by column.
use Rattle.std.specs.Prelude.{ℕ, max, ◌+◌, ◌<◌, ◌≤◌, ◌≡◌, Bool, true, false, cond, not, List, [], ◌∷◌, length, get_or, take, drop, eqb, ltb}
use Rattle.policies.specs.Policies.{Rule, Policy, most_policies, rank_of}
use Rattle.model.specs.Satisfaction.{every}
use Rattle.model.specs.Order.{better_by}
use Rattle.model.specs.Ranks.{rank_in, better_in}
use Rattle.std.specs.declared.cmp.Ordering.{Ordering}
use Rattle.std.specs.declared.cmp.Ordering.TheVariants.{Less, Equal, Greater}

-- no policy of the list gives successor k of node n rank 255
unfoldable pub allowed_column : List Policy → ℕ → ℕ → Bool
allowed_column qs n k = every (λ (q : Policy). not (eqb (rank_of q n k) 255)) qs

-- 'the first policy whose ranks differ decides, lower being better', where rank x c is the rank of column c in x
unfoldable pub order_by : {X : Type 0} → (X → ℕ → ℕ) → List X → ℕ → ℕ → Ordering
order_by rank [] c d = Equal
order_by rank (x ∷ xs) c d = cond (ltb (rank x c) (rank x d)) Less (cond (ltb (rank x d) (rank x c)) Greater (order_by rank xs c d))

-- by the PN of a node, each a policy's
unfoldable pub rank_order : List Rule → ℕ → ℕ → Ordering
rank_order xs c d = order_by (λ (x : Rule) (k : ℕ). get_or x.ranks k 0) xs c d

-- whether the first is better, where last tells so if the ranks are alike
abbrev pub is_better : Ordering → Bool → Bool
is_better Less last = true
is_better Greater last = false
is_better Equal last = last

-- t has 255 in those of the first so many columns that are not ok; what it has in others is free
pub record Bans (ok : ℕ → Bool) (columns : ℕ) (t : List ℕ) : Type 0 where
  pub long : length t ≡ 8
  pub each : (k : ℕ) → k < columns → not (eqb (get_or t k 0) 255) ≡ ok k

-- which of two columns of node n is better, by the ranks of these policies
unfoldable pub better_column : List Policy → ℕ → ℕ → ℕ → Bool
better_column qs n a b = better_by (λ (q : Policy) (k : ℕ). rank_of q n k) qs a b

-- the first r of the rows order the first so many columns so; what else they have is free
pub record RanksGathered (better : ℕ → ℕ → Bool) (columns : ℕ) (rows : List (List ℕ)) (r : ℕ) : Type 0 where
  pub few : r ≤ most_policies
  pub long : length rows ≡ most_policies
  pub each : (a b : ℕ) → a < columns → b < columns → better_in (take r rows) a b ≡ better a b

-- ---- for the contracts of functions that no other crate calls

-- none of the PN whose ranks begin at these offsets of the file p has 255 in column k
unfoldable pub allowed_at : List ℕ → List ℕ → ℕ → Bool
allowed_at p os k = every (λ (o : ℕ). not (eqb (get_or p (o + k) 0) 255)) os

-- the rank in column k, of so many, of the PN with whose ranks the bytes begin, 0 for none; of the PN whose ranks begin at o
unfoldable pub rank_byte : List ℕ → ℕ → ℕ → ℕ
rank_byte s columns k = cond (ltb k columns) (get_or s k 0) 0

unfoldable pub rank_at : List ℕ → ℕ → ℕ → ℕ → ℕ
rank_at p columns o k = rank_byte (drop o p) columns k

-- if r is true, t has 255 in those of all eight columns that are not ok
pub record BansEight (ok : ℕ → Bool) (t : List ℕ) (r : Bool) : Type 0 where
  pub long : length t ≡ 8
  pub told : r ≡ true → Bans ok 8 t

-- the first k places of a row have the bytes from an offset on
pub record RowFilled (p : List ℕ) (offset k : ℕ) (row₀ row : List ℕ) : Type 0 where
  pub each : (i : ℕ) → i < k → rank_in row i ≡ get_or p (offset + i) 0
  pub long : length row ≡ length row₀

-- which of two columns is better, by the PN whose ranks begin at these offsets of the file p
unfoldable pub better_at : List ℕ → List ℕ → ℕ → ℕ → Bool
better_at p os a b = better_by (λ (o k : ℕ). get_or p (o + k) 0) os a b

-- if r is true, the eight bytes from an offset on are all alike
pub record AllAlike (p : List ℕ) (offset : ℕ) (r : Bool) : Type 0 where
  pub told : r ≡ true → (k : ℕ) → k < 8 → get_or p (offset + k) 0 ≡ get_or p offset 0

-- rest is what the offsets have after some of them whose PN decide nothing: it orders eight columns as all do
pub record Skipped (p offsets rest : List ℕ) : Type 0 where
  pub some : ℕ
  pub upto : some ≤ length offsets
  pub left : rest ≡ drop some offsets
  pub same : (x y : ℕ) → x < 8 → y < 8 → better_at p rest x y ≡ better_at p offsets x y

-- c has the greater of each two of eight ranks
pub record GreaterRanks (a b c : List ℕ) : Type 0 where
  pub long : length c ≡ 8
  pub each : (k : ℕ) → k < 8 → get_or c k 0 ≡ max (get_or a k 0) (get_or b k 0)
