-- What the row of a node tells of its ranks: which columns are forbidden, how two compare, and the order that rows of ranks make.
-- Rests on what the row tells and on the ranks at its offsets, in policies, and on the model's laws of tests and orders by PN.
use mathlib.Core.Path.{◌≡◌, refl, ap, ap₂, sym, ◌∙◌}
use mathlib.Core.Bool.{Bool, true, not, ◌&&◌}
use mathlib.Core.List.{List, [], ◌∷◌, map}
use Prim.Native.Nat.{ℕ, suc, ◌+◌, ◌≤◌, ◌<◌}
use native.Mathlib.Omega.{arith}
use native.Mathlib.Decide.{dec_lt}
use lib.Dec.{eqb}
use lib.ListN.{length, get_or, length-drop}
use lib.Seq.{get_or-drop}
use Rattle.schema.specs.Schema.{Node, schema_of, node_at}
use Rattle.schema.specs.Table.{AtMost}
use Rattle.schema.specs.Layout.{rank_count}
use Rattle.schema.proofs.Access.{ranks_few, successors_few}
use Rattle.policies.specs.Policies.{Rule, Policy, rank_of}
use Rattle.policies.specs.Rows.{rule_at, offsets_in, noted, rules_for, RuleAt, RulesAt, BytesAt}
use Rattle.policies.proofs.Rules.{rank-read, rank-none, ranks_bytes}
use Rattle.policies.proofs.Said.{row_said}
use Rattle.policies.specs.declared.Policies.{Policies}
use Rattle.model.specs.Satisfaction.{every}
use Rattle.model.specs.Order.{better_by}
use Rattle.model.proofs.Same.{every-by, better-by}
use Rattle.ranks.specs.Ranks.{allowed_column, Bans, better_column, order_by, rank_order, RanksGathered, allowed_at, rank_at, BansEight, better_at, Skipped}
use Rattle.std.specs.declared.cmp.Ordering.{Ordering}
use Rattle.ranks.proofs.Comparing.{rank-at-here, rank-at-beyond}

-- no rank of 255 in column k
allows : ℕ → Rule → Bool
allows k x = not (eqb (get_or x.ranks k 0) 255)

allowed-read : (g : List Node) (p : List ℕ) (n k : ℕ) → k < rank_count (node_at g n) → (os : List ℕ) → ((r : ℕ) → r < length os → RuleAt g p n (get_or os r 0))
    → every (allows k) (map (rule_at g p n) os) ≡ allowed_at p os k
unfolding allowed_at allows
allowed-read g p n k h [] f = refl
allowed-read g p n k h (o ∷ os) f =
    ap₂ (λ (x : ℕ) (b : Bool). not (eqb x 255) && b) (sym (rank-read g p n o (f 0 (omega arith)) k h)) (allowed-read g p n k h os (λ r l. f (suc r) (omega arith)))

-- a column beyond the ranks has none
allowed-beyond : (g : List Node) (p : List ℕ) (n k : ℕ) → rank_count (node_at g n) ≤ k → (os : List ℕ) → ((r : ℕ) → r < length os → RuleAt g p n (get_or os r 0))
    → every (allows k) (map (rule_at g p n) os) ≡ true
unfolding allows
allowed-beyond g p n k h [] f = refl
allowed-beyond g p n k h (o ∷ os) f = rw (rank-none g p n o (f 0 (omega arith)) k h) (allowed-beyond g p n k h os (λ r l. f (suc r) (omega arith)))

-- the order of two columns
order-read : (g : List Node) (p : List ℕ) (n columns c d : ℕ) → columns ≡ rank_count (node_at g n) → (os : List ℕ) → ((r : ℕ) → r < length os → RuleAt g p n (get_or os r 0))
    → order_by (rank_at p columns) os c d ≡ rank_order (map (rule_at g p n) os) c d
unfolding rank_order order_by
order-read g p n columns c d m [] f = refl
order-read g p n columns c d m (o ∷ os) f =
    rw (at c (dec_lt c columns), at d (dec_lt d columns), order-read g p n columns c d m os (λ r l. f (suc r) (omega arith))) refl
  where
    at : (k : ℕ) → Dec (k < columns) → rank_at p columns o k ≡ get_or (rule_at g p n o).ranks k 0
    at k (yes h) = rank-at-here p columns o k h ∙ rank-read g p n o (f 0 (omega arith)) k (omega arith)
    at k (no h) = rank-at-beyond p columns o k (omega arith) ∙ sym (rank-none g p n o (f 0 (omega arith)) k (omega arith))

better-read : (g : List Node) (p : List ℕ) (n a b : ℕ) → a < rank_count (node_at g n) → b < rank_count (node_at g n) → (os : List ℕ) → ((r : ℕ) → r < length os → RuleAt g p n (get_or os r 0))
    → better_by (λ (x : Rule) (k : ℕ). get_or x.ranks k 0) (map (rule_at g p n) os) a b ≡ better_at p os a b
unfolding better_at better_by
better-read g p n a b h k [] f = refl
better-read g p n a b h k (o ∷ os) f =
    rw (sym (rank-read g p n o (f 0 (omega arith)) a h), sym (rank-read g p n o (f 0 (omega arith)) b k), better-read g p n a b h k os (λ r l. f (suc r) (omega arith))) refl

module _ (x : Policies) (n : ℕ) (h : n < length (schema_of x.schema.bytes.now)) where
  abbrev g : List Node
  g = schema_of x.schema.bytes.now

  abbrev qs : List Policy
  qs = noted g x.bytes.now x.rows.now

  abbrev os : List ℕ
  os = offsets_in x.rows.now n

  rules : RulesAt g x.bytes.now n os
  rules = x.noted.each n h

  is : rules_for n qs ≡ map (rule_at g x.bytes.now n) os
  is = row_said x.schema.bytes.now x.bytes.now x.rows.now n x.noted h

  -- a column of the ranks
  column-is : (k : ℕ) → allowed_column qs n k ≡ every (allows k) (map (rule_at g x.bytes.now n) os)
  unfolding allowed_column rank_of allows
  column-is k = every-by n (allows k) refl qs ∙ ap (every (allows k)) is

  column-read : (k : ℕ) → k < rank_count (node_at g n) → allowed_at x.bytes.now os k ≡ allowed_column qs n k
  column-read k a = sym (column-is k ∙ allowed-read g x.bytes.now n k a os rules.each)

  pub column_beyond : (k : ℕ) {columns : ℕ} → AtMost 8 (rank_count (node_at g n)) columns → columns ≤ k → true ≡ allowed_column qs n k
  column_beyond k m a = sym (column-is k ∙ allowed-beyond g x.bytes.now n k (omega (arith, m.is)) os rules.each)

  module _ {o : List ℕ} (eo : o ≡ os) where
    module _ (k : ℕ) {columns : ℕ} (m : AtMost 8 (rank_count (node_at g n)) columns) where
      pub column_bytes : k < columns → BytesAt x.bytes.now o (k + 1)
      column_bytes a = rw eo (ranks_bytes g x.bytes.now n os rules (omega (arith, m.is)))

      pub column_allowed : {r : Bool} → k < columns → r ≡ allowed_at x.bytes.now o k → r ≡ allowed_column qs n k
      column_allowed a e = (rw eo at e) ∙ column-read k (omega (arith, m.is))

    -- the offsets stand in the file
    pub row_bytes : BytesAt x.bytes.now o 0
    row_bytes = rw eo (ranks_bytes g x.bytes.now n os rules (omega arith))

    -- columns that are told, at least so many as there are ranks
    banned : (t : List ℕ) (i : ℕ) → rank_count (node_at g n) ≤ i → Bans (allowed_at x.bytes.now o) i t → Bans (allowed_column qs n) (rank_count (node_at g n)) t
    banned t i l b =
        record { long = b.long; each = λ k a. b.each k (omega arith) ∙ ap (λ (l : List ℕ). allowed_at x.bytes.now l k) eo ∙ column-read k a }

    pub eight_banned : {t : List ℕ} {r : Bool} → BansEight (allowed_at x.bytes.now o) t r → r ≡ true → Bans (allowed_column qs n) (rank_count (node_at g n)) t
    eight_banned {t} b e = banned t 8 (ranks_few (node_at g n) (successors_few x.schema.bytes.now n h)) (b.told e)

    -- all ranks
    module _ {columns : ℕ} (m : AtMost 8 (rank_count (node_at g n)) columns) where
      pub columns_bytes : BytesAt x.bytes.now o columns
      columns_bytes = rw eo (ranks_bytes g x.bytes.now n os rules (omega (arith, m.is)))

      pub columns_banned : {t : List ℕ} → Bans (allowed_at x.bytes.now o) columns t → Bans (allowed_column qs n) (rank_count (node_at g n)) t
      columns_banned {t} b = banned t columns (omega (arith, m.is)) b

      pub columns_compared : (c d : ℕ) {r : Ordering} → r ≡ order_by (rank_at x.bytes.now columns) o c d → r ≡ rank_order (rules_for n qs) c d
      columns_compared c d e =
          (rw eo at e) ∙ order-read g x.bytes.now n columns c d m.is os rules.each ∙ sym (ap (λ (xs : List Rule). rank_order xs c d) is)

      -- those that are left after some that decide nothing
      module _ {rest : List ℕ} (z : Skipped x.bytes.now o rest) where
        pub left_bytes : BytesAt x.bytes.now rest columns
        left_bytes =
            let few : length rest ≤ length o = omega (arith, ap length z.left, length-drop z.some o) in
            record {
              few = omega (arith, few, columns_bytes.few);
              each = λ r l. rw z.left (simp (get_or-drop z.some o r 0) (columns_bytes.each (z.some + r) (omega (arith, ap length z.left, length-drop z.some o))));
            }

        pub columns_gathered : {t : List (List ℕ)} {r : ℕ} → RanksGathered (better_at x.bytes.now rest) columns t r → RanksGathered (better_column qs n) (rank_count (node_at g n)) t r
        unfolding better_column
        columns_gathered f =
            record {
              few = f.few;
              long = f.long;
              each = λ a b i j.
                  f.each a b (omega (arith, m.is)) (omega (arith, m.is))
                  ∙ z.same a b (omega (arith, m.is, m.most)) (omega (arith, m.is, m.most))
                  ∙ ap (λ (l : List ℕ). better_at x.bytes.now l a b) eo
                  ∙ sym (better-by n (λ i. i) qs a b ∙ ap (λ (xs : List Rule). better_by (λ (x : Rule) (k : ℕ). get_or x.ranks k 0) xs a b) is ∙ better-read g x.bytes.now n a b i j os rules.each);
            }
