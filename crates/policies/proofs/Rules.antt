-- The PN that are read at some offsets: their ranks are the bytes from there on, and they are what policies of one PN each have.
-- Rests on what an accepted reading of a PN gives, on its own stretch of the file.
use mathlib.Core.Path.{◌≡◌, refl, ap, sym, ◌∙◌}
use mathlib.Core.List.{List, [], ◌∷◌, map}
use Prim.Native.Nat.{ℕ, zero, suc, ◌+◌, ◌≤◌, ◌<◌}
use native.Mathlib.Omega.{arith}
use native.Mathlib.Nat.{zero-add}
use borrow.Author.Tests.{eq-eqb}
use lib.ListN.{length, get_or, drop, length-drop, get_or-eq_default}
use lib.Seq.{get_or-drop}
use Rattle.schema.specs.Schema.{Node, node_at}
use Rattle.schema.specs.Layout.{rank_count}
use Rattle.policies.specs.Policies.{Rule, rule_for}
use Rattle.policies.specs.Rows.{rule_at, rules_at, rules_for, RuleAt, RulesAt, BytesAt}
use Rattle.policies.proofs.Stands.{Ruled, rule-of-back}
use Rattle.policies.proofs.Noted.{rules-here}
use Rattle.policies.proofs.Stretch.{rule-got}

-- ---- what is read at one offset

module _ (g : List Node) (p : List ℕ) (n o : ℕ) (w : RuleAt g p n o) where
  pub rule-read : Ruled (drop o p) (node_at g n) n 0 (rule_at g p n o) (rule-got g p n o w).0
  rule-read = rule-of-back (drop o p) (node_at g n) n 0 (rule-got g p n o w).1

  pub rule-room : (k : ℕ) → k ≤ length (drop o p) → o + k ≤ length p
  rule-room k h = omega (arith, length-drop o p, w.inside)

  -- it is the one PN of the node
  pub own-rule : rule_for n (rule_at g p n o ∷ []) ≡ rule_at g p n o
  unfolding rule_for
  own-rule = rw (eq-eqb (rule_at g p n o).node n rule-read.node)

  -- the ranks are the bytes from there on
  ranks-inside : o + rank_count (node_at g n) ≤ length p
  ranks-inside = go (length (rule_at g p n o).ranks) rule-read.count rule-read.ranks.inside
    where
      go : (k : ℕ) → k ≡ rank_count (node_at g n) → (0 < k → 0 + k ≤ length (drop o p)) → o + rank_count (node_at g n) ≤ length p
      go zero e f = rule-room (rank_count (node_at g n)) (omega arith)
      go (suc k) e f = let z = f (omega arith) in rule-room (rank_count (node_at g n)) (omega arith)

  pub rank-read : (k : ℕ) → k < rank_count (node_at g n) → get_or p (o + k) 0 ≡ get_or (rule_at g p n o).ranks k 0
  rank-read k h =
      sym (rule-read.ranks.each k (omega (arith, rule-read.count))
      ∙ ap (λ (i : ℕ). get_or (drop o p) i 0) (zero-add k)
      ∙ get_or-drop o p k 0)

  pub rank-none : (k : ℕ) → rank_count (node_at g n) ≤ k → get_or (rule_at g p n o).ranks k 0 ≡ 0
  rank-none k h = get_or-eq_default (rule_at g p n o).ranks 0 {n = k} (omega (arith, rule-read.count))

-- ---- at all offsets

-- those of the node are the PN that are read there
pub rules-read : (g : List Node) (p : List ℕ) (n : ℕ) (os : List ℕ) → ((r : ℕ) → r < length os → RuleAt g p n (get_or os r 0)) → rules_for n (rules_at g p n os) ≡ map (rule_at g p n) os
unfolding rules_for rules_at
rules-read g p n [] f = refl
rules-read g p n (o ∷ os) f =
    rules-here n (rule_at g p n o) (rules_at g p n os) (rule-read g p n o (f 0 (omega arith))).node
    ∙ ap (λ (l : List Rule). rule_at g p n o ∷ l) (rules-read g p n os (λ r h. f (suc r) (omega arith)))

module _ (g : List Node) (p : List ℕ) (n : ℕ) (offsets : List ℕ) (w : RulesAt g p n offsets) where
  pub rules_bytes : (width : ℕ) → ((r : ℕ) → r < length offsets → get_or offsets r 0 + width ≤ length p) → BytesAt p offsets width
  rules_bytes width f = record { few = w.few; each = f }

  -- the ranks
  pub ranks_bytes : {columns : ℕ} → columns ≤ rank_count (node_at g n) → BytesAt p offsets columns
  ranks_bytes {columns} e = rules_bytes columns (λ r h. let z = ranks-inside g p n (get_or offsets r 0) (w.each r h) in omega arith)
