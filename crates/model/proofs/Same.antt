-- Lists of policies that have the same PN of a node say the same of it; those that have so of every node are reconciled, checked and compared alike.
-- Rests on the definitions: a policy without PN of the node sets no condition there and gives each successor rank 0.
use mathlib.Core.Path.{◌≡◌, refl, ap, ap₂, sym, ◌∙◌, fun_ext}
use mathlib.Core.Bool.{Bool, true, false, cond, not, ◌&&◌}
use mathlib.Core.List.{List, [], ◌∷◌}
use Prim.Native.Nat.{ℕ, ◌+◌}
use lib.Dec.{eqb, ltb}
use lib.ListN.{length, get_elem?, get_or}
use lib.IntN.{ℤ}
use Rattle.fields.proofs.Tests.{never}
use Rattle.schema.specs.Schema.{Node, node_at}
use Rattle.schema.specs.declared.Variable.{Variable}
use Rattle.policies.specs.Policies.{Condition, Rule, Policy, has_rule, rule_for, no_rule, rank_of, conditions_of}
use Rattle.policies.specs.Rows.{rules_for}
use Rattle.instances.specs.Instance.{Entry}
use Rattle.instances.specs.File.{value_width, encode_entry}
use Rattle.model.specs.Satisfaction.{column_of, rank, condition_at, meets, every, allowed, admitted, choice_meets}
use Rattle.model.specs.Order.{better_by, better, good, as_good}
use Rattle.model.specs.Reconciling.{own, restrict, restrict_all, combined_from, combined, least_each, reconcile, rules_of, reconciled}
use Rattle.model.specs.Comparing.{or_next, forbidden_value, forbidden_entry, forbidden_from, forbidden}

-- ---- what policies say of node n, by their PN of it

module _ (n : ℕ) where
  no-rule : (xs : List Rule) → has_rule n xs ≡ false → rule_for n xs ≡ no_rule
  unfolding has_rule rule_for
  no-rule [] e = refl
  no-rule (x ∷ xs) e = go (eqb x.node n) e (no-rule xs)
    where
      go : (b : Bool) → cond b true (has_rule n xs) ≡ false → (has_rule n xs ≡ false → rule_for n xs ≡ no_rule) → cond b x (rule_for n xs) ≡ no_rule
      go true e h = never (sym e)
      go false e h = h e

  -- what their conditions on variable k leave
  left_by_rules : List Rule → ℕ → Condition → Condition
  left_by_rules [] k c = c
  left_by_rules (x ∷ xs) k c = left_by_rules xs k (restrict c (get_elem? x.conditions k))

  left_by : (qs : List Policy) (k : ℕ) (c : Condition) → restrict_all qs n k c ≡ left_by_rules (rules_for n qs) k c
  unfolding restrict_all restrict condition_at conditions_of rules_for left_by_rules
  left_by [] k c = refl
  left_by (q ∷ qs) k c = go (has_rule n q.rules) refl (left_by qs k)
    where
      go : (b : Bool) → has_rule n q.rules ≡ b → ((c : Condition) → restrict_all qs n k c ≡ left_by_rules (rules_for n qs) k c)
          → restrict_all qs n k (restrict c (get_elem? (rule_for n q.rules).conditions k)) ≡ left_by_rules (cond b (rule_for n q.rules ∷ rules_for n qs) (rules_for n qs)) k c
      go true e ih = ih (restrict c (get_elem? (rule_for n q.rules).conditions k))
      go false e ih = ap (λ (x : Rule). restrict_all qs n k (restrict c (get_elem? x.conditions k))) (no-rule q.rules e) ∙ ih c

  -- a test that each PN must pass, and none does
  pub every-by : (ok : Rule → Bool) → ok no_rule ≡ true → (qs : List Policy) → every (λ (q : Policy). ok (rule_for n q.rules)) qs ≡ every ok (rules_for n qs)
  unfolding rules_for
  every-by ok t [] = refl
  every-by ok t (q ∷ qs) = go (has_rule n q.rules) refl (every-by ok t qs)
    where
      go : (b : Bool) → has_rule n q.rules ≡ b → every (λ (q : Policy). ok (rule_for n q.rules)) qs ≡ every ok (rules_for n qs)
          → ok (rule_for n q.rules) && every (λ (q : Policy). ok (rule_for n q.rules)) qs ≡ every ok (cond b (rule_for n q.rules ∷ rules_for n qs) (rules_for n qs))
      go true e ih = ap (λ (b : Bool). ok (rule_for n q.rules) && b) ih
      go false e ih = ap₂ (λ (a b : Bool). a && b) (ap ok (no-rule q.rules e) ∙ t) ih

  -- the order of two by their ranks, which have their columns by f
  pub better-by : (f : ℕ → ℕ) (qs : List Policy) (a b : ℕ)
      → better_by (λ (q : Policy) (s : ℕ). rank_of q n (f s)) qs a b ≡ better_by (λ (x : Rule) (s : ℕ). get_or x.ranks (f s) 0) (rules_for n qs) a b
  unfolding better_by rank_of rules_for
  better-by f [] a b = refl
  better-by f (q ∷ qs) a b = go (has_rule n q.rules) refl (better-by f qs a b)
    where
      go : (t : Bool) → has_rule n q.rules ≡ t
          → better_by (λ (q : Policy) (s : ℕ). rank_of q n (f s)) qs a b ≡ better_by (λ (x : Rule) (s : ℕ). get_or x.ranks (f s) 0) (rules_for n qs) a b
          → better_by (λ (q : Policy) (s : ℕ). rank_of q n (f s)) (q ∷ qs) a b
          ≡ better_by (λ (x : Rule) (s : ℕ). get_or x.ranks (f s) 0) (cond t (rule_for n q.rules ∷ rules_for n qs) (rules_for n qs)) a b
      go true e ih =
          ap (λ (b' : Bool). cond (eqb (rank_of q n (f a)) (rank_of q n (f b))) b' (ltb (rank_of q n (f a)) (rank_of q n (f b)))) ih
      go false e ih =
          ap (λ (x : Rule). cond (eqb (get_or x.ranks (f a) 0) (get_or x.ranks (f b) 0)) (better_by (λ (q : Policy) (s : ℕ). rank_of q n (f s)) qs a b) (ltb (get_or x.ranks (f a) 0) (get_or x.ranks (f b) 0))) (no-rule q.rules e)
          ∙ ih

-- ---- the same PN of a node

module _ (g : List Node) (n : ℕ) (xs qs : List Policy) (e : rules_for n xs ≡ rules_for n qs) where
  left-same : (k : ℕ) (c : Condition) → restrict_all xs n k c ≡ restrict_all qs n k c
  left-same k c = left_by n xs k c ∙ ap (λ (l : List Rule). left_by_rules n l k c) e ∙ sym (left_by n qs k c)

  combined-from : (k : ℕ) (vs : List Variable) → combined_from xs n k vs ≡ combined_from qs n k vs
  unfolding combined_from
  combined-from k [] = refl
  combined-from k (v ∷ vs) = ap₂ (λ (c : Condition) (cs : List Condition). c ∷ cs) (left-same k (own v)) (combined-from (k + 1) vs)

  -- the combined conditions
  pub combined-same : combined g xs n ≡ combined g qs n
  unfolding combined
  combined-same = combined-from 0 (node_at g n).variables

  -- which of two successors is better
  pub better-same : (a b : ℕ) → better g xs n a b ≡ better g qs n a b
  unfolding better rank
  better-same a b =
      let f : ℕ → ℕ = λ s. column_of s (node_at g n).successors in
      better-by n f xs a b
      ∙ ap (λ (l : List Rule). better_by (λ (x : Rule) (s : ℕ). get_or x.ranks (column_of s (node_at g n).successors) 0) l a b) e
      ∙ sym (better-by n f qs a b)

  every-same : (ok : Rule → Bool) → ok no_rule ≡ true → every (λ (q : Policy). ok (rule_for n q.rules)) xs ≡ every (λ (q : Policy). ok (rule_for n q.rules)) qs
  every-same ok t = every-by n ok t xs ∙ ap (every ok) e ∙ sym (every-by n ok t qs)

  -- which successors are allowed
  pub allowed_same : (s : ℕ) → allowed g xs n s ≡ allowed g qs n s
  unfolding allowed rank rank_of
  allowed_same s = every-same (λ (x : Rule). not (eqb (get_or x.ranks (column_of s (node_at g n).successors) 0) 255)) refl

  -- which values are admitted
  pub admitted-same : (k : ℕ) (v : Variable) (x : ℤ) → admitted xs n k v x ≡ admitted qs n k v x
  unfolding admitted meets condition_at conditions_of
  admitted-same k v x = every-same (λ (r : Rule). meets v (get_elem? r.conditions k) x) refl

-- ---- the same PN of every node

module _ (g : List Node) (xs qs : List Policy) (e : (n : ℕ) → rules_for n xs ≡ rules_for n qs) where
  better-alike : better g xs ≡ better g qs
  better-alike = fun_ext λ n. fun_ext λ a. fun_ext λ b. better-same g n xs qs (e n) a b

  rules-alike : rules_of g xs ≡ rules_of g qs
  rules-alike = λ i. record {
    allowed = fun_ext {f = allowed g xs} {g = allowed g qs} (λ n. fun_ext λ s. allowed_same g n xs qs (e n) s) i;
    better = better-alike i;
    least = λ n. least_each (combined-same g n xs qs (e n) i);
  }

  -- they get the same instance
  pub reconciled-same : reconciled g xs ≡ reconciled g qs
  unfolding reconciled
  reconciled-same = ap (reconcile g) rules-alike

  -- they put two instances in the same order
  pub as-good-same : (i j : List Entry) → as_good g xs i j ≡ as_good g qs i j
  unfolding as_good
  as-good-same i j = ap (λ (b : ℕ → ℕ → ℕ → Bool). good g b i j 0) better-alike

  value_same : (n k : ℕ) (vs : List Variable) (ys : List ℤ) (o : ℕ) → forbidden_value xs n k vs ys o ≡ forbidden_value qs n k vs ys o
  unfolding forbidden_value
  value_same n k [] ys o = refl
  value_same n k (v ∷ vs) [] o = refl
  value_same n k (v ∷ vs) (y ∷ ys) o = rw (admitted-same g n xs qs (e n) k v y, value_same n (k + 1) vs ys (o + value_width v)) refl

  entry-same : (x : Entry) (o : ℕ) → forbidden_entry g xs x o ≡ forbidden_entry g qs x o
  unfolding forbidden_entry choice_meets
  entry-same x o = rw (allowed_same g x.node xs qs (e x.node) x.choice, value_same x.node 0 (node_at g x.node).variables x.values (o + 4)) refl

  from-same : (i : List Entry) (o : ℕ) → forbidden_from g xs i o ≡ forbidden_from g qs i o
  unfolding forbidden_from
  from-same [] o = refl
  from-same (x ∷ i) o = ap₂ or_next (entry-same x o) (from-same i (o + length (encode_entry g x)))

  -- they forbid the same field of an instance first
  pub forbidden-same : (i : List Entry) → forbidden g xs i ≡ forbidden g qs i
  unfolding forbidden
  forbidden-same i = from-same i 3
