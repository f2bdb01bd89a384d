-- The conditions of the PN that are read at some offsets.
-- Rests on what an accepted reading of a PN gives, on its own stretch of the file, in policies.
use mathlib.Core.Path.{◌≡◌, refl, ap, ap₂, sym, subst, ◌∙◌}
use mathlib.Core.Bool.{Bool, ◌&&◌}
use mathlib.Core.List.{List, [], ◌∷◌}
use mathlib.Core.Option.{Option, some}
use Prim.Native.Nat.{ℕ, zero, suc, ◌+◌, ◌≤◌, ◌<◌}
use native.Mathlib.Omega.{arith}
use native.Mathlib.Nat.{add-zero}
use lib.ListN.{length, get_or, get_elem?, drop}
use Rattle.std.specs.List.{list_all}
use lib.IntN.{ℤ}
use Rattle.schema.specs.Schema.{Node, node_at, no_variable}
use Rattle.schema.specs.declared.Variable.{Variable}
use Rattle.schema.specs.declared.Variable.TheVariants.{Number, Listed}
use Rattle.schema.specs.Layout.{span, spans, offset_of}
use Rattle.policies.specs.Policies.{Condition, Rule, conditions_of, of_rules}
use Rattle.policies.specs.Widths.{condition_width}
use Rattle.policies.specs.Rows.{rule_at, rules_at, RuleAt, RulesAt, BytesAt}
use Rattle.policies.proofs.Stands.{ConditionAt, width-span, ConditionsAt, none, more}
use Rattle.policies.proofs.Rules.{rule-read, rule-room, own-rule, rules_bytes}
use Rattle.model.specs.Satisfaction.{condition_at, admits, meets, admitted}
use Rattle.model.specs.Reconciling.{both, restrict, restrict_all}
use Rattle.conditions.specs.Rules.{range_at, mask_at, condition_in, narrowed_by}

-- ---- the condition of one variable

-- variable k of node n is v, and its condition stands so far from the first rank
pub record ConditionIn (g : List Node) (n k skip : ℕ) (v : Variable) : Type 0 where
  pub below : k < length (node_at g n).variables
  pub is : v ≡ get_or (node_at g n).variables k no_variable
  pub place : skip ≡ offset_of (node_at g n) k

-- the k-th of conditions that stand somewhere
record Kth (s : List ℕ) (p : ℕ) (v : Variable) (o : Option Condition) : Type 0 where
  what : Condition
  is : o ≡ some what
  stands : ConditionAt s p v what

kth : {s : List ℕ} {p : ℕ} {vs : List Variable} {cs : List Condition} → ConditionsAt s p vs cs → (k : ℕ) → k < length vs
    → Kth s (p + spans k vs) (get_or vs k no_variable) (get_elem? cs k)
unfolding spans
kth none k h = absurd (omega arith)
kth {s} {p} (more {v = v} {vs} {c} {cs} a t) zero h = record { what = c; is = refl; stands = subst (λ (i : ℕ). ConditionAt s i v c) (sym (add-zero p)) a }
kth {s} {p} (more {v = v} {vs} {c} {cs} a t) (suc k) h =
    subst (λ (i : ℕ). Kth s i (get_or vs k no_variable) (get_elem? cs k)) (let z : p + condition_width c + spans k vs ≡ p + (span v + spans k vs) = omega (arith, width-span s p v c a) in z)
    (kth t k (omega arith))

-- one policy's, at the offset of its PN
module _ (g : List Node) (p : List ℕ) (n o k skip : ℕ) (w : RuleAt g p n o) where
  abbrev set : Option Condition
  set = condition_at (of_rules (rule_at g p n o ∷ [])) n k

  stands : {v : Variable} → ConditionIn g n k skip v → Kth (drop o p) skip v set
  unfolding condition_at conditions_of offset_of
  stands {v} c =
      let r = rule-read g p n o w in
      subst (λ (x : Rule). Kth (drop o p) skip v (get_elem? x.conditions k)) (sym (own-rule g p n o w))
      (subst (λ (i : ℕ). Kth (drop o p) i v (get_elem? (rule_at g p n o).conditions k))
      (let z : 0 + length (rule_at g p n o).ranks + spans k (node_at g n).variables ≡ skip = omega (arith, c.place, r.count) in z)
      (subst (λ (u : Variable). Kth (drop o p) (0 + length (rule_at g p n o).ranks + spans k (node_at g n).variables) u (get_elem? (rule_at g p n o).conditions k)) (sym c.is)
      (kth r.conditions k c.below)))

  -- it is read where it stands
  read : {v : Variable} → ConditionIn g n k skip v → (set ≡ some (condition_in p skip v o)) × (o + (skip + span v) ≤ length p)
  unfolding condition_in range_at mask_at span
  read {v} c = let x = stands c in go v x.what x.is x.stands
    where
      go : (v : Variable) (d : Condition) → set ≡ some d → ConditionAt (drop o p) skip v d → (set ≡ some (condition_in p skip v o)) × (o + (skip + span v) ≤ length p)
      go (Number lo hi) d i r = (i ∙ ap (λ (x : Condition). some x) r.is, rule-room g p n o w (skip + 8) r.inside)
      go (Listed size) d i r = (i ∙ ap (λ (x : Condition). some x) r.is, rule-room g p n o w (skip + 4) r.inside)

-- ---- all offsets

rules-narrow : (g : List Node) (p : List ℕ) (n k : ℕ) (f : ℕ → Condition) (os : List ℕ)
    → ((r : ℕ) → r < length os → condition_at (of_rules (rule_at g p n (get_or os r 0) ∷ [])) n k ≡ some (f (get_or os r 0)))
    → (c : Condition) → narrowed_by f os c ≡ restrict_all (rules_at g p n os) n k c
unfolding narrowed_by rules_at restrict_all restrict
rules-narrow g p n k f [] e c = refl
rules-narrow g p n k f (o ∷ os) e c =
    rules-narrow g p n k f os (λ r h. e (suc r) (omega arith)) (both c (f o))
    ∙ ap (λ (d : Option Condition). restrict_all (rules_at g p n os) n k (restrict c d)) (sym (e 0 (omega arith)))

rules-admit : (g : List Node) (p : List ℕ) (n k : ℕ) (v : Variable) (x : ℤ) (f : ℕ → Condition) (os : List ℕ)
    → ((r : ℕ) → r < length os → condition_at (of_rules (rule_at g p n (get_or os r 0) ∷ [])) n k ≡ some (f (get_or os r 0)))
    → list_all (λ (o : ℕ). admits v (f o) x) os ≡ admitted (rules_at g p n os) n k v x
unfolding admitted meets rules_at
rules-admit g p n k v x f [] e = refl
rules-admit g p n k v x f (o ∷ os) e =
    ap₂ (λ (a b : Bool). a && b) (ap (λ (d : Option Condition). meets v d x) (sym (e 0 (omega arith)))) (rules-admit g p n k v x f os (λ r h. e (suc r) (omega arith)))

module _ (g : List Node) (p : List ℕ) (n : ℕ) (offsets : List ℕ) (w : RulesAt g p n offsets) (k skip : ℕ) (v : Variable) (i : ConditionIn g n k skip v) where
  each-read : (r : ℕ) → r < length offsets → condition_at (of_rules (rule_at g p n (get_or offsets r 0) ∷ [])) n k ≡ some (condition_in p skip v (get_or offsets r 0))
  each-read r h = (read g p n (get_or offsets r 0) k skip (w.each r h) i).0

  -- the bytes of the conditions
  pub conditions_bytes : BytesAt p offsets (skip + span v)
  conditions_bytes = rules_bytes g p n offsets w (skip + span v) (λ r h. (read g p n (get_or offsets r 0) k skip (w.each r h) i).1)

  -- what they leave
  pub conditions_left : (c : Condition) → narrowed_by (condition_in p skip v) offsets c ≡ restrict_all (rules_at g p n offsets) n k c
  conditions_left = rules-narrow g p n k (condition_in p skip v) offsets each-read

  -- which values they admit
  pub conditions_admitted : (x : ℤ) → list_all (λ o. admits v (condition_in p skip v o) x) offsets ≡ admitted (rules_at g p n offsets) n k v x
  conditions_admitted x = rules-admit g p n k v x (condition_in p skip v) offsets each-read
