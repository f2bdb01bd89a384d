-- What the row of a node tells of its variables: the combined conditions, and the values that are admitted.
-- Rests on what the row tells, in policies, on the conditions at its offsets, in Rules, and on the model's law of policies with the same PN.
use mathlib.Core.Path.{◌≡◌, ap, sym, ◌∙◌}
use mathlib.Core.Bool.{Bool}
use mathlib.Core.List.{List, map}
use Prim.Native.Nat.{ℕ, ◌+◌, ◌≤◌, ◌<◌}
use lib.ListN.{length}
use native.Mathlib.Omega.{arith}
use Rattle.std.specs.List.{All, list_all}
use Rattle.std.proofs.lemmas.Grind.{get_or_default_zero}
use Rattle.schema.specs.Schema.{Node, schema_of, node_at, variable_at}
use Rattle.schema.specs.declared.Variable.{Variable}
use Rattle.schema.specs.Layout.{span, offset_of}
use Rattle.policies.specs.Policies.{Policy}
use Rattle.policies.specs.Rows.{rule_at, rules_at, noted, rules_for, offsets_in, RulesAt, BytesAt}
use Rattle.policies.specs.declared.Policies.{Policies}
use Rattle.policies.proofs.Rules.{rules-read}
use Rattle.policies.proofs.Said.{row_said}
use Rattle.instances.specs.File.{value_of}
use Rattle.model.specs.Satisfaction.{admits, admitted}
use Rattle.model.specs.Reconciling.{combined}
use Rattle.model.proofs.Same.{combined-same, admitted-same}
use Rattle.conditions.specs.Rules.{condition_in}
use Rattle.conditions.proofs.Rules.{ConditionIn, conditions_bytes, conditions_admitted}

bytes-all : (p offsets : List ℕ) (width : ℕ) → BytesAt p offsets width → All (λ o. o + width ≤ length p) offsets
bytes-all p offsets width b r d h = omega (arith, b.each r h, get_or_default_zero offsets r d h)

module _ (x : Policies) (n : ℕ) (h : n < length (schema_of x.schema.bytes.now)) where
  abbrev g : List Node
  g = schema_of x.schema.bytes.now

  abbrev p : List ℕ
  p = x.bytes.now

  abbrev qs : List Policy
  qs = noted g p x.rows.now

  module _ (os : List ℕ) (e : os ≡ offsets_in x.rows.now n) (w : RulesAt g p n os) where
    said : rules_for n qs ≡ rules_for n (rules_at g p n os)
    said = row_said x.schema.bytes.now p x.rows.now n x.noted h ∙ ap (map (rule_at g p n)) (sym e) ∙ sym (rules-read g p n os w.each)

    -- the combined conditions
    pub row_combined : combined g (rules_at g p n os) n ≡ combined g qs n
    row_combined = sym (combined-same g n qs (rules_at g p n os) said)

    -- the values that are admitted of variable k, which is v
    module _ (k skip : ℕ) (b : k < length (node_at g n).variables) (a : skip ≡ offset_of (node_at g n) k) (v : Variable) (i : v ≡ variable_at g n k) where
      place : ConditionIn g n k skip v
      place = record { below = b; is = i; place = a }

      pub row_bytes : All (λ o. o + (skip + span v) ≤ length p) os
      row_bytes = bytes-all p os (skip + span v) (conditions_bytes g p n os w k skip v place)

      pub row_admitted : (u : ℕ) {r : Bool} → r ≡ list_all (λ o. admits v (condition_in p skip v o) (value_of v u)) os → r ≡ admitted qs n k (variable_at g n k) (value_of (variable_at g n k) u)
      row_admitted u q =
          q
          ∙ conditions_admitted g p n os w k skip v place (value_of v u)
          ∙ sym (admitted-same g n qs (rules_at g p n os) said k v (value_of v u))
          ∙ ap (λ (v : Variable). admitted qs n k v (value_of v u)) i
