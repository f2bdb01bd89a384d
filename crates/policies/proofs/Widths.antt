-- How long the policies of an accepted file are at most: two bytes hold each offset in it.
-- Rests on Sound (nodes ascend below the count), and on schema's readings: at most 64 nodes, of 8 successors and 4 variables.
use mathlib.Core.Path.{◌≡◌}
use mathlib.Core.List.{List, [], ◌∷◌}
use Prim.Native.Nat.{ℕ, ◌+◌, ◌*◌, ◌≤◌, ◌<◌}
use native.Mathlib.Omega.{arith}
use lib.ListN.{length}
use Rattle.schema.specs.Schema.{Node, schema_of, node_at}
use Rattle.schema.proofs.Access.{successors_few, variables_few, ranks_few}
use Rattle.policies.specs.Policies.{Condition, range, mask, Rule, Policy}
use Rattle.policies.specs.Widths.{condition_width, conditions_width, rule_width, rules_width, policy_width}
use Rattle.fields.specs.Shorts.{short}
use Rattle.policies.proofs.Stands.{PolicyAt, head-back}
use Rattle.policies.proofs.Sound.{SoundRule, SoundRules, sound-rules}
use Rattle.policies.proofs.Nodes.{nodes-few}

-- ---- a PN, the PN of a policy, a policy

conditions-most : (cs : List Condition) → conditions_width cs ≤ 8 * length cs
unfolding conditions_width condition_width
conditions-most [] = omega arith
conditions-most (range lo hi ∷ cs) = omega (arith, conditions-most cs)
conditions-most (mask m ∷ cs) = omega (arith, conditions-most cs)

module _ (schema : List ℕ) where
  abbrev g : List Node
  g = schema_of schema

  rule-most : (x : Rule) → SoundRule g x → rule_width x ≤ 43
  unfolding rule_width
  rule-most x r =
      let n = x.node in
      omega (
        arith,
        r.ranks,
        r.conditions,
        conditions-most x.conditions,
        variables_few schema n r.below,
        ranks_few (node_at g n) (successors_few schema n r.below),
      )

  rules-most : (low : ℕ) (xs : List Rule) → low ≤ length g → SoundRules g low xs → rules_width xs + 43 * low ≤ 43 * length g
  unfolding rules_width
  rules-most low [] h s = omega arith
  rules-most low (x ∷ xs) h s = omega (arith, s.0, rule-most x s.1, rules-most (x.node + 1) xs (let b = s.1.below in omega arith) s.2)

  -- 7 for its head, 43 for each of 64 PN
  pub policy-most : {s : List ℕ} {x : Policy} → PolicyAt g s x → policy_width x ≤ 2759
  unfolding policy_width
  policy-most {s} {x} w =
      omega (arith, w.body, (head-back s w.read).next, nodes-few schema, rules-most 0 x.rules (omega arith) (sound-rules w.rules))

-- sixteen of them have fewer than 65,536
pub short-same : (o : ℕ) → o < 65536 → short o ≡ o
unfolding short
short-same o h = omega arith
