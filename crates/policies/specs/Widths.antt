-- The bytes of what a policies file has.
use Rattle.std.specs.Prelude.{ℕ, ◌+◌, List, [], ◌∷◌, length}
use Rattle.schema.specs.Layout.{range_width, mask_width}
use Rattle.policies.specs.Policies.{Condition, range, mask, Rule, Policy}

-- the bytes of a condition, of a PN and of a policy
unfoldable pub condition_width : Condition → ℕ
condition_width (range lo hi) = range_width
condition_width (mask m) = mask_width

unfoldable pub conditions_width : List Condition → ℕ
conditions_width [] = 0
conditions_width (c ∷ cs) = condition_width c + conditions_width cs

unfoldable pub rule_width : Rule → ℕ
rule_width x = 3 + (length x.ranks + conditions_width x.conditions)

unfoldable pub rules_width : List Rule → ℕ
rules_width [] = 0
rules_width (x ∷ xs) = rule_width x + rules_width xs

unfoldable pub policy_width : Policy → ℕ
policy_width x = x.body + rules_width x.rules
