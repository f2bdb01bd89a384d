-- A node that no noted policy names: there the lower number is better, and nothing is forbidden.
-- Rests on policies' law of the rows and on the model's law of policies with the same PN.
use mathlib.Core.Path.{◌≡◌, refl, ap, sym, fun_ext, ◌∙◌}
use mathlib.Core.Bool.{true}
use mathlib.Core.List.{List, [], ◌∷◌, map}
use Prim.Native.Nat.{ℕ, ◌<◌}
use native.Mathlib.Omega.{arith}
use lib.Dec.{ltb}
use lib.ListN.{length}
use Rattle.schema.specs.Schema.{Node, schema_of}
use Rattle.policies.specs.Policies.{Policy}
use Rattle.policies.specs.Rows.{rule_at, rules_for, offsets_in, noted}
use Rattle.policies.specs.declared.Policies.{Policies}
use Rattle.policies.proofs.Said.{row_said}
use Rattle.model.specs.Satisfaction.{allowed}
use Rattle.model.specs.Order.{better_by, better}
use Rattle.model.proofs.Same.{better-same, allowed_same}

module _ (x : Policies) (n : ℕ) (h : n < length (schema_of x.schema.bytes.now)) (os : List ℕ) (i : os ≡ offsets_in x.rows.now n) (e : length os ≡ 0) where
  abbrev g : List Node
  g = schema_of x.schema.bytes.now

  abbrev qs : List Policy
  qs = noted g x.bytes.now x.rows.now

  unnamed : rules_for n qs ≡ rules_for n []
  unfolding rules_for
  unnamed = row_said x.schema.bytes.now x.bytes.now x.rows.now n x.noted h ∙ ap (map (rule_at g x.bytes.now n)) (sym i ∙ go os e)
    where
      go : (os : List ℕ) → length os ≡ 0 → os ≡ []
      go [] e = refl
      go (o ∷ os) e = absurd (omega arith)

  pub unnamed-better : better g qs n ≡ ltb
  unfolding better better_by
  unnamed-better = fun_ext (λ a. fun_ext (λ b. better-same g n qs [] unnamed a b))

  pub unnamed-allowed : (x : ℕ) → allowed g qs n x ≡ true
  unfolding allowed
  unnamed-allowed x = allowed_same g n qs [] unnamed x
