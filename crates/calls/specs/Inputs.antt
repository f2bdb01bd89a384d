-- What the calls read before their own work (01, 'Where a number arises': 'files: 1 schema, 2 policies, 3 pass', 'calls check in
-- that order'): refuse is the call's refusal with a number, file and offset, k what it does with what was read.
use Rattle.std.specs.Prelude.{ℕ, List}
use Rattle.fields.specs.Answers.{judged}
use Rattle.schema.specs.Schema.{Node, schema}
use Rattle.policies.specs.Policies.{Policy, policies}
use Rattle.policies.specs.Pass.{pass, forced}

-- the schema file f
unfoldable pub with_schema : {B : Type 0} → (ℕ → ℕ → ℕ → B) → List ℕ → (List Node → B) → B
with_schema refuse f k = judged refuse 1 (schema f) k

-- the policies file p
unfoldable pub with_policies : {B : Type 0} → (ℕ → ℕ → ℕ → B) → List Node → List ℕ → (List Policy → B) → B
with_policies refuse g p k = judged refuse 2 (policies g p) k

-- the pass from a to b: those of the policies that are in force in it
unfoldable pub with_pass : {B : Type 0} → (ℕ → ℕ → ℕ → B) → List Policy → ℕ → ℕ → (List Policy → B) → B
with_pass refuse ps a b k = judged refuse 3 (pass a b) λ _. k (forced a b ps)

-- policies, then pass
unfoldable pub with_in_force : {B : Type 0} → (ℕ → ℕ → ℕ → B) → List Node → List ℕ → ℕ → ℕ → (List Policy → B) → B
with_in_force refuse g p a b k =
    with_policies refuse g p λ ps.
    with_pass refuse ps a b k
