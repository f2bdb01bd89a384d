-- What the code's answer says of policies and pass, and what the lent rows hold then.
use Rattle.std.specs.Prelude.{ℕ, Result, ◌≤◌, ◌≡◌, List, length}
use Rattle.fields.specs.Reading.{got}
use Rattle.fields.specs.Answers.{answer_of, success, refusal}
use Rattle.schema.specs.Schema.{schema_of}
use Rattle.policies.specs.Policies.{Policy, policies}
use Rattle.policies.specs.Pass.{in_force}
use Rattle.policies.specs.Rows.{rows_of}
use Rattle.policies.specs.declared.Row.{Row}
use Rattle.calls.specs.Inputs.{with_in_force}
use Rattle.fields.specs.declared.Refusal.{Refusal}

-- policies file p, then the pass from a to b, under the schema file s: the rows t note those of an accepted file that are in force;
-- after a refusal of the file they hold anything
pub record YieldsInForce (s p : List ℕ) (a b : ℕ) (t : List Row) (r : Result Unit Refusal) : Type 0 where
  pub answer : answer_of (λ _. 0) r ≡ with_in_force refusal (schema_of s) p a b (λ _. success 0)
  pub rows : (ps : List Policy) (q : ℕ) → policies (schema_of s) p ≡ got ps q → t ≡ rows_of (in_force a b) (length t) ps
  pub long : length (schema_of s) ≤ length t
