-- What the answer for a policies file says of what was read, and of the rows that were filled.
use Rattle.std.specs.Prelude.{◌≡◌, List, ℕ, Result, ◌≤◌, length}
use Rattle.fields.specs.Reading.{got}
use Rattle.fields.specs.Answers.{as_end, end_of}
use Rattle.fields.specs.declared.Breach.{Breach}
use Rattle.schema.specs.Schema.{schema_of}
use Rattle.policies.specs.Policies.{Policy, policies}
use Rattle.policies.specs.Pass.{in_force}
use Rattle.policies.specs.Rows.{rows_of}
use Rattle.policies.specs.declared.Row.{Row}

-- the answer for the file p, and the rows of the policies in force; those of a refused file are anything
pub record YieldsPolicies (s p : List ℕ) (a b : ℕ) (r : Result ℕ Breach) (t : List Row) : Type 0 where
  pub answer : as_end r ≡ end_of (policies (schema_of s) p)
  pub rows : (ps : List Policy) (q : ℕ) → policies (schema_of s) p ≡ got ps q → t ≡ rows_of (in_force a b) (length t) ps
  pub long : length (schema_of s) ≤ length t
