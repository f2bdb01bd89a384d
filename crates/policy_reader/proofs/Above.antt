-- What the crates above have of the reader's answer: the policies that were read, and the rows that note those in force; or the refusal.
-- Rests on what the contract says.
use mathlib.Core.Path.{◌≡◌, sym, ◌∙◌}
use mathlib.Core.List.{List}
use Prim.Native.Nat.{ℕ}
use native.Mathlib.Omega.{arith}
use lib.ListN.{length}
use Rattle.std.specs.Prelude.{Result}
use Rattle.fields.specs.Reading.{Got, got, bad}
use Rattle.fields.specs.Answers.{as_end, end_of}
use Rattle.fields.specs.declared.Breach.{Breach}
use Rattle.fields.proofs.Reading.{stopped}
use Rattle.schema.specs.Schema.{schema_of}
use Rattle.policies.specs.Policies.{Policy, policies, policies_in, policies_of}
use Rattle.policies.specs.Pass.{in_force}
use Rattle.policies.specs.Rows.{rows_of}
use Rattle.policies.specs.declared.Row.{Row}
use Rattle.policy_reader.specs.Answers.{YieldsPolicies}

read_next : (r : Got (List Policy)) {q : ℕ} → got tt q ≡ end_of r → r ≡ got (policies_in r) q
read_next (got ps p) e = cc
read_next (bad m o) e = absurd (let z : ◌≡◌ {A = ℕ} 0 1 = cc in omega arith)

module _ (schema p : List ℕ) (a b : ℕ) (t : List Row) (f : Result ℕ Breach) (w : YieldsPolicies schema p a b f t) where
  pub accepted_policies : {q : ℕ} → as_end f ≡ got tt q → policies (schema_of schema) p ≡ got (policies_of (schema_of schema) p) q
  unfolding policies_of
  accepted_policies e = read_next (policies (schema_of schema) p) (sym e ∙ w.answer)

  pub rows_in_force : {q : ℕ} → as_end f ≡ got tt q → t ≡ rows_of (in_force a b) (length t) (policies_of (schema_of schema) p)
  rows_in_force {q} e = w.rows (policies_of (schema_of schema) p) q (accepted_policies e)

  pub refused_policies : {m o : ℕ} → as_end f ≡ bad m o → policies (schema_of schema) p ≡ bad m o
  refused_policies e = stopped (policies (schema_of schema) p) (sym e ∙ w.answer)
