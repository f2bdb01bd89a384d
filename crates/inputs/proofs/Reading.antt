-- Each way that policies and pass can end.
-- Rests on what the readers' contracts tell.
use mathlib.Core.Path.{◌≡◌, subst}
use mathlib.Core.List.{List}
use Prim.Native.Nat.{ℕ}
use Rattle.std.specs.Prelude.{Result, Ok, Err}
use Rattle.fields.specs.Reading.{got, bad}
use Rattle.fields.specs.Answers.{number, end_of, judged}
use Rattle.fields.specs.declared.Breach.{Breach}
use Rattle.fields.specs.declared.Refusal.{Refusal}
use Rattle.fields.specs.declared.File.TheVariants.{Policies as PoliciesFile, Pass as PassFile}
use Rattle.fields.proofs.Reading.{stepped, stopped}
use Rattle.schema.specs.Schema.{schema_of}
use Rattle.policies.specs.Policies.{policies}
use Rattle.policies.specs.Pass.{pass}
use Rattle.policies.specs.declared.Row.{Row}
use Rattle.policy_reader.specs.Answers.{YieldsPolicies}
use Rattle.calls.specs.Inputs.{with_policies, with_pass, with_in_force}
use Rattle.inputs.specs.Inputs.{YieldsInForce}

module _ (s p : List ℕ) (a b : ℕ) (t : List Row) where
  -- by a schema z of the same bytes
  read_as : {z : List ℕ} {r : Result ℕ Breach} → YieldsPolicies z p a b r t → z ≡ s → YieldsPolicies s p a b r t
  read_as {r = r} w i = subst (λ (y : List ℕ). YieldsPolicies y p a b r t) i w

  pub policies_bad : {z : List ℕ} {x : Breach} {r : Result Unit Refusal} → YieldsPolicies z p a b (Err x) t → z ≡ s
      → r ≡ Err (record { fault = x.fault; file = PoliciesFile; offset = x.offset }) → YieldsInForce s p a b t r
  unfolding with_in_force with_policies judged
  policies_bad v i h = let w = read_as v i in record { answer = rw (h, stopped (policies (schema_of s) p) w.answer); rows = w.rows; long = w.long }

  module _ {z : List ℕ} {q : ℕ} (v : YieldsPolicies z p a b (Ok q) t) (i : z ≡ s) where
    read : YieldsPolicies s p a b (Ok q) t
    read = read_as v i

    pub pass_bad : {x : Breach} {r : Result Unit Refusal} → bad (number x.fault) x.offset ≡ end_of (pass a b) → r ≡ Err (record { fault = x.fault; file = PassFile; offset = x.offset }) → YieldsInForce s p a b t r
    unfolding with_in_force with_policies with_pass judged
    pass_bad e h = record { answer = rw (h, (stepped (policies (schema_of s) p) read.answer).1, stopped (pass a b) e); rows = read.rows; long = read.long }

    pub pass_ok : {r : Result Unit Refusal} {v : Unit {0}} → got tt 0 ≡ end_of (pass a b) → r ≡ Ok v → YieldsInForce s p a b t r
    unfolding with_in_force with_policies with_pass judged
    pass_ok e h = record { answer = rw (h, (stepped (policies (schema_of s) p) read.answer).1, (stepped (pass a b) e).1); rows = read.rows; long = read.long }
