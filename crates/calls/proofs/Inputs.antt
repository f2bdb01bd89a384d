-- What holds of a call's refusals of its files and pass, and of what it does with them, holds of the call; what a call comes to
-- from the answer of the schema's reader. Rests on the laws of one reading, and on the numbers that the readers refuse with.
use mathlib.Core.Path.{◌≡◌, refl, ap, sym, ◌∙◌}
use mathlib.Core.Bool.{true}
use mathlib.Core.List.{List}
use Prim.Native.Nat.{ℕ}
use Rattle.fields.specs.Reading.{got}
use Rattle.std.specs.Prelude.{Result, Ok, Err}
use Rattle.fields.specs.Answers.{Answer, number, as_end, end_of, refusal, judged}
use Rattle.fields.specs.Outcomes.{Outcome, Did, leaving}
use Rattle.fields.specs.declared.Breach.{Breach}
use Rattle.fields.proofs.Refusals.{of_file}
use Rattle.fields.proofs.Judged.{judged-all, judged_end, refused_did, did-same}
use Rattle.schema.specs.Schema.{Node, schema, schema_of}
use Rattle.schema.proofs.Refusals.{schema-numbered}
use Rattle.schema.specs.Table.{Accepted, Tabled, YieldsSchema}
use Rattle.schema.specs.declared.Layout.{Layout}
use Rattle.schema.proofs.Accepted.{schema_got, accepted_by}
use Rattle.policies.specs.Policies.{Policy, policies}
use Rattle.policies.specs.Pass.{pass, forced}
use Rattle.policies.proofs.Within.{policies-numbered, pass-numbered}
use Rattle.calls.specs.Inputs.{with_schema, with_policies, with_pass, with_in_force}

module _ {B : Type 0} (P : B → Type 0) (refuse : ℕ → ℕ → ℕ → B) (refusals : (n file o : ℕ) → of_file n ≡ true → P (refuse n file o)) where
  pub schema-all : (f : List ℕ) (k : List Node → B) → ((g : List Node) (q : ℕ) → schema f ≡ got g q → P (k g)) → P (with_schema refuse f k)
  unfolding with_schema
  schema-all f k h = judged-all P refuse 1 (schema f) k (schema-numbered f) refusals h

  pub in-force-all : (g : List Node) (p : List ℕ) (a b : ℕ) (k : List Policy → B) → ((ps : List Policy) → P (k ps)) → P (with_in_force refuse g p a b k)
  unfolding with_in_force with_policies with_pass
  in-force-all g p a b k h =
      judged-all P refuse 2 (policies g p) _ (policies-numbered g p) refusals λ ps q e.
      judged-all P refuse 3 (pass a b) _ (pass-numbered a b) refusals λ d r i. h (forced a b ps)

  -- schema, policies and pass
  pub inputs-all : (f p : List ℕ) (a b : ℕ) (k : List Node → List Policy → B) → ((g : List Node) (q : ℕ) → schema f ≡ got g q → (ps : List Policy) → P (k g ps))
      → P (with_schema refuse f (λ g. with_in_force refuse g p a b (k g)))
  inputs-all f p a b k h = schema-all f _ λ g q e. in-force-all g p a b (k g) (h g q e)

-- ---- the schema, by its reader's answer

module _ (s : List ℕ) (t : List Layout) where
  module _ {x : Breach} (w : YieldsSchema s (Err x) t) where
    pub schema_bad : (k : List Node → Answer) → refusal (number x.fault) 1 x.offset ≡ with_schema refusal s k
    unfolding with_schema
    schema_bad k = sym (judged_end refusal 1 (schema s) k w.answer)

    pub schema_bad_did : (out : List ℕ) (k : List Node → Outcome) → Did (with_schema (leaving out) s k) (refusal (number x.fault) 1 x.offset) out
    unfolding with_schema
    schema_bad_did out k = refused_did out (judged_end (leaving out) 1 (schema s) k w.answer) refl

  module _ {r : Result ℕ Breach} {q : ℕ} (w : YieldsSchema s r t) (e : r ≡ Ok q) where
    answered : got tt q ≡ end_of (schema s)
    answered = sym (ap as_end e) ∙ w.answer

    pub schema_accepted : Accepted s
    schema_accepted = accepted_by s answered

    pub schema_tabled : Tabled s t
    schema_tabled = w.tabled schema_accepted

    schema-read : {B : Type 0} (refuse : ℕ → ℕ → ℕ → B) (k : List Node → B) → with_schema refuse s k ≡ k (schema_of s)
    unfolding with_schema judged
    schema-read refuse k = rw (schema_got s answered)

    pub schema_ok : (k : List Node → Answer) {r : Answer} → r ≡ k (schema_of s) → r ≡ with_schema refusal s k
    schema_ok k d = d ∙ sym (schema-read refusal k)

    pub schema_ok_did : (out : List ℕ) (k : List Node → Outcome) {r : Answer} {after : List ℕ} → Did (k (schema_of s)) r after → Did (with_schema (leaving out) s k) r after
    schema_ok_did out k d = did-same (schema-read (leaving out) k) d
