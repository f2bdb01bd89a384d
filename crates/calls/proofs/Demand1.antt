-- Demand 1: the first breach, in 01's order, fixes the answer; a refused call leaves the buffer as it was; a file cut or extended.
-- Rests on the definitions of the calls, on the laws that no refusal of a file has number 0, and on the readers' laws of cut and extended
-- files. That every call ends and answers so is its contract, which has no premise.
use mathlib.Core.Path.{◌≡◌, refl, sym, ap, ◌∙◌}
use mathlib.Core.Logic.{◌↔◌}
use mathlib.Core.Bool.{true}
use mathlib.Core.List.{List, ◌∷◌, ◌++◌}
use mathlib.Core.Option.{Option, none, some}
use Prim.Native.Nat.{ℕ, ◌<◌}
use native.Mathlib.Omega.{arith}
use lib.ListN.{length, take}
use Rattle.fields.specs.Reading.{got, bad}
use Rattle.fields.specs.Answers.{Answer, judged, refusal}
use Rattle.fields.specs.Outcomes.{refused, leaving}
use Rattle.fields.proofs.Refusals.{of_file}
use Rattle.fields.proofs.Judged.{judged-all}
use Rattle.fields.proofs.Cut.{field_at}
use Rattle.schema.specs.Schema.{Node, schema, nodes_in}
use Rattle.schema.proofs.Cut.{schema_fields, schema-cut, schema-extended}
use Rattle.policies.specs.Pass.{forced}
use Rattle.instances.specs.Instance.{Entry}
use Rattle.instances.specs.File.{instance, encode}
use Rattle.instances.proofs.Refusals as of-instance
use Rattle.instances.proofs.Cut.{instance_fields, instance-cut, instance-extended}
use Rattle.model.specs.Reconciling.{reconciled}
use Rattle.model.specs.Comparing.{compared, forbidden}
use Rattle.model.proofs.Relations.{ForbiddenField, First}
use Rattle.model.proofs.Forbidden.{forbidden-first}
use Rattle.calls.specs.Inputs.{with_schema}
use Rattle.calls.specs.Calls.{given, reconciling, permitted, checking_in_force, checking, comparing_in_force, comparing, delivering, copying, sheet_of, sheeting}
use Rattle.calls.proofs.Inputs.{schema-all, inputs-all}
use Rattle.calls.proofs.Answers.{Alone, Untouched, refused-untouched, success-alone, refusal-alone, placed-untouched}
use Rattle.calls.proofs.Accepted.{InputsAccepted, checking-is, comparing-is, Breach, of-schema, reconciling-refused, checking-refused, comparing-refused, breach-number}

-- what the calls that take policies answer
pub record Refused (f p : List ℕ) (a b : ℕ) (s t out : List ℕ) (n file o : ℕ) : Type 0 where
  pub number : n ≡ 0 → ⊥
  pub reconcile : reconciling f p a b out ≡ refused n file o out
  pub check : checking f p a b s ≡ refusal n file o
  pub compare : comparing f p a b s t ≡ refusal n file o

-- and the copying call and the sheet, which take none
pub record SchemaRefused (f p : List ℕ) (a b : ℕ) (s t out : List ℕ) (n o : ℕ) : Type 0 where
  pub with-policies : Refused f p a b s t out n 1 o
  pub copy : copying f s out ≡ refused n 1 o out
  pub sheet : sheeting f s out ≡ refused n 1 o out

-- what the calls answer that take instance file s, under the schema g: 'files 4 and 5' where they take two
pub record InstanceRefused (f p : List ℕ) (a b : ℕ) (g : List Node) (s t out : List ℕ) (n o : ℕ) : Type 0 where
  pub number : n ≡ 0 → ⊥
  pub copy : copying f s out ≡ refused n 4 o out
  pub sheet : sheeting f s out ≡ refused n 4 o out
  pub check : InputsAccepted f p a b → checking f p a b s ≡ refusal n 4 o
  pub first : InputsAccepted f p a b → comparing f p a b s t ≡ refusal n 4 o
  pub second : InputsAccepted f p a b → {i : List Entry} {q : ℕ} → instance g t ≡ got i q → comparing f p a b t s ≡ refusal n 5 o

pub record Demand1 (f p : List ℕ) (a b : ℕ) (s t out : List ℕ) : Type 0 where
  -- schema, policies, pass, then instances: 'calls check in that order'
  pub inputs-refused : {n file o : ℕ} → Breach f p a b n file o → Refused f p a b s t out n file o
  pub schema-refused : {n o : ℕ} → schema f ≡ bad n o → SchemaRefused f p a b s t out n o
  pub instance-refused : {g : List Node} {q n o : ℕ} → schema f ≡ got g q → instance g s ≡ bad n o → InstanceRefused f p a b g s t out n o
  -- 'then the last rows': 13 and 14 are in demands 2 and 3;
  -- '18 first choice or value field that a policy in force forbids; file 4'
  pub field-forbidden : (A : InputsAccepted f p a b) {i : List Entry} {q : ℕ} → instance A.g s ≡ got i q
      → (o : ℕ) → (checking f p a b s ≡ refusal 18 4 o) ↔ First (ForbiddenField A.g (forced a b A.ps) i 3) o
  -- 'if a file is cut': 2 at the field in which the first byte that is missing stands
  pub schema-cut-off : {g : List Node} {q : ℕ} → schema f ≡ got g q → (k : ℕ) → k < length f → SchemaRefused (take k f) p a b s t out 2 (field_at (schema_fields g) 0 k)
  pub instance-cut-off : {g : List Node} {i : List Entry} {q r : ℕ} → schema f ≡ got g q → instance g s ≡ got i r → (k : ℕ) → k < length s
      → InstanceRefused f p a b g (take k s) t out 2 (field_at (instance_fields g i) 0 k)
  -- 'extended': 7 at the first byte that remains
  pub schema-longer : {g : List Node} {q : ℕ} → schema f ≡ got g q → (x : ℕ) (more : List ℕ) → SchemaRefused (f ++ (x ∷ more)) p a b s t out 7 (length f)
  pub instance-longer : {g : List Node} {i : List Entry} {q r : ℕ} → schema f ≡ got g q → instance g s ≡ got i r → (x : ℕ) (more : List ℕ)
      → InstanceRefused f p a b g (s ++ (x ∷ more)) t out 7 (length s)
  -- 'a refused call leaves the output buffer untouched', and 'after a refusal its other parts are 0'
  pub reconcile-untouched : Untouched out (reconciling f p a b out)
  pub copy-untouched : Untouched out (copying f s out)
  pub sheet-untouched : Untouched out (sheeting f s out)
  pub check-alone : Alone (checking f p a b s)
  pub compare-alone : Alone (comparing f p a b s t)

-- ---- the proof

inputs-refused : (f p : List ℕ) (a b : ℕ) (s t out : List ℕ) {n file o : ℕ} → Breach f p a b n file o → Refused f p a b s t out n file o
inputs-refused f p a b s t out e =
    record { number = breach-number e; reconcile = reconciling-refused e out; check = checking-refused e s; compare = comparing-refused e s t }

schema-refused : (f p : List ℕ) (a b : ℕ) (s t out : List ℕ) {n o : ℕ} → schema f ≡ bad n o → SchemaRefused f p a b s t out n o
unfolding copying sheeting delivering with_schema judged
schema-refused f p a b s t out e = record { with-policies = inputs-refused f p a b s t out (of-schema e); copy = rw e; sheet = rw e }

instance-refused : (f p : List ℕ) (a b : ℕ) (s t out : List ℕ) {g : List Node} {q n o : ℕ} → schema f ≡ got g q → instance g s ≡ bad n o
    → InstanceRefused f p a b g s t out n o
unfolding copying sheeting delivering with_schema judged comparing_in_force
instance-refused f p a b s t out {g} e h =
    record {
      number = of-instance.refused g s h;
      copy = rw (e, h);
      sheet = rw (e, h);
      check = λ A. checking-is A s ∙ rw (here A s ∙ h);
      first = λ A. comparing-is A s t ∙ rw (here A s ∙ h);
      second = λ A k. comparing-is A t s ∙ rw (here A t ∙ k, here A s ∙ h);
    }
  where
    here : (A : InputsAccepted f p a b) (u : List ℕ) → instance A.g u ≡ instance g u
    here A u = ap (λ x. instance (nodes_in x) u) (sym A.schema-read ∙ e)

permitted-alone : (o : Option ℕ) → Alone (permitted o)
unfolding permitted
permitted-alone none = record { value = λ h. refl }
permitted-alone (some o) = record { value = λ h. refl }

some_of : (x : Option ℕ) (o : ℕ) → permitted x ≡ refusal 18 4 o → x ≡ some o
unfolding permitted
some_of none o e = absurd (let z : ◌≡◌ {A = ℕ} 0 18 = ap (λ (r : Answer). r.number) e in omega arith)
some_of (some x) o e = ap {B = Option ℕ} some (ap (λ (r : Answer). r.offset) e)

field-forbidden : (f p : List ℕ) (a b : ℕ) (s : List ℕ) (A : InputsAccepted f p a b) {i : List Entry} {q : ℕ} → instance A.g s ≡ got i q
    → (o : ℕ) → (checking f p a b s ≡ refusal 18 4 o) ↔ First (ForbiddenField A.g (forced a b A.ps) i 3) o
unfolding judged permitted
field-forbidden f p a b s A {i} e o =
    let h : checking f p a b s ≡ permitted (forbidden A.g (forced a b A.ps) i) = checking-is A s ∙ rw e in
    let w = forbidden-first A.g (forced a b A.ps) i o in
    (λ d. w.0 (some_of (forbidden A.g (forced a b A.ps) i) o (sym h ∙ d)), λ v. h ∙ ap permitted (w.1 v))

given-untouched : (g : List Node) (out : List ℕ) (i : Option (List Entry)) → Untouched out (given g out i)
unfolding given
given-untouched g out none = refused-untouched 13 0 0 out
given-untouched g out (some i) = placed-untouched (encode g i) out

delivering-untouched : (text : List Node → List Entry → List ℕ) (f s out : List ℕ) → Untouched out (delivering text f s out)
unfolding delivering
delivering-untouched text f s out =
    schema-all (Untouched out) (leaving out) leaving-untouched f _ λ g q e.
    judged-all (Untouched out) (leaving out) 4 (instance g s) _ (of-instance.instance-numbered g s) leaving-untouched λ i r h. placed-untouched (text g i) out
  where
    leaving-untouched : (n file o : ℕ) → of_file n ≡ true → Untouched out (leaving out n file o)
    leaving-untouched n file o h = refused-untouched n file o out

pub demand-1 : (f p : List ℕ) (a b : ℕ) (s t out : List ℕ) → Demand1 f p a b s t out
unfolding reconciling checking checking_in_force comparing comparing_in_force copying sheeting delivering
demand-1 f p a b s t out =
    record {
      inputs-refused = inputs-refused f p a b s t out;
      schema-refused = schema-refused f p a b s t out;
      instance-refused = instance-refused f p a b s t out;
      field-forbidden = field-forbidden f p a b s;
      schema-cut-off = λ e k l. schema-refused (take k f) p a b s t out (schema-cut f e k l);
      instance-cut-off = λ {g} e h k l. instance-refused f p a b (take k s) t out e (instance-cut g s h k l);
      schema-longer = λ e x more. schema-refused (f ++ (x ∷ more)) p a b s t out (schema-extended f e x more);
      instance-longer = λ {g} e h x more. instance-refused f p a b (s ++ (x ∷ more)) t out e (instance-extended g s h x more);
      reconcile-untouched =
          inputs-all (Untouched out) (leaving out) (λ n file o h. refused-untouched n file o out) f p a b _ λ g q e ps. given-untouched g out (reconciled g ps);
      copy-untouched = delivering-untouched encode f s out;
      sheet-untouched = delivering-untouched sheet_of f s out;
      check-alone =
          inputs-all Alone refusal alone f p a b _ λ g q e ps.
          judged-all Alone refusal 4 (instance g s) _ (of-instance.instance-numbered g s) alone λ i r h. permitted-alone (forbidden g ps i);
      compare-alone =
          inputs-all Alone refusal alone f p a b _ λ g q e ps.
          judged-all Alone refusal 4 (instance g s) _ (of-instance.instance-numbered g s) alone λ i r h.
          judged-all Alone refusal 5 (instance g t) _ (of-instance.instance-numbered g t) alone λ j r h. success-alone (compared g ps i j);
    }
  where
    alone : (n file o : ℕ) → of_file n ≡ true → Alone (refusal n file o)
    alone n file o h = refusal-alone n file o
