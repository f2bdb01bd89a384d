-- The demands, and what 02/1 says of the sheet, call by call: of one call's answer, and of its buffer at exit.
-- Rests on the three demands, on acceptance, and on the sheet's theorem.
use mathlib.Core.Path.{◌≡◌}
use mathlib.Core.Logic.{◌↔◌}
use mathlib.Core.List.{List}
use Prim.Native.Nat.{ℕ}
use Rattle.fields.specs.Reading.{got, bad}
use Rattle.fields.specs.Answers.{Answer, refusal}
use Rattle.fields.specs.Outcomes.{Outcome, refused}
use Rattle.fields.proofs.Bytes.{Bytes}
use Rattle.schema.specs.Schema.{Node, schema}
use Rattle.policies.specs.Pass.{forced}
use Rattle.instances.specs.Instance.{Entry}
use Rattle.instances.specs.File.{instance}
use Rattle.model.proofs.Relations.{ForbiddenField, First}
use Rattle.calls.specs.Calls.{reconciling, checking, comparing, copying, sheeting}
use Rattle.calls.proofs.Answers.{AcceptsWhen, Alone, Untouched}
use Rattle.calls.proofs.Accepted.{InputsAccepted, Breach, NoInputRefused, acceptance}
use Rattle.calls.proofs.Demand1.{demand-1}
use Rattle.calls.proofs.Demand2.{EncodesMeeting, Compared, demand-2, round-trips}
use Rattle.calls.proofs.Copied.{Copied}
use Rattle.calls.proofs.Demand3.{Demand3, demand-3}
use Rattle.calls.proofs.Sheet.{Sheeted, sheeted}

pub record Reconciles (f p : List ℕ) (a b : ℕ) (out : List ℕ) (o : Outcome) : Type 0 where
  -- demand 1
  pub refuses : {n file at : ℕ} → Breach f p a b n file at → o ≡ refused n file at out
  pub untouched : Untouched out o
  -- demand 3
  pub accepted : InputsAccepted f p a b ↔ NoInputRefused o.answer
  pub best : (A : InputsAccepted f p a b) → Demand3 f p a b A out o

pub record Checks (f p : List ℕ) (a b : ℕ) (s : List ℕ) (r : Answer) : Type 0 where
  -- demand 1
  pub refuses : {n file at : ℕ} → Breach f p a b n file at → r ≡ refusal n file at
  pub refuses-instance : (A : InputsAccepted f p a b) {n at : ℕ} → instance A.g s ≡ bad n at → r ≡ refusal n 4 at
  pub forbidden : (A : InputsAccepted f p a b) {i : List Entry} {q : ℕ} → instance A.g s ≡ got i q
      → (at : ℕ) → (r ≡ refusal 18 4 at) ↔ First (ForbiddenField A.g (forced a b A.ps) i 3) at
  pub alone : Alone r
  -- demand 2
  pub accepted : InputsAccepted f p a b ↔ NoInputRefused r
  pub accepts : (A : InputsAccepted f p a b) → AcceptsWhen (EncodesMeeting f p a b A s) r

pub record Compares (f p : List ℕ) (a b : ℕ) (s t : List ℕ) (r : Answer) : Type 0 where
  -- demand 1
  pub refuses : {n file at : ℕ} → Breach f p a b n file at → r ≡ refusal n file at
  pub refuses-first : (A : InputsAccepted f p a b) {n at : ℕ} → instance A.g s ≡ bad n at → r ≡ refusal n 4 at
  pub refuses-second : (A : InputsAccepted f p a b) {i : List Entry} {q n at : ℕ} → instance A.g s ≡ got i q → instance A.g t ≡ bad n at → r ≡ refusal n 5 at
  pub alone : Alone r
  -- demand 2
  pub accepted : InputsAccepted f p a b ↔ NoInputRefused r
  pub verdict : (A : InputsAccepted f p a b) {i j : List Entry} {q x : ℕ} → instance A.g s ≡ got i q → instance A.g t ≡ got j x → Compared f p a b A i j r

pub record Copies (f s out : List ℕ) (o : Outcome) : Type 0 where
  -- demand 1
  pub refuses : {n at : ℕ} → schema f ≡ bad n at → o ≡ refused n 1 at out
  pub refuses-instance : {g : List Node} {q n at : ℕ} → schema f ≡ got g q → instance g s ≡ bad n at → o ≡ refused n 4 at out
  pub untouched : Untouched out o
  -- demand 2
  pub copied : {g : List Node} {q : ℕ} → schema f ≡ got g q → Copied g s out o

pub record Sheets (f s out : List ℕ) (o : Outcome) : Type 0 where
  -- demand 1
  pub refuses : {n at : ℕ} → schema f ≡ bad n at → o ≡ refused n 1 at out
  pub refuses-instance : {g : List Node} {q n at : ℕ} → schema f ≡ got g q → instance g s ≡ bad n at → o ≡ refused n 4 at out
  pub untouched : Untouched out o
  -- 02/1
  pub sheeted : {g : List Node} {q : ℕ} → schema f ≡ got g q → Sheeted g s out o

-- ---- the proof: a file or instance that a demand does not speak of is any

pub reconciles : (f p : List ℕ) (a b : ℕ) (out : List ℕ) → Bytes f → Reconciles f p a b out (reconciling f p a b out)
reconciles f p a b out h =
    let D = demand-1 f p a b out out out in
    record {
      refuses = λ e. (D.inputs-refused e).reconcile;
      untouched = D.reconcile-untouched;
      accepted = (acceptance f p a b out out out).reconcile;
      best = λ A. demand-3 f p a b h A out;
    }

pub checks : (f p : List ℕ) (a b : ℕ) (s : List ℕ) → Bytes f → Bytes s → Checks f p a b s (checking f p a b s)
checks f p a b s h c =
    let D = demand-1 f p a b s s s in
    record {
      refuses = λ e. (D.inputs-refused e).check;
      refuses-instance = λ A e. (D.instance-refused A.schema-read e).check A;
      forbidden = D.field-forbidden;
      alone = D.check-alone;
      accepted = (acceptance f p a b s s s).check;
      accepts = λ A. (demand-2 f p a b h A).accepts s c;
    }

pub compares : (f p : List ℕ) (a b : ℕ) (s t : List ℕ) → Bytes f → Bytes s → Bytes t → Compares f p a b s t (comparing f p a b s t)
compares f p a b s t h c d =
    let D = demand-1 f p a b s t s in
    record {
      refuses = λ e. (D.inputs-refused e).compare;
      refuses-first = λ A e. (D.instance-refused A.schema-read e).first A;
      refuses-second = λ A e k. ((demand-1 f p a b t s t).instance-refused A.schema-read k).second A e;
      alone = D.compare-alone;
      accepted = (acceptance f p a b s t s).compare;
      verdict = λ A {i} {j} {q} {x} e k. (demand-2 f p a b h A).compares s t c d i j q x e k;
    }

pub copies : (f s out : List ℕ) → Bytes f → Bytes s → Copies f s out (copying f s out)
copies f s out h c =
    let D = demand-1 f f 0 0 s s out in
    record {
      refuses = λ e. (D.schema-refused e).copy;
      refuses-instance = λ e k. (D.instance-refused e k).copy;
      untouched = D.copy-untouched;
      copied = λ e. (round-trips f h e).copied s c out;
    }

pub sheets : (f s out : List ℕ) → Bytes f → Bytes s → Sheets f s out (sheeting f s out)
sheets f s out h c =
    let D = demand-1 f f 0 0 s s out in
    record {
      refuses = λ e. (D.schema-refused e).sheet;
      refuses-instance = λ e k. (D.instance-refused e k).sheet;
      untouched = D.sheet-untouched;
      sheeted = λ e. sheeted f h e s c out;
    }
