-- Schema, policies and pass accepted: what the calls then come to, and that their answers tell it.
-- Rests on the definitions of the calls and on what acceptance gives.
use mathlib.Core.Path.{◌≡◌, refl, sym, ap, subst, ◌∙◌}
use mathlib.Core.Logic.{◌↔◌, ◌⊎◌, inl, inr}
use mathlib.Core.List.{List}
use mathlib.Core.Option.{Option, none, some}
use Prim.Native.Nat.{ℕ, ◌≤◌}
use native.Mathlib.Omega.{arith}
use lib.ListN.{length}
use Rattle.fields.specs.Reading.{Got, got, bad}
use Rattle.fields.specs.Answers.{Answer, judged, refusal}
use Rattle.fields.specs.Outcomes.{Outcome, leaving, placed}
use Rattle.fields.proofs.Bytes.{Bytes}
use Rattle.fields.proofs.Refusals.{numbered}
use Rattle.schema.specs.Schema.{Node, schema, schema_of}
use Rattle.schema.proofs.Sound.{Sound}
use Rattle.schema.proofs.Accepted.{file-back, sound}
use Rattle.schema.proofs.Refusals.{refused as schema-refused}
use Rattle.policies.specs.Policies.{Policy, policies}
use Rattle.policies.specs.Pass.{pass, forced}
use Rattle.policies.proofs.Within.{policies-numbered, pass-numbered}
use Rattle.instances.specs.Instance.{Entry}
use Rattle.instances.specs.File.{instance, encode}
use Rattle.model.specs.Reconciling.{reconciled}
use Rattle.model.specs.Comparing.{compared, forbidden}
use Rattle.calls.specs.Inputs.{with_schema, with_policies, with_pass, with_in_force}
use Rattle.calls.specs.Calls.{given, reconciling, permitted, checking_in_force, checking, comparing_in_force, comparing}
use Rattle.calls.proofs.Answers.{Placed, fits, short, placed-is}

-- schema, policies and pass are read without a breach; that the calls' answers tell so is `acceptance`, below
pub record InputsAccepted (f p : List ℕ) (a b : ℕ) : Type 0 where
  pub g : List Node
  pub ps : List Policy
  pub schema-end : ℕ
  pub policies-end : ℕ
  pub day : ℕ
  pub pass-end : ℕ
  pub schema-read : schema f ≡ got g schema-end
  pub policies-read : policies g p ≡ got ps policies-end
  pub pass-read : pass a b ≡ got day pass-end

-- the schema of a file of bytes is sound
pub sound-read : (f : List ℕ) → Bytes f → {g : List Node} {q : ℕ} → schema f ≡ got g q → Sound g
unfolding schema_of
sound-read f h {g} e =
    let z : schema_of f ≡ g = rw e in
    subst Sound z (sound f h (rw z (file-back f e).some))

-- ---- a call under accepted schema, policies and pass

module _ {f p : List ℕ} {a b : ℕ} (A : InputsAccepted f p a b) where
  pub call-is : {B : Type 0} (refuse : ℕ → ℕ → ℕ → B) (k : List Node → List Policy → B)
      → with_schema refuse f (λ g. with_in_force refuse g p a b (k g)) ≡ k A.g (forced a b A.ps)
  unfolding with_schema with_policies with_pass with_in_force judged
  call-is refuse k = rw (A.schema-read, A.policies-read, A.pass-read)

  pub reconciling-is : (out : List ℕ) → reconciling f p a b out ≡ given A.g out (reconciled A.g (forced a b A.ps))
  unfolding reconciling
  reconciling-is out = call-is (leaving out) _

  pub checking-is : (s : List ℕ) → checking f p a b s ≡ judged refusal 4 (instance A.g s) (λ i. permitted (forbidden A.g (forced a b A.ps) i))
  unfolding checking checking_in_force
  checking-is s = call-is refusal _

  pub comparing-is : (s t : List ℕ) → comparing f p a b s t ≡ comparing_in_force A.g (forced a b A.ps) s t
  unfolding comparing
  comparing-is s t = call-is refusal _

  pub sound-schema : Bytes f → Sound A.g
  sound-schema h = sound-read f h A.schema-read

-- ---- accepted, or the first breach

-- the first breach, its file and its offset: 'files: 1 schema, 2 policies, 3 pass', 'calls check in that order'
pub data Breach (f p : List ℕ) (a b : ℕ) : ℕ → ℕ → ℕ → Type 0 where
  of-schema : {n o : ℕ} → schema f ≡ bad n o → Breach f p a b n 1 o
  of-policies : {g : List Node} {q n o : ℕ} → schema f ≡ got g q → policies g p ≡ bad n o → Breach f p a b n 2 o
  of-pass : {g : List Node} {ps : List Policy} {q r n o : ℕ} → schema f ≡ got g q → policies g p ≡ got ps r → pass a b ≡ bad n o → Breach f p a b n 3 o

breach-is : {f p : List ℕ} {a b n file o : ℕ} → Breach f p a b n file o → {B : Type 0} (refuse : ℕ → ℕ → ℕ → B) (k : List Node → List Policy → B)
    → with_schema refuse f (λ g. with_in_force refuse g p a b (k g)) ≡ refuse n file o
unfolding with_schema with_policies with_pass with_in_force judged
breach-is (of-schema e) refuse k = rw e
breach-is (of-policies e d) refuse k = rw (e, d)
breach-is (of-pass e d c) refuse k = rw (e, d, c)

module _ {f p : List ℕ} {a b n file o : ℕ} (e : Breach f p a b n file o) where
  pub reconciling-refused : (out : List ℕ) → reconciling f p a b out ≡ leaving out n file o
  unfolding reconciling
  reconciling-refused out = breach-is e (leaving out) _

  pub checking-refused : (s : List ℕ) → checking f p a b s ≡ refusal n file o
  unfolding checking
  checking-refused s = breach-is e refusal _

  pub comparing-refused : (s t : List ℕ) → comparing f p a b s t ≡ refusal n file o
  unfolding comparing
  comparing-refused s t = breach-is e refusal _

pub breach-number : {f p : List ℕ} {a b n file o : ℕ} → Breach f p a b n file o → n ≡ 0 → ⊥
breach-number {f} (of-schema e) = schema-refused f e
breach-number {p = p} (of-policies {g} e d) = numbered (policies-numbered g p) d
breach-number {a = a} {b} (of-pass e d c) = numbered (pass-numbered a b) c

data Inputs (f p : List ℕ) (a b : ℕ) : Type 0 where
  taken : InputsAccepted f p a b → Inputs f p a b
  refused : {n file o : ℕ} → Breach f p a b n file o → Inputs f p a b

inputs : (f p : List ℕ) (a b : ℕ) → Inputs f p a b
inputs f p a b = by-schema (schema f) refl
  where
    by-pass : (g : List Node) (q : ℕ) → schema f ≡ got g q → (ps : List Policy) (r : ℕ) → policies g p ≡ got ps r → (x : Got ℕ) → pass a b ≡ x → Inputs f p a b
    by-pass g q e ps r d (got day k) c =
        taken (record { g = g; ps = ps; schema-end = q; policies-end = r; day = day; pass-end = k; schema-read = e; policies-read = d; pass-read = c })
    by-pass g q e ps r d (bad n o) c = refused (of-pass e d c)

    by-policies : (g : List Node) (q : ℕ) → schema f ≡ got g q → (x : Got (List Policy)) → policies g p ≡ x → Inputs f p a b
    by-policies g q e (got ps r) d = by-pass g q e ps r d (pass a b) refl
    by-policies g q e (bad n o) d = refused (of-policies e d)

    by-schema : (x : Got (List Node)) → schema f ≡ x → Inputs f p a b
    by-schema (got g q) e = by-policies g q e (policies g p) refl
    by-schema (bad n o) e = refused (of-schema e)

-- ---- accepted, by the calls' answers

-- 'no number with file 1, 2 or 3'
pub record NoInputRefused (r : Answer) : Type 0 where
  pub schema : r.file ≡ 1 → ⊥
  pub policies : r.file ≡ 2 → ⊥
  pub pass : r.file ≡ 3 → ⊥

-- 'schema, policies and pass are accepted if checking them gives no number with file 1, 2 or 3', by each call
pub record Acceptance (f p : List ℕ) (a b : ℕ) (s t out : List ℕ) : Type 0 where
  pub reconcile : InputsAccepted f p a b ↔ NoInputRefused (reconciling f p a b out).answer
  pub check : InputsAccepted f p a b ↔ NoInputRefused (checking f p a b s)
  pub compare : InputsAccepted f p a b ↔ NoInputRefused (comparing f p a b s t)

of-file : (n file o v : ℕ) → (file ≡ 0) ⊎ (4 ≤ file) → NoInputRefused (record { number = n; file = file; offset = o; value = v })
of-file n file o v (inl e) = record { schema = λ h. omega arith; policies = λ h. omega arith; pass = λ h. omega arith }
of-file n file o v (inr l) = record { schema = λ h. omega arith; policies = λ h. omega arith; pass = λ h. omega arith }

-- a call's answer, where what it does then refuses none of the three
by_answer : (f p : List ℕ) (a b : ℕ) {B : Type 0} (answer : B → Answer) (refuse : ℕ → ℕ → ℕ → B) → ((n file o : ℕ) → (answer (refuse n file o)).file ≡ file)
    → (k : List Node → List Policy → B) → ((g : List Node) (ps : List Policy) → NoInputRefused (answer (k g ps)))
    → InputsAccepted f p a b ↔ NoInputRefused (answer (with_schema refuse f (λ g. with_in_force refuse g p a b (k g))))
by_answer f p a b answer refuse files k clear =
    (λ A. subst (λ x. NoInputRefused (answer x)) (sym (call-is A refuse k)) (clear A.g (forced a b A.ps)), λ h. back (inputs f p a b) h)
  where
    back : Inputs f p a b → NoInputRefused (answer (with_schema refuse f (λ g. with_in_force refuse g p a b (k g)))) → InputsAccepted f p a b
    back (taken A) h = A
    back (refused {n} {file} {o} e) h = absurd (which e (ap (λ x. (answer x).file) (breach-is e refuse k) ∙ files n file o))
      where
        which : {n file o : ℕ} → Breach f p a b n file o → (answer (with_schema refuse f (λ g. with_in_force refuse g p a b (k g)))).file ≡ file → ⊥
        which (of-schema e) z = h.schema z
        which (of-policies e d) z = h.policies z
        which (of-pass e d c) z = h.pass z

given-none : (g : List Node) (out : List ℕ) (o : Option (List Entry)) → NoInputRefused (given g out o).answer
unfolding given
given-none g out none = of-file 13 0 0 0 (inl refl)
given-none g out (some i) = go (placed-is (encode g i) out)
  where
    go : Placed (encode g i) out (placed (encode g i) out) → NoInputRefused (placed (encode g i) out).answer
    go (fits h e) = subst (λ (x : Outcome). NoInputRefused x.answer) (sym e) (of-file 0 0 0 (length (encode g i)) (inl refl))
    go (short h e) = subst (λ (x : Outcome). NoInputRefused x.answer) (sym e) (of-file 14 0 0 0 (inl refl))

permitted-none : (o : Option ℕ) → NoInputRefused (permitted o)
unfolding permitted
permitted-none none = of-file 0 0 0 0 (inl refl)
permitted-none (some o) = of-file 18 4 o 0 (inr (omega arith))

judged-none : {A : Type 0} (file : ℕ) → 4 ≤ file → (r : Got A) (k : A → Answer) → ((x : A) → NoInputRefused (k x)) → NoInputRefused (judged refusal file r k)
unfolding judged
judged-none file l (got x q) k h = h x
judged-none file l (bad n o) k h = of-file n file o 0 (inr l)

pub acceptance : (f p : List ℕ) (a b : ℕ) (s t out : List ℕ) → Acceptance f p a b s t out
unfolding reconciling checking checking_in_force comparing comparing_in_force
acceptance f p a b s t out =
    record {
      reconcile = by_answer f p a b (λ (o : Outcome). o.answer) (leaving out) (λ n file o. refl) _ (λ g ps. given-none g out (reconciled g ps));
      check = by_answer f p a b (λ (r : Answer). r) refusal (λ n file o. refl) _ (λ g ps. judged-none 4 (omega arith) (instance g s) _ (λ i. permitted-none (forbidden g ps i)));
      compare = by_answer f p a b (λ (r : Answer). r) refusal (λ n file o. refl) _ (λ g ps.
          judged-none 4 (omega arith) (instance g s) _ λ i.
          judged-none 5 (omega arith) (instance g t) _ λ j. of-file 0 0 0 (compared g ps i j) (inl refl));
    }
