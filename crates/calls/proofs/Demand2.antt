-- Demand 2: what the checker accepts, the two round trips and the copying call, and what the verdicts say.
-- Rests on the instance file's round trips and on the model's theorems about forbidden fields and the order.
use mathlib.Core.Path.{◌≡◌, refl, sym, ap, subst, ◌∙◌}
use mathlib.Core.List.{List}
use mathlib.Core.Option.{Option, none, some}
use Prim.Native.Nat.{ℕ, ◌≤◌}
use native.Mathlib.Omega.{arith}
use lib.ListN.{length, take, drop}
use lib.Seq.{take_at}
use Rattle.fields.specs.Reading.{Got, got, bad}
use Rattle.fields.specs.Answers.{Answer, judged, success, refusal}
use Rattle.fields.specs.Outcomes.{Outcome}
use Rattle.fields.proofs.Bytes.{Bytes}
use Rattle.schema.specs.Schema.{Node, schema}
use Rattle.policies.specs.Pass.{forced}
use Rattle.instances.specs.Instance.{Entry}
use Rattle.instances.specs.File.{instance, encode}
use Rattle.instances.proofs.IsInstance.{IsInstance}
use Rattle.instances.proofs.RoundTrip.{read_is, read-encode, encode-read}
use Rattle.instances.proofs.Refusals.{refused}
use Rattle.model.specs.Comparing.{compared, forbidden}
use Rattle.model.proofs.Relations.{MeetsInForce, AsGood, Verdict}
use Rattle.model.proofs.Satisfaction.{in-force-iff}
use Rattle.model.proofs.Comparing.{forbidden-none, compared-says}
use Rattle.calls.specs.Calls.{reconciling, permitted, checking, comparing_in_force, comparing, copying}
use Rattle.calls.proofs.Answers.{AcceptsWhen}
use Rattle.calls.proofs.Accepted.{InputsAccepted, checking-is, comparing-is, sound-read, sound-schema}
use Rattle.calls.proofs.Demand3.{demand-3}
use Rattle.calls.proofs.Copied.{Encodes, Copied, read, encoded, copied}

-- ---- where the schema is accepted

pub record RoundTrips (f : List ℕ) (g : List Node) : Type 0 where
  -- 'an instance written and read back is the same instance'
  pub written_read : (i : List Entry) → IsInstance g i → instance g (encode g i) ≡ got i (length (encode g i))
  -- 'an accepted file, read and written again, is the same bytes'
  pub read-written : (s : List ℕ) → Bytes s → (i : List Entry) (q : ℕ) → instance g s ≡ got i q → encode g i ≡ s
  pub copied : (s : List ℕ) → Bytes s → (out : List ℕ) → Copied g s out (copying f s out)

-- ---- where schema, policies and pass are

module _ (f p : List ℕ) (a b : ℕ) (A : InputsAccepted f p a b) where
  -- 'it encodes an instance that meets every policy in force on either day of the pass'
  pub record EncodesMeeting (s : List ℕ) : Type 0 where
    pub encodes : Encodes A.g s
    pub meets : MeetsInForce a b A.g A.ps encodes.what

  -- of the comparison's answer: 'beside number 0 it gives a verdict', which says what 01's order says of the two instances
  pub record Compared (i j : List Entry) (r : Answer) : Type 0 where
    pub zeros : r ≡ record { number = 0; file = 0; offset = 0; value = r.value }
    pub verdict : Verdict (AsGood A.g (forced a b A.ps) i j) (AsGood A.g (forced a b A.ps) j i) r.value

  pub record Demand2 : Type 0 where
    -- 'the checker accepts an instance file exactly when ..', 'with 0 throughout'
    pub accepts : (s : List ℕ) → Bytes s → AcceptsWhen (EncodesMeeting s) (checking f p a b s)
    pub compares : (s t : List ℕ) → Bytes s → Bytes t → (i j : List Entry) (q r : ℕ) → instance A.g s ≡ got i q → instance A.g t ≡ got j r
        → Compared i j (comparing f p a b s t)
    pub trips : RoundTrips f A.g
    -- what the reconciler writes, the checker accepts
    pub agrees : (out : List ℕ) → (reconciling f p a b out).answer.number ≡ 0
        → checking f p a b (take (reconciling f p a b out).answer.value (reconciling f p a b out).buffer) ≡ record { number = 0; file = 0; offset = 0; value = 0 }

-- ---- the proof

module _ (f : List ℕ) (h : Bytes f) {g : List Node} {q : ℕ} (e : schema f ≡ got g q) where
  pub round-trips : RoundTrips f g
  round-trips = record { written_read = encode-read g (sound-read f h e); read-written = λ s c i r k. read-encode g s c k; copied = copied f h e }

none_of : (o : Option ℕ) → (permitted o).number ≡ 0 → o ≡ none
unfolding permitted
none_of none e = refl
none_of (some x) e = absurd (omega arith)

module _ (f p : List ℕ) (a b : ℕ) (h : Bytes f) (A : InputsAccepted f p a b) where
  judge : (g : Got (List Entry)) → Answer
  judge g = judged refusal 4 g (λ i. permitted (forbidden A.g (forced a b A.ps) i))

  accepted : (s : List ℕ) → Bytes s → (checking f p a b s).number ≡ 0 → EncodesMeeting f p a b A s
  unfolding judge judged read
  accepted s c e = go (instance A.g s) refl (sym (ap (λ (r : Answer). r.number) (checking-is A s)) ∙ e)
    where
      go : (r : Got (List Entry)) → instance A.g s ≡ r → (judge r).number ≡ 0 → EncodesMeeting f p a b A s
      go (bad n o) i e = absurd (refused A.g s i e)
      go (got i q) r e =
          record {
            encodes = read f h A.schema-read s c r;
            meets = (in-force-iff a b A.g A.ps i).0 ((forbidden-none A.g (forced a b A.ps) i).0 (none_of (forbidden A.g (forced a b A.ps) i) e));
          }

  comparing-read : (s t : List ℕ) {i j : List Entry} {q r : ℕ} → instance A.g s ≡ got i q → instance A.g t ≡ got j r
      → comparing f p a b s t ≡ success (compared A.g (forced a b A.ps) i j)
  unfolding comparing_in_force judged
  comparing-read s t e k = comparing-is A s t ∙ rw (e, k)

  meeting : (s : List ℕ) → EncodesMeeting f p a b A s → checking f p a b s ≡ success 0
  unfolding judge judged permitted
  meeting s E =
      let i = E.encodes.what in
      let n = (forbidden-none A.g (forced a b A.ps) i).1 ((in-force-iff a b A.g A.ps i).1 E.meets) in
      let z : judge (instance A.g s) ≡ success 0 = rw (encoded f h A.schema-read s E.encodes, n) in
      checking-is A s ∙ z

  agrees : (out : List ℕ) → (reconciling f p a b out).answer.number ≡ 0
      → checking f p a b (take (reconciling f p a b out).answer.value (reconciling f p a b out).buffer) ≡ success 0
  agrees out n =
      let D = demand-3 f p a b h A out in
      let L = D.answers-0 n in
      let W = D.otherwise (λ no. no L.ours L.best.is-instance L.best.meets) in
      let file = encode A.g W.ours in
      let w = W.writes (subst (λ (i : List Entry). length (encode A.g i) ≤ length out) (W.unique L.ours L.best) L.enough) in
      subst (λ (o : Outcome). checking f p a b (take o.answer.value o.buffer) ≡ success 0) (sym w)
      (subst (λ (t : List ℕ). checking f p a b t ≡ success 0) (sym (take_at file (drop (length file) out) (length file) refl))
      (meeting file (record { encodes = record { what = W.ours; is-instance = W.best.is-instance; is-file = refl }; meets = W.best.meets })))

  pub demand-2 : Demand2 f p a b A
  demand-2 =
      record {
        accepts = λ s c. record { when = meeting s; only = accepted s c };
        compares = λ s t c d i j q r e k.
            subst (Compared f p a b A i j) (sym (comparing-read s t e k))
            (record {
              zeros = refl;
              verdict = compared-says A.g (sound-schema A h) (forced a b A.ps) i j (read_is A.g (sound-schema A h) s c e) (read_is A.g (sound-schema A h) t d k);
            });
        trips = round-trips f h A.schema-read;
        agrees = agrees;
      }
