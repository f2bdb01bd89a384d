-- What the copying call does with an instance file under an accepted schema.
-- Rests on the instance file's round trips, and on what a placed file comes to.
use mathlib.Core.Path.{◌≡◌, refl, sym, subst, ◌∙◌}
use mathlib.Core.List.{List}
use Prim.Native.Nat.{ℕ, ◌≤◌, ◌<◌}
use native.Mathlib.Omega.{arith}
use lib.ListN.{length}
use Rattle.fields.specs.Reading.{Got, got, bad}
use Rattle.fields.specs.Answers.{judged}
use Rattle.fields.specs.Outcomes.{Outcome, leaving, placed}
use Rattle.fields.proofs.Bytes.{Bytes}
use Rattle.fields.proofs.Refusals.{Numbered, unlike}
use Rattle.schema.specs.Schema.{Node, schema}
use Rattle.instances.specs.Instance.{Entry}
use Rattle.instances.specs.File.{instance, encode}
use Rattle.instances.proofs.IsInstance.{IsInstance}
use Rattle.instances.proofs.RoundTrip.{read_is, read-encode, encode-read}
use Rattle.instances.proofs.Refusals.{refused, instance-numbered}
use Rattle.calls.specs.Inputs.{with_schema}
use Rattle.calls.specs.Calls.{copying}
use Rattle.calls.proofs.Answers.{RefusesWhen, Writes, placed-fits, placed-short, placed-0, placed-14}
use Rattle.calls.proofs.Accepted.{sound-read}

-- 'it encodes an instance'
pub record Encodes (g : List Node) (s : List ℕ) : Type 0 where
  pub what : List Entry
  pub is-instance : IsInstance g what
  pub is-file : encode g what ≡ s

-- a file that encodes an instance, and a buffer long enough
pub record Fitting (g : List Node) (s out : List ℕ) : Type 0 where
  pub encodes : Encodes g s
  pub enough : length s ≤ length out

-- and a shorter one
pub record TooLong (g : List Node) (s out : List ℕ) : Type 0 where
  pub encodes : Encodes g s
  pub shorter : length out < length s

-- of the outcome of copying s into this buffer
pub record Copied (g : List Node) (s out : List ℕ) (o : Outcome) : Type 0 where
  -- 'writes the instance it read'
  pub writes : Fitting g s out → Writes s out o
  pub answers-0 : o.answer.number ≡ 0 → Fitting g s out
  -- '14 last'
  pub short : RefusesWhen 14 (TooLong g s out) out o

-- ---- the proof

module _ (f : List ℕ) (h : Bytes f) {g : List Node} {q : ℕ} (e : schema f ≡ got g q) where
  unfoldable pub read : (s : List ℕ) → Bytes s → {i : List Entry} {r : ℕ} → instance g s ≡ got i r → Encodes g s
  read s c {i} k = record { what = i; is-instance = read_is g (sound-read f h e) s c k; is-file = read-encode g s c k }

  pub encoded : (s : List ℕ) (E : Encodes g s) → instance g s ≡ got E.what (length s)
  encoded s E = subst (λ (t : List ℕ). instance g t ≡ got E.what (length t)) E.is-file (encode-read g (sound-read f h e) E.what E.is-instance)

  copying-is : (s out : List ℕ) → copying f s out ≡ judged (leaving out) 4 (instance g s) (λ i. placed (encode g i) out)
  unfolding copying with_schema judged
  copying-is s out = rw e

  pub copied : (s : List ℕ) → Bytes s → (out : List ℕ) → Copied g s out (copying f s out)
  unfolding judged
  copied s c out = subst (Copied g s out) (sym (copying-is s out)) (go (instance g s) refl)
    where
      same : (E : Encodes g s) {r : Got (List Entry)} → instance g s ≡ r → r ≡ got E.what (length s)
      same E k = sym k ∙ encoded s E

      go : (r : Got (List Entry)) → instance g s ≡ r → Copied g s out (judged (leaving out) 4 r (λ i. placed (encode g i) out))
      go (got i x) k =
          subst (λ (t : List ℕ). Copied g s out (placed t out)) (sym (read-encode g s c k))
          (record {
            writes = λ F. placed-fits s out F.enough;
            answers-0 = λ n. record { encodes = read s c k; enough = placed-0 s out n };
            short = record { when = λ T. placed-short s out T.shorter; only = λ n. record { encodes = read s c k; shorter = placed-14 s out n } };
          })
      go (bad n o) k =
          record {
            writes = λ F. absurd (let z : ◌≡◌ {A = ℕ} 0 1 = (let y = same F.encodes k in cc) in omega arith);
            answers-0 = λ m. absurd (refused g s k m);
            short = record { when = λ T. absurd (let z : ◌≡◌ {A = ℕ} 0 1 = (let y = same T.encodes k in cc) in omega arith); only = λ m. absurd (never-14 k m) };
          }
        where
          never-14 : {n o : ℕ} → instance g s ≡ bad n o → n ≡ 14 → ⊥
          never-14 k m = unlike 14 refl (subst Numbered k (instance-numbered g s)) m
