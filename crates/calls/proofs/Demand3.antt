-- Demand 3, whole: the reconciler and its rivals.
-- Rests on the model's theorem that the reconciled instance is right, that the best one is one alone, and on what placing a file gives.
use mathlib.Core.Path.{◌≡◌, refl, sym, subst}
use mathlib.Core.List.{List}
use mathlib.Core.Option.{Option, none, some}
use Prim.Native.Nat.{ℕ, ◌≤◌, ◌<◌}
use native.Mathlib.Omega.{arith}
use lib.ListN.{length}
use Rattle.fields.specs.Outcomes.{Outcome}
use Rattle.fields.proofs.Bytes.{Bytes}
use Rattle.policies.specs.Pass.{forced}
use Rattle.instances.specs.Instance.{Entry}
use Rattle.instances.specs.File.{encode}
use Rattle.instances.proofs.IsInstance.{IsInstance}
use Rattle.model.specs.Order.{better}
use Rattle.model.specs.Reconciling.{reconciled}
use Rattle.model.proofs.Relations.{MeetsInForce, Best, Right}
use Rattle.model.proofs.Ranks.{better-strict}
use Rattle.model.proofs.Right.{right-in-force, best-unique}
use Rattle.calls.specs.Calls.{given, reconciling}
use Rattle.calls.proofs.Answers.{RefusesWhen, Writes, placed-fits, placed-short, placed-0, placed-14, placed-not-13}
use Rattle.calls.proofs.Accepted.{InputsAccepted, reconciling-is, sound-schema}

module _ (f p : List ℕ) (a b : ℕ) (A : InputsAccepted f p a b) where
  -- 'no rival's instance meets every policy in force'
  abbrev pub NoRival : Type 0
  NoRival = (j : List Entry) → IsInstance A.g j → MeetsInForce a b A.g A.ps j → ⊥

  -- 'an instance that meets them all and is at least as good as every such rival's in document 01's order. Where such a rival made the
  -- same choices, none of its values is lower than ours'
  abbrev pub IsOurs : List Entry → Type 0
  IsOurs i = Best A.g (MeetsInForce a b A.g A.ps) (better A.g (forced a b A.ps)) i

  -- 'a buffer is long enough if it has at least as many bytes as that instance's file'
  pub record LongEnough (out : List ℕ) : Type 0 where
    pub ours : List Entry
    pub best : IsOurs ours
    pub enough : length (encode A.g ours) ≤ length out

  -- the buffer is 'shorter than the instance'
  pub record Short (out : List ℕ) : Type 0 where
    pub ours : List Entry
    pub best : IsOurs ours
    pub shorter : length out < length (encode A.g ours)

  -- 'in every buffer long enough, whatever it holds, the reconciler answers 0 and writes'
  pub record Written (out : List ℕ) (o : Outcome) : Type 0 where
    pub ours : List Entry
    pub best : IsOurs ours
    -- 'these three alone fix the instance to be written'
    pub unique : (i : List Entry) → IsOurs i → i ≡ ours
    pub writes : length (encode A.g ours) ≤ length out → Writes (encode A.g ours) out o

  -- of the outcome of the call with this buffer
  pub record Demand3 (out : List ℕ) (o : Outcome) : Type 0 where
    -- 'whatever the buffer, the reconciler refuses for lack of an instance exactly when ..'
    pub refuses : RefusesWhen 13 NoRival out o
    pub otherwise : (NoRival → ⊥) → Written out o
    pub answers-0 : o.answer.number ≡ 0 → LongEnough out
    -- 'a shorter buffer is refused, a longer one never'
    pub short : RefusesWhen 14 (Short out) out o

-- ---- the proof

module _ (f p : List ℕ) (a b : ℕ) (h : Bytes f) (A : InputsAccepted f p a b) (out : List ℕ) where
  right : Right A.g (MeetsInForce a b A.g A.ps) (better A.g (forced a b A.ps)) (reconciled A.g (forced a b A.ps))
  right = right-in-force A.g (sound-schema A h) A.ps a b

  none-given : reconciled A.g (forced a b A.ps) ≡ none → Demand3 f p a b A out (given A.g out none)
  unfolding given
  none-given e =
      let no = right.refused.0 e in
      record {
        refuses = record { when = λ n. refl; only = λ n. no };
        otherwise = λ n. absurd (n no);
        answers-0 = λ n. absurd (omega arith);
        short = record { when = λ S. absurd (no S.ours S.best.is-instance S.best.meets); only = λ n. absurd (omega arith) };
      }

  module _ (i : List Entry) (e : reconciled A.g (forced a b A.ps) ≡ some i) where
    ours : IsOurs f p a b A i
    ours = right.given i e

    unique : (j : List Entry) → IsOurs f p a b A j → j ≡ i
    unique j w =
        best-unique A.g (sound-schema A h) (MeetsInForce a b A.g A.ps) (better A.g (forced a b A.ps)) (better-strict A.g (forced a b A.ps)) j i w ours

  pub demand-3 : Demand3 f p a b A out (reconciling f p a b out)
  unfolding given
  demand-3 = subst (Demand3 f p a b A out) (sym (reconciling-is A out)) (go (reconciled A.g (forced a b A.ps)) refl)
    where
      go : (o : Option (List Entry)) → reconciled A.g (forced a b A.ps) ≡ o → Demand3 f p a b A out (given A.g out o)
      go none e = none-given e
      go (some i) e =
          record {
            refuses = record { when = λ n. absurd (n i (ours i e).is-instance (ours i e).meets); only = λ n. absurd (placed-not-13 (encode A.g i) out n) };
            otherwise = λ n. record { ours = i; best = ours i e; unique = unique i e; writes = placed-fits (encode A.g i) out };
            answers-0 = λ n. record { ours = i; best = ours i e; enough = placed-0 (encode A.g i) out n };
            short =
                record {
                  when = λ S. placed-short (encode A.g i) out (subst (λ (j : List Entry). length out < length (encode A.g j)) (unique i e S.ours S.best) S.shorter);
                  only = λ n. record { ours = i; best = ours i e; shorter = placed-14 (encode A.g i) out n };
                };
          }
