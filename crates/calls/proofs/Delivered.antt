-- What a call delivers of an accepted instance file: what is made of its instance, or 14 where the buffer is shorter.
-- Rests on the instance file's round trips, and on what a placed file comes to.
use mathlib.Core.Path.{◌≡◌, refl, sym, ap, subst, ◌∙◌}
use mathlib.Core.List.{List}
use Prim.Native.Nat.{ℕ, ◌≤◌, ◌<◌}
use native.Mathlib.Omega.{arith}
use lib.ListN.{length}
use Rattle.fields.specs.Reading.{Got, got, bad}
use Rattle.fields.specs.Answers.{judged}
use Rattle.fields.specs.Outcomes.{Outcome, leaving, placed}
use Rattle.fields.proofs.Bytes.{Bytes}
use Rattle.fields.proofs.Refusals.{Numbered, unlike}
use Rattle.schema.specs.Schema.{Node, schema}
use Rattle.instances.specs.Instance.{Entry}
use Rattle.instances.specs.File.{instance}
use Rattle.instances.proofs.Refusals.{refused, instance-numbered}
use Rattle.calls.specs.Inputs.{with_schema}
use Rattle.calls.specs.Calls.{delivering}
use Rattle.calls.proofs.Answers.{RefusesWhen, Writes, placed-fits, placed-short, placed-0, placed-14}
use Rattle.calls.proofs.Copied.{Encodes, read, encoded}

-- made is what a call makes of the instance that the file s encodes
module _ (g : List Node) (s : List ℕ) (made : Encodes g s → List ℕ) (out : List ℕ) where
  -- there is one, and the buffer is long enough
  pub record Fitting : Type 0 where
    pub encodes : Encodes g s
    pub enough : length (made encodes) ≤ length out

  -- and a shorter one
  pub record TooLong : Type 0 where
    pub encodes : Encodes g s
    pub shorter : length out < length (made encodes)

  -- of the outcome of delivering it into this buffer
  pub record Delivered (o : Outcome) : Type 0 where
    pub writes : (F : Fitting) → Writes (made F.encodes) out o
    pub answers-0 : o.answer.number ≡ 0 → Fitting
    -- '14 last'
    pub short : RefusesWhen 14 TooLong out o

-- ---- the proof, where the schema is accepted

module _ (f : List ℕ) (h : Bytes f) {g : List Node} {q : ℕ} (e : schema f ≡ got g q) where
  delivering-is : (text : List Node → List Entry → List ℕ) (s out : List ℕ) → delivering text f s out ≡ judged (leaving out) 4 (instance g s) (λ i. placed (text g i) out)
  unfolding delivering with_schema judged
  delivering-is text s out = rw e

  pub delivered : (text : List Node → List Entry → List ℕ) (s : List ℕ) (made : Encodes g s → List ℕ) → ((E : Encodes g s) → text g E.what ≡ made E) → Bytes s → (out : List ℕ)
      → Delivered g s made out (delivering text f s out)
  unfolding judged read
  delivered text s made is c out = subst (Delivered g s made out) (sym (delivering-is text s out)) (go (instance g s) refl)
    where
      same : (E : Encodes g s) {r : Got (List Entry)} → instance g s ≡ r → r ≡ got E.what (length s)
      same E k = sym k ∙ encoded f h e s E

      -- one file encodes one instance, of which one thing is made
      only : (E : Encodes g s) {i : List Entry} {x : ℕ} → instance g s ≡ got i x → text g i ≡ made E
      only E {i} k = ap (text g) (let y : E.what ≡ i = (let z = same E k in cc) in sym y) ∙ is E

      go : (r : Got (List Entry)) → instance g s ≡ r → Delivered g s made out (judged (leaving out) 4 r (λ i. placed (text g i) out))
      go (got i x) k =
          record {
            writes = λ F. subst (λ (t : List ℕ). Writes t out (placed (text g i) out)) (only F.encodes k) (placed-fits (text g i) out (subst (λ (t : List ℕ). length t ≤ length out) (sym (only F.encodes k)) F.enough));
            answers-0 = λ n. record { encodes = read f h e s c k; enough = subst (λ (t : List ℕ). length t ≤ length out) (only (read f h e s c k) k) (placed-0 (text g i) out n) };
            short = record {
              when = λ T. placed-short (text g i) out (subst (λ (t : List ℕ). length out < length t) (sym (only T.encodes k)) T.shorter);
              only = λ n. record { encodes = read f h e s c k; shorter = subst (λ (t : List ℕ). length out < length t) (only (read f h e s c k) k) (placed-14 (text g i) out n) };
            };
          }
      go (bad n o) k =
          record {
            writes = λ F. absurd (let z : ◌≡◌ {A = ℕ} 0 1 = (let y = same F.encodes k in cc) in omega arith);
            answers-0 = λ m. absurd (refused g s k m);
            short = record { when = λ T. absurd (let z : ◌≡◌ {A = ℕ} 0 1 = (let y = same T.encodes k in cc) in omega arith); only = λ m. absurd (never-14 k m) };
          }
        where
          never-14 : {n o : ℕ} → instance g s ≡ bad n o → n ≡ 14 → ⊥
          never-14 k m = unlike 14 refl (subst Numbered k (instance-numbered g s)) m
