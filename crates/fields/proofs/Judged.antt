-- A reading that a call judges: what it comes to from the reader's answer, as an answer and as an outcome; and what holds of
-- its refusals and of what follows it holds of the call. Rests on the definition of `judged`, by the two ways that a reading can end.
use mathlib.Core.Path.{◌≡◌, refl, sym, subst}
use mathlib.Core.List.{List}
use mathlib.Core.Bool.{true}
use Prim.Native.Nat.{ℕ}
use Rattle.fields.specs.Reading.{Got, got, bad}
use Rattle.fields.specs.Answers.{Answer, end_of, refusal, judged}
use Rattle.fields.specs.Outcomes.{Outcome, Did, leaving}
use Rattle.fields.proofs.Reading.{stopped}
use Rattle.fields.proofs.Refusals.{of_file, Numbered}

pub judged-all : {A B : Type 0} (P : B → Type 0) (refuse : ℕ → ℕ → ℕ → B) (file : ℕ) (r : Got A) (k : A → B) → Numbered r
    → ((n file o : ℕ) → of_file n ≡ true → P (refuse n file o)) → ((x : A) (q : ℕ) → r ≡ got x q → P (k x)) → P (judged refuse file r k)
unfolding judged
judged-all P refuse file (got x q) k h bads goods = goods x q refl
judged-all P refuse file (bad n o) k h bads goods = bads n file o h

-- ---- an outcome

pub did-same : {u v : Outcome} {r : Answer} {after : List ℕ} → u ≡ v → Did v r after → Did u r after
did-same {r = r} {after} e d = subst (λ (w : Outcome). Did w r after) (sym e) d

pub refused_did : (out : List ℕ) {u : Outcome} {r : Answer} {n file o : ℕ} → u ≡ leaving out n file o → r ≡ refusal n file o → Did u r out
refused_did out e h = did-same e (record { answer = h; buffer = refl })

-- ---- a breach that the reader answered

module _ {A B : Type 0} (refuse : ℕ → ℕ → ℕ → B) (file : ℕ) (g : Got A) (k : A → B) where
  pub judged_bad : {n o : ℕ} → g ≡ bad n o → judged refuse file g k ≡ refuse n file o
  unfolding judged
  judged_bad e = rw e

  pub judged_ok : {a : A} {q : ℕ} → g ≡ got a q → judged refuse file g k ≡ k a
  unfolding judged
  judged_ok e = rw e

  pub judged_end : {n o : ℕ} → bad n o ≡ end_of g → judged refuse file g k ≡ refuse n file o
  judged_end e = judged_bad (stopped g e)
