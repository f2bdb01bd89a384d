-- The demands hold of an exported call's answer and buffer: the slices of u8 hold bytes, and the outcome is the definition's.
-- Rests on the demands call by call, of calls.
use Prim.Native.Nat.{ℕ}
use mathlib.Core.Path.{◌≡◌, sym, ap, subst, ◌∙◌}
use mathlib.Core.List.{List}
use Rattle.fields.specs.Outcomes.{Outcome, Did}
use Rattle.fields.specs.Answers.{Answer}
use Rattle.fields.proofs.Bytes.{Bytes}
use Rattle.calls.specs.Calls.{reconciling, checking, comparing, copying, sheeting}
use Rattle.calls.proofs.ByCall.{Reconciles, reconciles, Checks, checks, Compares, compares, Copies, copies, Sheets, sheets}
use Rattle.exports.specs.Exported.{exported, answer_in}
use Rattle.exports.specs.Call.{outcome_of}
use Rattle.exports.specs.declared.Exported.{Exported}

module _ {r : Answer} {e : Exported} (h : e ≡ exported r) where
  -- what is seen of an answer, and of an outcome
  seen : (s : Answer) → r ≡ s → s ≡ answer_in e
  seen s d = sym d ∙ ap answer_in (sym h)

  seen-did : (o : Outcome) {after : List ℕ} → Did o r after → o ≡ outcome_of e after
  seen-did o d = λ i. record { answer = seen o.answer d.answer i; buffer = sym d.buffer i }

  pub reconciles-seen : (f p : List ℕ) (a b : ℕ) (out : List ℕ) {after : List ℕ} → Did (reconciling f p a b out) r after → Bytes f
      → Reconciles f p a b out (outcome_of e after)
  reconciles-seen f p a b out d x = subst (Reconciles f p a b out) (seen-did (reconciling f p a b out) d) (reconciles f p a b out x)

  pub copies-seen : (f s out : List ℕ) {after : List ℕ} → Did (copying f s out) r after → Bytes f → Bytes s → Copies f s out (outcome_of e after)
  copies-seen f s out d x y = subst (Copies f s out) (seen-did (copying f s out) d) (copies f s out x y)

  pub sheets-seen : (f s out : List ℕ) {after : List ℕ} → Did (sheeting f s out) r after → Bytes f → Bytes s → Sheets f s out (outcome_of e after)
  sheets-seen f s out d x y = subst (Sheets f s out) (seen-did (sheeting f s out) d) (sheets f s out x y)

  pub checks-seen : (f p : List ℕ) (a b : ℕ) (s : List ℕ) → r ≡ checking f p a b s → Bytes f → Bytes s → Checks f p a b s (answer_in e)
  checks-seen f p a b s d x y = subst (Checks f p a b s) (seen (checking f p a b s) d) (checks f p a b s x y)

  pub compares-seen : (f p : List ℕ) (a b : ℕ) (s t : List ℕ) → r ≡ comparing f p a b s t → Bytes f → Bytes s → Bytes t → Compares f p a b s t (answer_in e)
  compares-seen f p a b s t d x y z = subst (Compares f p a b s t) (seen (comparing f p a b s t) d) (compares f p a b s t x y z)
