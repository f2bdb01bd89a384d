-- A file placed in a buffer: what a call did that put it at the start, or that refused.
-- Rests on the definitions of `placed` and `put`.
use mathlib.Core.Path.{◌≡◌, ap, ◌∙◌}
use mathlib.Core.List.{List, ◌++◌}
use Prim.Native.Nat.{ℕ, ◌+◌, ◌≤◌, ◌<◌}
use native.Mathlib.Nat.{zero-add}
use borrow.Author.Tests.{le-leb, lt-leb}
use lib.ListN.{length, drop}
use Rattle.fields.specs.Answers.{Answer, success, refusal}
use Rattle.fields.specs.Outcomes.{Did, placed}
use Rattle.fields.specs.Writing.{put, Wrote}

module _ (file out : List ℕ) {r : Answer} where
  pub placed_short_did : length out < length file → r ≡ refusal 14 0 0 → Did (placed file out) r out
  unfolding placed
  placed_short_did h i = let t = lt-leb (length file) (length out) h in record { answer = i ∙ rw t; buffer = rw t }

  pub placed_wrote_did : {after : List ℕ} {n : ℕ} → length file ≤ length out → Wrote out 0 file after n → r ≡ success n → Did (placed file out) r after
  unfolding placed put
  placed_wrote_did h u i =
      let z : 0 + length file ≡ length file = zero-add (length file) in
      rw (le-leb (length file) (length out) h) (record { answer = i ∙ ap success (u.next ∙ z); buffer = u.holds ∙ ap (λ (k : ℕ). file ++ drop k out) z })
