-- A turn takes the choice out of the slot of one node: then one more of the first slots has none.
-- Rests on what setting one place of a list leaves at the others.
use mathlib.Core.Path.{◌≡◌, refl, ap, ◌∙◌}
use mathlib.Core.List.{List, [], ◌∷◌}
use Prim.Native.Nat.{ℕ, zero, suc, ◌+◌, ◌<◌}
use native.Mathlib.Omega.{arith}
use lib.ListN.{length, get_or, set}
use Rattle.schema.specs.Schema.{most_nodes, schema_of}
use Rattle.schema.specs.Table.{AtMost}
use Rattle.instances.specs.Plan.{slot_at, SlotsRoom, Unchosen, without_choices}
use Rattle.instances.specs.declared.Slot.{Slot}

pub cleared_length : (k : ℕ) (xs : List Slot) → length (without_choices k xs) ≡ length xs
unfolding without_choices
cleared_length zero xs = refl
cleared_length (suc k) [] = refl
cleared_length (suc k) (x ∷ xs) = ap suc (cleared_length k xs)

pub cleared_choice : (k : ℕ) (xs : List Slot) (n : ℕ) → n < k → n < length xs → (slot_at (without_choices k xs) n).choice ≡ 255
unfolding without_choices
cleared_choice zero xs n l h = absurd (omega (arith, l))
cleared_choice (suc k) [] n l h = absurd (omega (arith, h))
cleared_choice (suc k) (x ∷ xs) zero l h = refl
cleared_choice (suc k) (x ∷ xs) (suc n) l h = cleared_choice k xs n (omega (arith, l)) (omega (arith, h))

-- the next of the first slots, set without a choice
cleared_next : (k : ℕ) (xs : List Slot) (d : Slot) → k < length xs
    → set (without_choices k xs) k (record (get_or (without_choices k xs) k d) { choice = 255 }) ≡ without_choices (suc k) xs
unfolding without_choices
cleared_next zero [] d l = absurd (omega (arith, l))
cleared_next zero (x ∷ xs) d l = refl
cleared_next (suc k) [] d l = absurd (omega (arith, l))
cleared_next (suc k) (x ∷ xs) d l = ap (λ (ys : List Slot). record x { choice = 255 } ∷ ys) (cleared_next k xs d (omega (arith, l)))

module _ (s : List ℕ) (before : List Slot) {slots : List Slot} where
  pub clearing_room : {n c : ℕ} → SlotsRoom s before → slots ≡ without_choices n before → AtMost most_nodes (length (schema_of s)) c → n < c → n < length slots
  clearing_room {n} r e a l = omega (arith, r.long, ap (λ (ys : List Slot). length ys) e ∙ cleared_length n before, a.is, l)

  pub clearing_exit : {n c : ℕ} → slots ≡ without_choices n before → AtMost most_nodes (length (schema_of s)) c → n ≡ c
      → slots ≡ without_choices (length (schema_of s)) before
  clearing_exit {n} e a q = e ∙ ap (λ (k : ℕ). without_choices k before) (q ∙ a.is)

  -- then no choice is taken
  pub cleared_unchosen : SlotsRoom s before → slots ≡ without_choices (length (schema_of s)) before → Unchosen s slots
  cleared_unchosen r e =
      rw e (record {
        room = record { long = omega (arith, r.long, cleared_length (length (schema_of s)) before) };
        none = λ n l. cleared_choice (length (schema_of s)) before n l (omega (arith, r.long, l));
      })

pub clearing_init : (before : List Slot) → before ≡ without_choices 0 before
unfolding without_choices
clearing_init before = refl

pub clearing_step : {n : ℕ} (before slots : List Slot) (d : Slot) → slots ≡ without_choices n before → n < length slots
    → set slots n (record (get_or slots n d) { choice = 255 }) ≡ without_choices (n + 1) before
clearing_step {n} before slots d e l =
    let k : suc n ≡ n + 1 = omega arith in
    rw e (cleared_next n before d (omega (arith, l, ap (λ (ys : List Slot). length ys) e ∙ cleared_length n before)) ∙ ap (λ (m : ℕ). without_choices m before) k)
