-- The loop over `many`: what is left to read from here equals the whole; one law for each way a turn can end.
-- Rests on the definition of `many` alone.
use mathlib.Core.Path.{◌≡◌, refl, sym, ◌∙◌}
use mathlib.Core.List.{◌∷◌}
use Prim.Native.Nat.{ℕ, zero, suc, ◌-◌, ◌≤◌, ◌<◌}
use native.Mathlib.Omega.{arith}
use Rattle.fields.specs.Reading.{Got, got, bad, part, many}
use Rattle.fields.specs.Answers.{end_of}
use Rattle.fields.proofs.Reading.{stepped, stopped}

-- a value that is only put in front changes no position
pub forget : {A B : Type 0} (g : Got A) (f : A → B) → end_of (part g (λ a q. got (f a) q)) ≡ end_of g
unfolding part
forget (got a p) f = refl
forget (bad n o) f = refl

module _ {S A : Type 0} (step : S → ℕ → Got A) (next : S → A → S) where
  pub many_done : (k : ℕ) (st : S) (p : ℕ) {X : Got Unit} → end_of (many step next k st p) ≡ X → k ≤ 0 → got tt p ≡ X
  unfolding many
  many_done zero st p i h = i
  many_done (suc k) st p i h = absurd (omega arith)

  pub many_bad : (k : ℕ) (st : S) (p : ℕ) {X : Got Unit} {m o : ℕ} → end_of (many step next k st p) ≡ X → 0 < k → step st p ≡ bad m o → bad m o ≡ X
  unfolding many part
  many_bad zero st p i h e = absurd (omega arith)
  many_bad (suc k) st p i h e = rw e at i

  pub many_more : (k : ℕ) (st : S) (p : ℕ) {X : Got Unit} {a : A} {q : ℕ} → end_of (many step next k st p) ≡ X → 0 < k → step st p ≡ got a q
      → end_of (many step next (k - 1) (next st a) q) ≡ X
  unfolding many part
  many_more zero st p i h e = absurd (omega arith)
  many_more (suc k) st p {a = a} {q} i h e =
      let w : suc k - 1 ≡ k = omega arith in
      rw w (sym (forget (many step next k (next st a) q) (λ xs. a ∷ xs)) ∙ (rw e at i))

-- the same where a turn tells only its end, and the state does not depend on what is read
module _ {S A : Type 0} (step : S → ℕ → Got A) (next : S → S) where
  pub many_stop : (k : ℕ) (st : S) (p : ℕ) {X : Got Unit} {n o : ℕ} → end_of (many step (λ st _. next st) k st p) ≡ X → 0 < k
      → bad n o ≡ end_of (step st p) → bad n o ≡ X
  many_stop k st p i h e = many_bad step (λ st _. next st) k st p i h (stopped (step st p) e)

  pub many_turn : (k : ℕ) (st : S) (p : ℕ) {X : Got Unit} {q : ℕ} → end_of (many step (λ st _. next st) k st p) ≡ X → 0 < k
      → got tt q ≡ end_of (step st p) → end_of (many step (λ st _. next st) (k - 1) (next st) q) ≡ X
  many_turn k st p i h e = many_more step (λ st _. next st) k st p i h (stepped (step st p) e).1
