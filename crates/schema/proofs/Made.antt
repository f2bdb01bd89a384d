-- What is made of what was read: back to it, and one law for each way that a turn over `many` can end.
-- Rests on the definitions of `made`, `part` and `many`.
use mathlib.Core.Path.{◌≡◌, ap, sym, ◌∙◌}
use mathlib.Core.List.{List, [], ◌∷◌}
use Prim.Native.Nat.{ℕ, zero, suc, ◌-◌, ◌≤◌, ◌<◌}
use native.Mathlib.Omega.{arith}
use Rattle.fields.specs.Reading.{Got, got, bad, part, many}
use Rattle.schema.specs.Table.{made}

-- back to what was read
pub record Making {A B : Type 0} (f : A → B) (g : Got A) (y : B) (q : ℕ) : Type 0 where
  pub value : A
  pub read : g ≡ got value q
  pub is : y ≡ f value

module _ {A B : Type 0} (f : A → B) where
  pub making : (g : Got A) {y : B} {q : ℕ} → got y q ≡ made f g → Making f g y q
  making (got x p) e = record { value = x; read = cc; is = cc }
  making (bad n o) e = absurd (let z : ◌≡◌ {A = ℕ} 0 1 = cc in omega arith)

-- the loop over `many`: what is made of what is left to read equals the whole
module _ {S A B : Type 0} (step : S → ℕ → Got A) (next : S → A → S) (f : List A → B) where
  pub made_exit : (k : ℕ) (st : S) (p : ℕ) {x : Got B} → made f (many step next k st p) ≡ x → k ≤ 0 → got (f []) p ≡ x
  unfolding many
  made_exit zero st p i h = i
  made_exit (suc k) st p i h = absurd (omega arith)

  pub made_refused : (k : ℕ) (st : S) (p : ℕ) {x : Got B} {n o : ℕ} → made f (many step next k st p) ≡ x → 0 < k → step st p ≡ bad n o → bad n o ≡ x
  unfolding many part
  made_refused zero st p i h e = absurd (omega arith)
  made_refused (suc k) st p i h e = rw e at i

  pub made_step : (rest : List A → B) (k : ℕ) (st : S) (p : ℕ) {x : Got B} {a : A} {q : ℕ} → made f (many step next k st p) ≡ x → 0 < k → step st p ≡ got a q
      → ((xs : List A) → f (a ∷ xs) ≡ rest xs) → made rest (many step next (k - 1) (next st a) q) ≡ x
  unfolding many part
  made_step rest zero st p i h e z = absurd (omega arith)
  made_step rest (suc k) st p {x} {a} {q} i h e z =
      let w : suc k - 1 ≡ k = omega arith in
      rw w (go (many step next k (next st a) q) (rw e at i))
    where
      go : (g : Got (List A)) → made f (part g (λ xs p. got (a ∷ xs) p)) ≡ x → made rest g ≡ x
      go (got xs p) i = ap (λ (y : B). got y p) (sym (z xs)) ∙ i
      go (bad n o) i = i
