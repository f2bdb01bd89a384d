-- A reader that fills tables as it reads: from its outcome back to what was read, and one law for each way that a turn over `many` can end.
-- Rests on the definitions of `run_of`, `part` and `many`.
use mathlib.Core.Path.{◌≡◌, ap, sym, ◌∙◌}
use mathlib.Core.List.{List, [], ◌∷◌}
use Prim.Native.Nat.{ℕ, zero, suc, ◌-◌, ◌≤◌, ◌<◌}
use native.Mathlib.Omega.{arith}
use Rattle.fields.specs.Reading.{Got, got, bad, part, many}
use Rattle.std.specs.Prelude.{Result, Ok, Err}
use Rattle.fields.specs.Answers.{number, as_end, end_of}
use Rattle.fields.specs.Runs.{Run, did, refused, outcome, run_of}
use Rattle.fields.specs.declared.Breach.{Breach}

-- a run, back to what was read
pub record Filled {T A : Type 0} (fill : A → T → T) (g : Got A) (t after : T) (q : ℕ) : Type 0 where
  pub value : A
  pub read : g ≡ got value q
  pub is : after ≡ fill value t

module _ {T A : Type 0} (fill : A → T → T) where
  pub ran : (g : Got A) (t after : T) {q : ℕ} → did q after ≡ run_of fill g t → Filled fill g t after q
  ran (got a p) t after e = record { value = a; read = cc; is = cc }
  ran (bad n o) t after e = absurd (let z : ◌≡◌ {A = ℕ} 0 1 = cc in omega arith)

  pub failed : (g : Got A) (t : T) {n o : ℕ} → refused n o ≡ run_of fill g t → g ≡ bad n o
  failed (got a p) t e = cc
  failed (bad n o) t e = cc

pub run_answer : {T A : Type 0} (fill : A → T → T) (g : Got A) (t after : T) (r : Result ℕ Breach) → outcome r after ≡ run_of fill g t → as_end r ≡ end_of g
run_answer fill (got a q) t after (Ok p) e = let z : p ≡ q = cc in ap (got tt) z
run_answer fill (got a q) t after (Err b) e = absurd (let z : ◌≡◌ {A = ℕ} 0 1 = cc in omega arith)
run_answer fill (bad m i) t after (Ok p) e = absurd (let z : ◌≡◌ {A = ℕ} 0 1 = cc in omega arith)
run_answer fill (bad m i) t after (Err b) e = let z : number b.fault ≡ m = cc in let w : b.offset ≡ i = cc in rw (z, w)

-- what is made of what was read fills other tables likewise
pub run_map : {A B T U : Type 0} (fill : A → T → T) (full : B → U → U) (make : A → B) (g : Got A) (t t₁ : T) (u u₁ : U) (r : Result ℕ Breach)
    → outcome r t₁ ≡ run_of fill g t → ((a : A) → t₁ ≡ fill a t → u₁ ≡ full (make a) u) → outcome r u₁ ≡ run_of full (part g (λ a q. got (make a) q)) u
unfolding part
run_map fill full make (got a q) t t₁ u u₁ (Ok p) e h = let z : t₁ ≡ fill a t = cc in let w : p ≡ q = cc in rw (w, h a z)
run_map fill full make (got a q) t t₁ u u₁ (Err b) e h = absurd (let z : ◌≡◌ {A = ℕ} 0 1 = cc in omega arith)
run_map fill full make (bad m i) t t₁ u u₁ (Ok p) e h = absurd (let z : ◌≡◌ {A = ℕ} 0 1 = cc in omega arith)
run_map fill full make (bad m i) t t₁ u u₁ (Err b) e h = let z : m ≡ number b.fault = cc in let w : i ≡ b.offset = cc in rw (z, w)

-- the loop over `many`: what is left to read and to fill from here equals the whole
module _ {S A T : Type 0} (step : S → ℕ → Got A) (next : S → A → S) (fill : List A → T → T) where
  pub run_exit : (k : ℕ) (st : S) (p : ℕ) (t : T) {x : Run T} → run_of fill (many step next k st p) t ≡ x → k ≤ 0 → did p (fill [] t) ≡ x
  unfolding many
  run_exit zero st p t i h = i
  run_exit (suc k) st p t i h = absurd (omega arith)

  pub run_refused : (k : ℕ) (st : S) (p : ℕ) (t : T) {x : Run T} {n o : ℕ} → run_of fill (many step next k st p) t ≡ x → 0 < k → step st p ≡ bad n o
      → refused n o ≡ x
  unfolding many part
  run_refused zero st p t i h e = absurd (omega arith)
  run_refused (suc k) st p t i h e = rw e at i

  pub run_step : (rest : List A → T → T) (k : ℕ) (st : S) (p : ℕ) (t t₁ : T) {x : Run T} {a : A} {q : ℕ} → run_of fill (many step next k st p) t ≡ x → 0 < k
      → step st p ≡ got a q → ((xs : List A) → fill (a ∷ xs) t ≡ rest xs t₁) → run_of rest (many step next (k - 1) (next st a) q) t₁ ≡ x
  unfolding many part
  run_step rest zero st p t t₁ i h e z = absurd (omega arith)
  run_step rest (suc k) st p t t₁ {x} {a} {q} i h e z =
      let w : suc k - 1 ≡ k = omega arith in
      rw w (go (many step next k (next st a) q) (rw e at i))
    where
      go : (g : Got (List A)) → run_of fill (part g (λ xs p. got (a ∷ xs) p)) t ≡ x → run_of rest g t₁ ≡ x
      go (got xs p) i = ap (did p) (sym (z xs)) ∙ i
      go (bad n o) i = i
