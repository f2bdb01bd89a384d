-- A search for the first offset that has a property: of one place, and of one property before another.
-- Rests on nothing of the crate but what first means.
use mathlib.Core.Path.{◌≡◌, refl}
use mathlib.Core.Logic.{◌⊎◌, inl, inr}
use mathlib.Core.Bool.{Bool, true, false, cond}
use mathlib.Core.Option.{Option, none, some}
use Prim.Native.Nat.{ℕ, ◌≤◌}
use native.Mathlib.Omega.{arith}
use Rattle.model.specs.Comparing.{or_next}
use Rattle.model.proofs.Relations.{First}

-- what a search has found: nothing has P, or this is the first
pub data Finds (P : ℕ → Type 0) : Option ℕ → Type 0 where
  nothing : ((o : ℕ) → P o → ⊥) → Finds P none
  at : {r : ℕ} → First P r → Finds P (some r)

-- P is A, or B behind it
pub record Either (P A B : ℕ → Type 0) : Type 0 where
  pub split : (o : ℕ) → P o → A o ⊎ B o
  pub first : (o : ℕ) → A o → P o
  pub second : (o : ℕ) → B o → P o
  pub behind : (o q : ℕ) → A o → B q → o ≤ q

pub finds-next : {P A B : ℕ → Type 0} {x y : Option ℕ} → Either P A B → Finds A x → Finds B y → Finds P (or_next x y)
finds-next {P} {A} {B} E (nothing h) (nothing k) = nothing (λ o f. go o (E.split o f))
  where
    go : (o : ℕ) → A o ⊎ B o → ⊥
    go o (inl a) = h o a
    go o (inr b) = k o b
finds-next {P} {A} {B} E (nothing h) (at {r} w) = at (record { has = E.second r w.has; least = λ q f. go q (E.split q f) })
  where
    go : (q : ℕ) → A q ⊎ B q → r ≤ q
    go q (inl a) = absurd (h q a)
    go q (inr b) = w.least q b
finds-next {P} {A} {B} E (at {r} w) d = at (record { has = E.first r w.has; least = λ q f. go q (E.split q f) })
  where
    go : (q : ℕ) → A q ⊎ B q → r ≤ q
    go q (inl a) = w.least q a
    go q (inr b) = E.behind r q w.has b

-- one place, which is found where a test fails
pub finds-here : {P : Type 0} (p : ℕ) (t : Bool) → (t ≡ true → P → ⊥) → (t ≡ false → P) → Finds (λ o. (o ≡ p) × P) (cond t none (some p))
finds-here p true f g = nothing (λ o h. f refl h.1)
finds-here p false f g = at (record { has = (refl, g refl); least = λ q h. let z : q ≡ p = h.0 in omega arith })

-- of a test
pub or-next : (t : Bool) (p : ℕ) (rest : Option ℕ) → cond t rest (some p) ≡ or_next (cond t none (some p)) rest
or-next true p rest = refl
or-next false p rest = refl
