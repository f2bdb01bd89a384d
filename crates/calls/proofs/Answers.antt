-- What the demands say of a call's answer and of its buffer at exit, written out; and what a placed file comes to.
-- Rests on the definitions of an answer and of placing a file in a buffer.
use mathlib.Core.Path.{◌≡◌, refl, sym, ap, subst, ◌∙◌}
use mathlib.Core.Bool.{Bool, true, false}
use mathlib.Core.List.{List, ◌++◌}
use Prim.Native.Nat.{ℕ, ◌≤◌, ◌<◌}
use native.Mathlib.Omega.{arith}
use borrow.Author.Tests.{le-leb, lt-leb, leb-true, leb-false}
use lib.Dec.{leb}
use lib.ListN.{length, drop}
use Rattle.fields.specs.Answers.{Answer, success, refusal}
use Rattle.fields.specs.Outcomes.{Outcome, refused, placed}

-- the answer is 0 throughout exactly when P
pub record AcceptsWhen (P : Type 0) (r : Answer) : Type 0 where
  pub when : P → r ≡ record { number = 0; file = 0; offset = 0; value = 0 }
  pub only : r.number ≡ 0 → P

-- the call refuses with n, 'file 0, offset 0', exactly when P, and the buffer stays
pub record RefusesWhen (n : ℕ) (P : Type 0) (out : List ℕ) (o : Outcome) : Type 0 where
  pub when : P → o ≡ record { answer = record { number = n; file = 0; offset = 0; value = 0 }; buffer = out }
  pub only : o.answer.number ≡ n → P

-- 'the buffer then begins with that file, and the length is its number of bytes'; 'the bytes beyond the length stay'
abbrev pub Writes : List ℕ → List ℕ → Outcome → Type 0
Writes file out o = o ≡ record { answer = record { number = 0; file = 0; offset = 0; value = length file }; buffer = file ++ drop (length file) out }

-- 'after a refusal its other parts, the length among them, are 0'
pub record Alone (r : Answer) : Type 0 where
  pub value : (r.number ≡ 0 → ⊥) → r.value ≡ 0

-- 'a refused call leaves the output buffer untouched'
pub record Untouched (out : List ℕ) (o : Outcome) : Type 0 where
  pub buffer : (o.answer.number ≡ 0 → ⊥) → o.buffer ≡ out
  pub alone : Alone o.answer

-- ---- refusals and successes

pub refused-untouched : (n file o : ℕ) (out : List ℕ) → Untouched out (refused n file o out)
refused-untouched n file o out = record { buffer = λ h. refl; alone = record { value = λ h. refl } }

pub success-alone : (v : ℕ) → Alone (success v)
success-alone v = record { value = λ h. absurd (h refl) }

pub refusal-alone : (n file o : ℕ) → Alone (refusal n file o)
refusal-alone n file o = record { value = λ h. refl }

-- ---- a placed file

module _ (file out : List ℕ) where
  pub placed-fits : length file ≤ length out → Writes file out (placed file out)
  unfolding placed
  placed-fits h = rw (le-leb (length file) (length out) h)

  pub placed-short : length out < length file → placed file out ≡ refused 14 0 0 out
  unfolding placed
  placed-short h = rw (lt-leb (length file) (length out) h)

  -- one of the two
  pub data Placed (o : Outcome) : Type 0 where
    fits : length file ≤ length out → Writes file out o → Placed o
    short : length out < length file → o ≡ refused 14 0 0 out → Placed o

  pub placed-is : Placed (placed file out)
  placed-is = go (leb (length file) (length out)) refl
    where
      go : (t : Bool) → leb (length file) (length out) ≡ t → Placed (placed file out)
      go true t = let h = leb-true (length file) (length out) t in fits h (placed-fits h)
      go false t = let h = leb-false (length file) (length out) t in short h (placed-short h)

  pub placed-untouched : Untouched out (placed file out)
  placed-untouched = go placed-is
    where
      go : Placed (placed file out) → Untouched out (placed file out)
      go (fits h e) = subst (Untouched out) (sym e) (record { buffer = λ n. absurd (n refl); alone = success-alone (length file) })
      go (short h e) = subst (Untouched out) (sym e) (refused-untouched 14 0 0 out)

  -- what its number tells
  pub placed-14 : (placed file out).answer.number ≡ 14 → length out < length file
  placed-14 e = go placed-is
    where
      go : Placed (placed file out) → length out < length file
      go (fits h d) = absurd (let z : ◌≡◌ {A = ℕ} 0 14 = sym (ap (λ (o : Outcome). o.answer.number) d) ∙ e in omega arith)
      go (short h d) = h

  pub placed-0 : (placed file out).answer.number ≡ 0 → length file ≤ length out
  placed-0 e = go placed-is
    where
      go : Placed (placed file out) → length file ≤ length out
      go (fits h d) = h
      go (short h d) = absurd (let z : ◌≡◌ {A = ℕ} 14 0 = sym (ap (λ (o : Outcome). o.answer.number) d) ∙ e in omega arith)

  pub placed-not-13 : (placed file out).answer.number ≡ 13 → ⊥
  placed-not-13 e = go placed-is
    where
      go : Placed (placed file out) → ⊥
      go (fits h d) = let z : ◌≡◌ {A = ℕ} 0 13 = sym (ap (λ (o : Outcome). o.answer.number) d) ∙ e in omega arith
      go (short h d) = let z : ◌≡◌ {A = ℕ} 14 13 = sym (ap (λ (o : Outcome). o.answer.number) d) ∙ e in omega arith
