-- A test of each of a list, and of successors in a list.
-- Rests on the laws of Boolean tests alone.
use mathlib.Core.Path.{◌≡◌, refl, ap, ap₂, sym, ◌∙◌}
use mathlib.Core.Logic.{◌⊎◌, inl, inr}
use mathlib.Core.List.{List, [], ◌∷◌, Memᴰ}
use mathlib.Core.Bool.{Bool, true, false, ◌&&◌}
use Prim.Native.Nat.{ℕ, zero, suc, ◌<◌}
use native.Mathlib.Omega.{arith}
use borrow.Author.Tests.{eq-eqb, eqb-true}
use lib.Dec.{eqb}
use lib.ListN.{length, get_or}
use Rattle.fields.proofs.Tests.{and_yes, and-true, or-true, or_left, or_right, never}
use Rattle.instances.specs.Instance.{elem}
use Rattle.instances.proofs.Valid.{elem_mem}
use Rattle.model.specs.Satisfaction.{every}

-- ---- every one of a list passes

pub every-mem : {A : Type 0} (ok : A → Bool) {x : A} {l : List A} → every ok l ≡ true → Memᴰ x l → ok x ≡ true
every-mem ok t (Memᴰ.head {x = y} {xs = l} e) = ap ok e ∙ (and-true (ok y) (every ok l) t).0
every-mem ok t (Memᴰ.tail {x = y} {xs = l} m) = every-mem ok (and-true (ok y) (every ok l) t).1 m

pub mem-every : {A : Type 0} (ok : A → Bool) (l : List A) → ((x : A) → Memᴰ x l → ok x ≡ true) → every ok l ≡ true
mem-every ok [] f = refl
mem-every ok (x ∷ l) f = and_yes (f x (Memᴰ.head refl)) (mem-every ok l (λ y m. f y (Memᴰ.tail m)))

-- ---- a number is one of a list

pub elem-head : (x : ℕ) (l : List ℕ) → elem x (x ∷ l) ≡ true
elem-head x l = or_left (eqb x x) (elem x l) (eq-eqb x x refl)

pub elem-tail : (s x : ℕ) (l : List ℕ) → elem s l ≡ true → elem s (x ∷ l) ≡ true
elem-tail s x l h = or_right (eqb s x) (elem s l) h

pub elem-cons : (s x : ℕ) (l : List ℕ) → elem s (x ∷ l) ≡ true → (s ≡ x) ⊎ (elem s l ≡ true)
elem-cons s x l h = go (or-true (eqb s x) (elem s l) h)
  where
    go : (eqb s x ≡ true) ⊎ (elem s l ≡ true) → (s ≡ x) ⊎ (elem s l ≡ true)
    go (inl q) = inl (eqb-true s x q)
    go (inr q) = inr q

pub elem-one : (s x : ℕ) → elem s (x ∷ []) ≡ true → s ≡ x
elem-one s x h = go (elem-cons s x [] h)
  where
    go : (s ≡ x) ⊎ (false ≡ true) → s ≡ x
    go (inl q) = q
    go (inr q) = never q

pub every-at : (h : ℕ → Bool) (l : List ℕ) → every h l ≡ true → (s : ℕ) → elem s l ≡ true → h s ≡ true
every-at h l t s m = every-mem h t (elem_mem s l m)

pub at_every : (h : ℕ → Bool) (l : List ℕ) → ((s : ℕ) → elem s l ≡ true → h s ≡ true) → every h l ≡ true
at_every h [] f = refl
at_every h (x ∷ l) f = and_yes (f x (elem-head x l)) (at_every h l (λ s m. f s (elem-tail s x l m)))

pub every-same : (h k : ℕ → Bool) (l : List ℕ) → ((s : ℕ) → elem s l ≡ true → h s ≡ k s) → every h l ≡ every k l
every-same h k [] f = refl
every-same h k (x ∷ l) f = ap₂ (λ (a b : Bool). a && b) (f x (elem-head x l)) (every-same h k l (λ s m. f s (elem-tail s x l m)))

-- ---- by place, for an engine

pub at-elem : (l : List ℕ) (k : ℕ) → k < length l → elem (get_or l k 0) l ≡ true
at-elem [] k h = absurd (omega arith)
at-elem (x ∷ l) zero h = elem-head x l
at-elem (x ∷ l) (suc k) h = elem-tail (get_or l k 0) x l (at-elem l k (omega arith))

pub record Place (l : List ℕ) (s : ℕ) : Type 0 where
  pub place : ℕ
  pub inside : place < length l
  pub is : get_or l place 0 ≡ s

pub elem_at : (l : List ℕ) (s : ℕ) → elem s l ≡ true → Place l s
elem_at [] s m = never m
elem_at (x ∷ l) s m = go (elem_at l s) (elem-cons s x l m)
  where
    go : (elem s l ≡ true → Place l s) → (s ≡ x) ⊎ (elem s l ≡ true) → Place (x ∷ l) s
    go ih (inl q) = record { place = 0; inside = omega arith; is = sym q }
    go ih (inr q) = let w = ih q in record { place = suc w.place; inside = let z = w.inside in omega arith; is = w.is }
