-- The order of successors: its test agrees with it, and it is strict and total, whatever the ranks; ranks by column.
-- Rests on the laws of numbers, by column on successors that rise.
use mathlib.Core.Path.{◌≡◌, refl, sym, ap, ap₂, ◌∙◌}
use mathlib.Core.Logic.{◌⊎◌, inl, inr, ◌↔◌}
use mathlib.Core.List.{List, [], ◌∷◌}
use mathlib.Core.Bool.{Bool, true, false, cond, not, ◌&&◌}
use Prim.Native.Nat.{ℕ, zero, suc, ◌<◌}
use native.Mathlib.Omega.{arith}
use borrow.Author.Tests.{ltb-true, ltb-false, eqb-true, eqb-false, lt-ltb, le-ltb, eq-eqb, ne_eqb}
use lib.Dec.{eqb, ltb}
use lib.ListN.{length, get_or}
use Rattle.schema.specs.Schema.{Node, node_at}
use Rattle.schema.proofs.Sound.{Rising, Sound}
use Rattle.policies.specs.Policies.{Policy, rank_of}
use Rattle.model.specs.Satisfaction.{column_of, rank, every, allowed}
use Rattle.model.specs.Order.{better_by, better}
use Rattle.model.proofs.Lawful.{Strict, Total}
use Rattle.model.proofs.Relations.{Better, decides, later, by_number}

numbers : (a b : ℕ) → (a < b) ⊎ ((a ≡ b) ⊎ (b < a))
numbers a b = go (ltb a b) refl (eqb a b) refl
  where
    go : (s : Bool) → ltb a b ≡ s → (t : Bool) → eqb a b ≡ t → (a < b) ⊎ ((a ≡ b) ⊎ (b < a))
    go true e t f = inl (ltb-true a b e)
    go false e true f = inr (inl (eqb-true a b f))
    go false e false f = let z = ltb-false a b e in let y = eqb-false a b f in inr (inr (omega arith))

module _ {X : Type 0} (rank : X → ℕ → ℕ) where
  -- ---- the test

  test-better : (xs : List X) (p q : ℕ) → better_by rank xs p q ≡ true → Better rank p q xs
  unfolding better_by
  test-better [] p q t = by_number (ltb-true p q t)
  test-better (x ∷ xs) p q t = go (eqb (rank x p) (rank x q)) refl (test-better xs p q) t
    where
      go : (b : Bool) → eqb (rank x p) (rank x q) ≡ b → (better_by rank xs p q ≡ true → Better rank p q xs)
          → cond b (better_by rank xs p q) (ltb (rank x p) (rank x q)) ≡ true → Better rank p q (x ∷ xs)
      go true e ih u = later (eqb-true _ _ e) (ih u)
      go false e ih u = decides (ltb-true _ _ u)

  better-test : (xs : List X) (p q : ℕ) → Better rank p q xs → better_by rank xs p q ≡ true
  unfolding better_by
  better-test [] p q (by_number h) = lt-ltb p q h
  better-test (x ∷ xs) p q (decides h) = rw (ne_eqb (rank x p) (rank x q) (λ e. omega arith)) (lt-ltb (rank x p) (rank x q) h)
  better-test (x ∷ xs) p q (later e h) = rw (eq-eqb (rank x p) (rank x q) e) (better-test xs p q h)

  pub better-iff : (xs : List X) (p q : ℕ) → (better_by rank xs p q ≡ true) ↔ Better rank p q xs
  better-iff xs p q = (test-better xs p q, better-test xs p q)

  -- ---- a strict total order

  trans : (xs : List X) (p q r : ℕ) → Better rank p q xs → Better rank q r xs → Better rank p r xs
  trans [] p q r (by_number h) (by_number k) = by_number (omega arith)
  trans (x ∷ xs) p q r (decides h) (decides k) = decides {x = x} (omega arith)
  trans (x ∷ xs) p q r (decides h) (later e k) = decides {x = x} (omega arith)
  trans (x ∷ xs) p q r (later e h) (decides k) = decides {x = x} (omega arith)
  trans (x ∷ xs) p q r (later e h) (later f k) = later (e ∙ f) (trans xs p q r h k)

  irreflexive : (xs : List X) (p : ℕ) → Better rank p p xs → ⊥
  irreflexive [] p (by_number h) = omega arith
  irreflexive (x ∷ xs) p (decides h) = omega arith
  irreflexive (x ∷ xs) p (later e h) = irreflexive xs p h

  either : (xs : List X) (p q : ℕ) → Better rank p q xs ⊎ ((p ≡ q) ⊎ Better rank q p xs)
  either [] p q = go (numbers p q)
    where
      go : (p < q) ⊎ ((p ≡ q) ⊎ (q < p)) → Better rank p q [] ⊎ ((p ≡ q) ⊎ Better rank q p [])
      go (inl h) = inl (by_number h)
      go (inr (inl h)) = inr (inl h)
      go (inr (inr h)) = inr (inr (by_number h))
  either (x ∷ xs) p q = go (numbers (rank x p) (rank x q)) (either xs p q)
    where
      go : (rank x p < rank x q) ⊎ ((rank x p ≡ rank x q) ⊎ (rank x q < rank x p)) → Better rank p q xs ⊎ ((p ≡ q) ⊎ Better rank q p xs)
          → Better rank p q (x ∷ xs) ⊎ ((p ≡ q) ⊎ Better rank q p (x ∷ xs))
      go (inl h) k = inl (decides h)
      go (inr (inl h)) (inl k) = inl (later h k)
      go (inr (inl h)) (inr (inl k)) = inr (inl k)
      go (inr (inl h)) (inr (inr k)) = inr (inr (later (sym h) k))
      go (inr (inr h)) k = inr (inr (decides h))

  pub by-strict : (xs : List X) → Strict (better_by rank xs)
  by-strict xs =
      record {
        trans = λ p q r h k. better-test xs p r (trans xs p q r (test-better xs p q h) (test-better xs q r k));
        irreflexive = λ p h. irreflexive xs p (test-better xs p p h);
      }

  pub by_total : (xs : List X) → Total (better_by rank xs)
  by_total xs = record { either = λ p q. go p q (either xs p q) }
    where
      go : (p q : ℕ) → Better rank p q xs ⊎ ((p ≡ q) ⊎ Better rank q p xs) → (better_by rank xs p q ≡ true) ⊎ ((p ≡ q) ⊎ (better_by rank xs q p ≡ true))
      go p q (inl h) = inl (better-test xs p q h)
      go p q (inr (inl h)) = inr (inl h)
      go p q (inr (inr h)) = inr (inr (better-test xs q p h))

-- at a node
pub better-strict : (g : List Node) (ps : List Policy) (n : ℕ) → Strict (better g ps n)
unfolding better
better-strict g ps n = by-strict (λ (x : Policy) (s : ℕ). rank g x n s) ps

pub better-total : (g : List Node) (ps : List Policy) (n : ℕ) → Total (better g ps n)
unfolding better
better-total g ps n = by_total (λ (x : Policy) (s : ℕ). rank g x n s) ps

-- ---- by column, for an engine: a successor's rank is found by its place, and the lower place has the lower number

above-all : (own count : ℕ) (l : List ℕ) → Rising own count l → (k : ℕ) → k < length l → own < get_or l k 0
above-all own count [] r k h = absurd (omega arith)
above-all own count (x ∷ l) r zero h = r.0
above-all own count (x ∷ l) r (suc k) h = let z = above-all x count l r.2 k (omega arith) in let y = r.0 in omega arith

column-at : (own count : ℕ) (l : List ℕ) → Rising own count l → (k : ℕ) → k < length l → column_of (get_or l k 0) l ≡ k
unfolding column_of
column-at own count [] r k h = absurd (omega arith)
column-at own count (x ∷ l) r zero h = rw (eq-eqb x x refl)
column-at own count (x ∷ l) r (suc k) h =
    rw (ne_eqb x (get_or l k 0) (λ e. let z = above-all x count l r.2 k (omega arith) in omega arith)) (ap suc (column-at x count l r.2 k (omega arith)))

rising-at : (own count : ℕ) (l : List ℕ) → Rising own count l → (a b : ℕ) → a < b → b < length l → get_or l a 0 < get_or l b 0
rising-at own count [] r a b h k = absurd (omega arith)
rising-at own count (x ∷ l) r zero zero h k = absurd (omega arith)
rising-at own count (x ∷ l) r zero (suc b) h k = above-all x count l r.2 b (omega arith)
rising-at own count (x ∷ l) r (suc a) zero h k = absurd (omega arith)
rising-at own count (x ∷ l) r (suc a) (suc b) h k = rising-at x count l r.2 a b (omega arith) (omega arith)

order-at : (own count : ℕ) (l : List ℕ) → Rising own count l → (a b : ℕ) → a < length l → b < length l → ltb (get_or l a 0) (get_or l b 0) ≡ ltb a b
order-at own count l r a b h k = go (ltb a b) refl (ltb b a) refl
  where
    go : (s : Bool) → ltb a b ≡ s → (t : Bool) → ltb b a ≡ t → ltb (get_or l a 0) (get_or l b 0) ≡ s
    go true e t f = lt-ltb (get_or l a 0) (get_or l b 0) (rising-at own count l r a b (ltb-true a b e) k)
    go false e true f = le-ltb (get_or l a 0) (get_or l b 0) (let z = rising-at own count l r b a (ltb-true b a f) h in omega arith)
    go false e false f =
        let z : a ≡ b = let x = ltb-false a b e in let y = ltb-false b a f in omega arith in
        le-ltb (get_or l a 0) (get_or l b 0) (rw z (omega arith))

module _ (g : List Node) (A : Sound g) (n : ℕ) (low : n < length g) where
  abbrev pub successor_at : ℕ → ℕ
  successor_at k = get_or (node_at g n).successors k 0

  pub rank-at : (p : Policy) (k : ℕ) → k < length (node_at g n).successors → rank g p n (successor_at k) ≡ rank_of p n k
  unfolding rank
  rank-at p k h = ap (rank_of p n) (column-at n (length g) (node_at g n).successors (A.nodes n low).rising k h)

  pub allowed_at : (ps : List Policy) (k : ℕ) → k < length (node_at g n).successors → allowed g ps n (successor_at k) ≡ every (λ (p : Policy). not (eqb (rank_of p n k) 255)) ps
  unfolding allowed
  allowed_at [] k h = refl
  allowed_at (p ∷ ps) k h = ap₂ (λ (r : ℕ) (b : Bool). not (eqb r 255) && b) (rank-at p k h) (allowed_at ps k h)

  pub better-at : (ps : List Policy) (a b : ℕ) → a < length (node_at g n).successors → b < length (node_at g n).successors
      → better g ps n (successor_at a) (successor_at b) ≡ better_by (λ (p : Policy) (k : ℕ). rank_of p n k) ps a b
  unfolding better better_by
  better-at [] a b h k = order-at n (length g) (node_at g n).successors (A.nodes n low).rising a b h k
  better-at (p ∷ ps) a b h k = rw (rank-at p a h, rank-at p b k, better-at ps a b h k) refl
