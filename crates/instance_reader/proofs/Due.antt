-- The nodes that are due as the bits of a number: `Held` ties the reader's number to the entries that were read.
-- Rests on the laws of bits of the crate numbers, and on Valid.antt for what an entry changes.
use mathlib.Core.Path.{◌≡◌, refl, ap, sym, ◌∙◌}
use mathlib.Core.Logic.{◌⊎◌, inl, inr}
use mathlib.Core.Bool.{Bool, true, false, cond, ◌&&◌, ◌||◌, not}
use mathlib.Core.List.{List, [], ◌∷◌}
use Prim.Native.Nat.{ℕ, ◌^◌, ◌≤◌, ◌<◌}
use native.Mathlib.Omega.{arith}
use borrow.Author.Tests.{eq-eqb, ne_eqb, eqb-true}
use lib.Dec.{eqb}
use lib.ListN.{length}
use lib.Count.{count_trailing_zeros}
use Rattle.fields.proofs.Tests.{and-true, or-true, or_left, or_right, never, not_yes, is-not, alike}
use Rattle.numbers.specs.Bits.{bit, turned}
use Rattle.numbers.specs.Lowest.{Lowest}
use Rattle.numbers.proofs.Bits.{pow-bit, no-bit, turned_bit, all-bit, tz-bit, tz-least}
use Rattle.schema.specs.Schema.{Node, node_at}
use Rattle.schema.proofs.Sound.{Sound}
use Rattle.instances.specs.Instance.{Entry, elem, reaches, right_choice, has}
use Rattle.instances.specs.File.{reached, due, none_below, lowest_due, entry}
use Rattle.instance_reader.specs.Reader.{entry_where, due_after, Within}
use Rattle.instances.proofs.Valid.{mem-elem, none-at, at_none, Reaches, reached-due, due-reached, due-not, due-cases, lowest-due, Above, above-none, above_more, reaches-in}

-- ---- the lowest bit

module _ (m v : ℕ) where
  pub none-lowest : m ≡ 0 → (bit m v && none_below (bit m) v) ≡ false
  none-lowest z = rw (ap (λ (k : ℕ). bit k v) z ∙ no-bit v)

  module _ {l : ℕ} (z : m ≡ 0 → ⊥) (w : m < 2 ^ 64) (e : Lowest 64 m l) where
    pub lowest_set : bit m l ≡ true
    lowest_set = ap (bit m) e.is ∙ tz-bit 64 m (omega arith) w

    lowest-under : (k : ℕ) → bit m k ≡ true → l ≤ k
    lowest-under k t = let q = tz-least 64 m k t in let y = e.is in omega arith

    pub is-lowest : v ≡ l → (bit m v && none_below (bit m) v) ≡ true
    is-lowest q = rw (ap (bit m) q ∙ lowest_set) (at_none (bit m) v (λ k h t. let y = lowest-under k t in omega arith))

    pub not-lowest : (v ≡ l → ⊥) → (bit m v && none_below (bit m) v) ≡ false
    not-lowest q =
        is-not (bit m v && none_below (bit m) v) (λ t.
        let a = and-true (bit m v) (none_below (bit m) v) t in
        let b = lowest-under v a.0 in
        none-at (bit m) v a.1 l (omega arith) lowest_set)

-- ---- what is held

-- the bits of m are the nodes that are due
pub record Held (g : List Node) (es : List Entry) (m : ℕ) : Type 0 where
  pub bits : (n : ℕ) → bit m n ≡ due g es n
  pub over : Above g es
  pub inside : (n : ℕ) → due g es n ≡ true → n < length g

pub held_none : (g : List Node) → 0 < length g → Held g [] 1
unfolding due reached has
held_none g h =
    record {
      bits = λ n. pow-bit 0 n ∙ right (eqb n 0);
      over = above-none g;
      inside = λ n t. let z = eqb-true n 0 (and-true (eqb n 0) true t).0 in omega arith;
    }
  where
    right : (b : Bool) → b ≡ b && not false
    right true = refl
    right false = refl

due-make : (g : List Node) (es : List Entry) (e : Entry) (k : ℕ) → Reaches g e k ⊎ (reached g es k ≡ true) → (k ≡ e.node → ⊥) → (has es k ≡ true → ⊥)
    → due g (e ∷ es) k ≡ true
unfolding reached has
due-make g es e k h a b = reached-due g (e ∷ es) k (go h) (λ t. free (or-true (eqb e.node k) (has es k) t))
  where
    go : Reaches g e k ⊎ (reached g es k ≡ true) → elem k (reaches (node_at g e.node) e.choice) || reached g es k ≡ true
    go (inl t) = or_left (elem k (reaches (node_at g e.node) e.choice)) (reached g es k) t
    go (inr t) = or_right (elem k (reaches (node_at g e.node) e.choice)) (reached g es k) t

    free : (eqb e.node k ≡ true) ⊎ (has es k ≡ true) → ⊥
    free (inl t) = a (sym (eqb-true e.node k t))
    free (inr t) = b t

module _ (g : List Node) (sound : Sound g) (es : List Entry) (e : Entry) (m : ℕ) where
  pub held_more : Held g es m → lowest_due g es e.node ≡ true → right_choice (node_at g e.node) e.choice ≡ true → Held g (e ∷ es) (due_after g m e)
  unfolding due_after
  held_more h l r =
      record {
        bits = λ k. all-bit k (elem k) refl (λ x xs. refl) (turned m n) ls (λ x t. let z = (reach x (mem-elem t)).1 in let y = sound.few in omega arith)
            ∙ ap (λ (z : Bool). z || elem k ls) (turned_bit m n k (let z = h.inside n d in let y = sound.few in omega arith))
            ∙ alike (cond (eqb k n) (not (bit m k)) (bit m k) || elem k ls) (due g (e ∷ es) k) (λ t. to k t) (λ t. from k (due-cases g es e k t));
        over = above_more g sound es e l r h.over;
        inside = λ k t. in_g k (due-cases g es e k t);
      }
    where
      n : ℕ
      n = e.node

      ls : List ℕ
      ls = reaches (node_at g e.node) e.choice

      d : due g es e.node ≡ true
      d = lowest-due g es e.node l

      reach : (k : ℕ) → Reaches g e k → (e.node < k) × (k < length g)
      reach k t = reaches-in g sound e r k t

      to : (k : ℕ) → cond (eqb k n) (not (bit m k)) (bit m k) || elem k ls ≡ true → due g (e ∷ es) k ≡ true
      to k t = go (or-true (cond (eqb k n) (not (bit m k)) (bit m k)) (elem k ls) t)
        where
          by : (b : Bool) → eqb k n ≡ b → cond b (not (bit m k)) (bit m k) ≡ true → due g (e ∷ es) k ≡ true
          by true q u = absurd (not_yes (bit m k) u (h.bits k ∙ ap (due g es) (eqb-true k n q) ∙ d))
          by false q u =
              let w = sym (h.bits k) ∙ u in
              due-make g es e k (inr (due-reached g es k w)) (λ z. never (sym q ∙ eq-eqb k n z)) (due-not g es k w)

          go : (cond (eqb k n) (not (bit m k)) (bit m k) ≡ true) ⊎ (elem k ls ≡ true) → due g (e ∷ es) k ≡ true
          go (inl u) = by (eqb k n) refl u
          go (inr u) =
              let z = (reach k u).0 in
              due-make g es e k (inl u) (λ y. omega arith) (λ y. let x = h.over.above k e.node y d in omega arith)

      from : (k : ℕ) → ((due g es k ≡ true) × (k ≡ e.node → ⊥)) ⊎ Reaches g e k → cond (eqb k n) (not (bit m k)) (bit m k) || elem k ls ≡ true
      from k (inl w) =
          or_left (cond (eqb k n) (not (bit m k)) (bit m k)) (elem k ls)
          (ap (λ (b : Bool). cond b (not (bit m k)) (bit m k)) (ne_eqb k n w.1) ∙ h.bits k ∙ w.0)
      from k (inr w) = or_right (cond (eqb k n) (not (bit m k)) (bit m k)) (elem k ls) w

      in_g : (k : ℕ) → ((due g es k ≡ true) × (k ≡ e.node → ⊥)) ⊎ Reaches g e k → k < length g
      in_g k (inl w) = h.inside k w.0
      in_g k (inr w) = (reach k w).1

module _ (g : List Node) (es : List Entry) (m : ℕ) (h : Held g es m) where
  pub held-within : Within m (length g)
  held-within = record { within = λ n t. h.inside n (sym (h.bits n) ∙ t) }

  -- the entry that the bits ask for is the one that the definition asks for
  pub held-entry : (s : List ℕ) (p : ℕ) → entry_where s g (bit m) p ≡ entry s g es p
  unfolding entry_where entry lowest_due
  held-entry s p = ap (λ (f : ℕ → Bool). entry_where s g f p) (λ i n. h.bits n i)

  pub held-end : m ≡ 0 → none_below (due g es) (length g) ≡ true
  held-end z = at_none (due g es) (length g) (λ k y d. never (sym (ap (λ (x : ℕ). bit x k) z ∙ no-bit k) ∙ h.bits k ∙ d))

  pub held-left : (m ≡ 0 → ⊥) → m < 2 ^ 64 → none_below (due g es) (length g) ≡ false
  held-left z l =
      let d : due g es (count_trailing_zeros 64 m) ≡ true = sym (h.bits (count_trailing_zeros 64 m)) ∙ tz-bit 64 m (omega arith) l in
      is-not (none_below (due g es) (length g)) (λ t. none-at (due g es) (length g) t (count_trailing_zeros 64 m) (h.inside (count_trailing_zeros 64 m) d) d)
