-- 'At least as good': transitive, reflexive, both ways exactly where the choices are the same; its test agrees with it.
-- Rests on instances of a sound schema and a strict order of successors; nothing here asks for a total one.
use mathlib.Core.Path.{◌≡◌, refl, sym, subst, ap, ◌∙◌}
use mathlib.Core.Logic.{◌⊎◌, inl, inr, ◌↔◌}
use mathlib.Core.List.{List, [], ◌∷◌}
use mathlib.Core.Bool.{Bool, true, false, cond, ◌&&◌, ◌||◌}
use Prim.Native.Nat.{ℕ, zero, suc, ◌<◌}
use native.Mathlib.Omega.{arith}
use borrow.Author.Tests.{eqb-true, eq-eqb, lt-ltb}
use lib.Dec.{eqb, ltb}
use lib.ListN.{length}
use Rattle.fields.proofs.Tests.{and_yes, and-true, or-true, or_left, or_right, never, alike}
use Rattle.schema.specs.Schema.{Node, node_at}
use Rattle.schema.proofs.Sound.{Sound}
use Rattle.instances.specs.Instance.{Entry, elem, chooses, reaches, has}
use Rattle.instances.proofs.IsInstance.{Reached, root, on, IsInstance}
use Rattle.instances.proofs.Valid.{successor-in}
use Rattle.instances.proofs.RoundTrip.{reached-below}
use Rattle.model.specs.Satisfaction.{every}
use Rattle.model.specs.Order.{choice_of, choice_at, good_choice, good_at, good_step, good}
use Rattle.model.proofs.Lawful.{Strict}
use Rattle.model.proofs.Relations.{AtLeast, at_leaf, at_all, at_same, at-better, SameChoices}
use Rattle.model.proofs.Lists.{elem-one, every-at, at_every, every-same}
use Rattle.model.proofs.Levels.{descend, within_step, by-table}
use Rattle.model.proofs.Entries.{mem-entry, no-entry, has-reached, spread, no-choice, picks, picked}

-- ---- kinds of node

all-rests : (x : Node) → x.kind ≡ 0 → chooses x ≡ false
unfolding chooses
all-rests x k = rw k refl

leaf-rests : (x : Node) → x.kind ≡ 1 → x.successors ≡ [] → chooses x ≡ false
unfolding chooses
leaf-rests x k e = rw (k, e) refl

module _ (g : List Node) (better : ℕ → ℕ → ℕ → Bool) where
  -- ---- what it says at a node that chooses, and at one that does not

  -- the choices are equal and it is so there, or i's is better
  abbrev ByChoice : List Entry → List Entry → ℕ → Type 0
  ByChoice i j n = ((choice_at i n ≡ choice_at j n) × AtLeast g better i j (choice_at i n)) ⊎ (better n (choice_at i n) (choice_at j n) ≡ true)

  by-choice : {i j : List Entry} {n : ℕ} → chooses (node_at g n) ≡ true → AtLeast g better i j n → ByChoice i j n
  by-choice {n = n} w (at_leaf k e) = never (sym (leaf-rests (node_at g n) k e) ∙ w)
  by-choice {n = n} w (at_all k f) = never (sym (all-rests (node_at g n) k) ∙ w)
  by-choice w (at_same v e a) = inl (e, a)
  by-choice w (at-better v t) = inr t

  choice-by : {i j : List Entry} {n : ℕ} → chooses (node_at g n) ≡ true → ByChoice i j n → AtLeast g better i j n
  choice-by w (inl h) = at_same w h.0 h.1
  choice-by w (inr h) = at-better w h

  at-successor : {i j : List Entry} {n : ℕ} → chooses (node_at g n) ≡ false → AtLeast g better i j n → (s : ℕ) → elem s (node_at g n).successors ≡ true → AtLeast g better i j s
  at-successor w (at_leaf k e) s m = never (sym (ap (elem s) e) ∙ m)
  at-successor w (at_all k f) s m = f s m
  at-successor w (at_same v e a) s m = never (sym w ∙ v)
  at-successor w (at-better v t) s m = never (sym w ∙ v)

  pub at_rest : Sound g → {i j : List Entry} {n : ℕ} → n < length g → chooses (node_at g n) ≡ false
      → ((s : ℕ) → elem s (node_at g n).successors ≡ true → AtLeast g better i j s) → AtLeast g better i j n
  unfolding chooses
  at_rest A {i} {j} {n} h w f = go (node_at g n).kind refl (node_at g n).successors refl
    where
      go : (k : ℕ) → (node_at g n).kind ≡ k → (l : List ℕ) → (node_at g n).successors ≡ l → AtLeast g better i j n
      go zero p l q = at_all p f
      go (suc zero) p [] q = at_leaf p q
      go (suc zero) p (x ∷ l) q =
          let v : eqb (node_at g n).kind 1 && ltb 0 (length (node_at g n).successors) ≡ true = rw (p, q) (lt-ltb 0 (length (x ∷ l)) (omega arith)) in never (sym w ∙ v)
      go (suc (suc k)) p l q = absurd (let z = (A.nodes n h).kind-most in omega arith)

  -- ---- transitive

  module _ (O : (n : ℕ) → Strict (better n)) where
    pub as-good-trans : {i j k : List Entry} {n : ℕ} → AtLeast g better i j n → AtLeast g better j k n → AtLeast g better i k n
    as-good-trans (at_leaf k e) b = at_leaf k e
    as-good-trans {n = n} (at_all k f) b = at_all k (λ s m. as-good-trans (f s m) (at-successor (all-rests (node_at g n) k) b s m))
    as-good-trans {i} {j} {k} (at_same {n = n} w e a) b = go (λ c. as-good-trans a c) (by-choice w b)
      where
        go : (AtLeast g better j k (choice_at i n) → AtLeast g better i k (choice_at i n)) → ByChoice j k n → AtLeast g better i k n
        go ih (inl h) = at_same w (e ∙ h.0) (ih (rw e h.1))
        go ih (inr t) = at-better w (rw e t)
    as-good-trans {i} {j} {k} (at-better {n = n} w t) b = go (by-choice w b)
      where
        go : ByChoice j k n → AtLeast g better i k n
        go (inl h) = at-better w (rw h.0 at t)
        go (inr u) = at-better w ((O n).trans _ _ _ t u)

    -- ---- both ways: at each node that the first reaches, the second is and chooses the same

    module _ (A : Sound g) (i j : List Entry) (I : IsInstance g i) (J : IsInstance g j) where
      record Both (n : ℕ) : Type 0 where
        there : Reached g j n
        up : AtLeast g better i j n
        down : AtLeast g better j i n

      both-choose : {n : ℕ} → chooses (node_at g n) ≡ true → Both n → (choice_at i n ≡ choice_at j n) × AtLeast g better i j (choice_at i n) × AtLeast g better j i (choice_at j n)
      both-choose {n} w b = go (by-choice w b.up) (by-choice w b.down)
        where
          go : ByChoice i j n → ByChoice j i n → (choice_at i n ≡ choice_at j n) × AtLeast g better i j (choice_at i n) × AtLeast g better j i (choice_at j n)
          go (inl h) (inl k) = (h.0, h.1, k.1)
          go (inl h) (inr t) = absurd ((O n).irreflexive (choice_at j n) (rw h.0 at t))
          go (inr t) (inl k) = absurd ((O n).irreflexive (choice_at i n) (rw k.0 at t))
          go (inr t) (inr u) = absurd ((O n).irreflexive _ ((O n).trans _ _ _ t u))

      both-on : (n s : ℕ) → elem s (reaches (node_at g n) (choice_at i n)) ≡ true → Both n → Both s
      unfolding reaches
      both-on n s m b = go (chooses (node_at g n)) refl m
        where
          go : (c : Bool) → chooses (node_at g n) ≡ c → elem s (cond c (choice_at i n ∷ []) (node_at g n).successors) ≡ true → Both s
          go false w v = record { there = spread g A j J b.there w s v; up = at-successor w b.up s v; down = at-successor w b.down s v }
          go true w v =
              let h = both-choose w b in
              let e : s ≡ choice_at i n = elem-one s (choice_at i n) v in
              let f : s ≡ choice_at j n = e ∙ h.0 in
              record { there = subst (Reached g j) (sym f) (picked g A j J b.there w); up = rw e h.1; down = rw f h.2 }

      both-reach : AtLeast g better i j 0 → AtLeast g better j i 0 → {n : ℕ} → Reached g i n → Both n
      both-reach a b root = record { there = root; up = a; down = b }
      both-reach a b {n} (on e r m t) =
          both-on e.node n
          (subst (λ (c : ℕ). elem n (reaches (node_at g e.node) c) ≡ true) (sym (ap choice_of (mem-entry i I.ascending m))) t) (both-reach a b r)

  -- ---- the same choices are at least as good; so the order is reflexive

  module _ (A : Sound g) (i j : List Entry) (I : IsInstance g i) where
    above : (n s : ℕ) → elem s (node_at g n).successors ≡ true → n < s
    above n s m = (successor-in g A n s m).0

    pub same-as-good : SameChoices i j → AtLeast g better i j 0
    same-as-good same = descend (length g) (Reached g i) (λ n r. reached-below g A i I r) (AtLeast g better i j) down 0 root
      where
        down : (n : ℕ) → Reached g i n → ((s : ℕ) → n < s → Reached g i s → AtLeast g better i j s) → AtLeast g better i j n
        down n r ih = go (chooses (node_at g n)) refl
          where
            go : (c : Bool) → chooses (node_at g n) ≡ c → AtLeast g better i j n
            go true w = at_same w (same.choices n) (ih (choice_at i n) (above n _ (picks g A i I r w)) (picked g A i I r w))
            go false w = at_rest A (reached-below g A i I r) w (λ s m. ih s (above n s m) (spread g A i I r w s m))

    -- ---- the test

    local : (h k : ℕ → Bool) (n : ℕ) → Reached g i n → ((s : ℕ) → n < s → Reached g i s → h s ≡ k s) → good_step g better i j h n ≡ good_step g better i j k n
    unfolding good_step good_at good_choice
    local h k n r f = go (chooses (node_at g n)) refl
      where
        choice : (ℕ → Bool) → Bool
        choice h = better n (choice_at i n) (choice_at j n) || eqb (choice_at i n) (choice_at j n) && h (choice_at i n)

        go : (c : Bool) → chooses (node_at g n) ≡ c → cond c (choice h) (every h (node_at g n).successors) ≡ cond c (choice k) (every k (node_at g n).successors)
        go true w =
            ap (λ (b : Bool). better n (choice_at i n) (choice_at j n) || eqb (choice_at i n) (choice_at j n) && b) (f (choice_at i n) (above n _ (picks g A i I r w)) (picked g A i I r w))
        go false w = every-same h k (node_at g n).successors (λ s m. f s (above n s m) (spread g A i I r w s m))

    good-step : (n : ℕ) → Reached g i n → good g better i j n ≡ good_step g better i j (good g better i j) n
    unfolding good
    good-step n r = within_step (length g) (Reached g i) (λ n r. reached-below g A i I r) (good_step g better i j) local n r

    -- for an engine: a table that is right above n gives what is right at n
    pub good-by-table : (tab : ℕ → Bool) (n : ℕ) → Reached g i n → ((s : ℕ) → n < s → Reached g i s → tab s ≡ good g better i j s) → good_step g better i j tab n ≡ good g better i j n
    unfolding good
    good-by-table tab n r f = by-table (length g) (Reached g i) (λ n r. reached-below g A i I r) (good_step g better i j) local tab n r f

    pub good-iff : {n : ℕ} → Reached g i n → (good g better i j n ≡ true) ↔ AtLeast g better i j n
    unfolding good_step good_at good_choice
    good-iff {n} r = descend (length g) (Reached g i) (λ n r. reached-below g A i I r) (λ n. (good g better i j n ≡ true) ↔ AtLeast g better i j n) down n r
      where
        down : (n : ℕ) → Reached g i n → ((s : ℕ) → n < s → Reached g i s → (good g better i j s ≡ true) ↔ AtLeast g better i j s) → (good g better i j n ≡ true) ↔ AtLeast g better i j n
        down n r ih = rw (good-step n r) (go (chooses (node_at g n)) refl)
          where
            first : Bool
            first = better n (choice_at i n) (choice_at j n)

            same : Bool
            same = eqb (choice_at i n) (choice_at j n)

            there : Bool
            there = good g better i j (choice_at i n)

            go : (c : Bool) → chooses (node_at g n) ≡ c → (cond c (first || same && there) (every (good g better i j) (node_at g n).successors) ≡ true) ↔ AtLeast g better i j n
            go true w = (λ t. choice-by w (yes-choice (or-true first (same && there) t)), λ a. choice-yes (by-choice w a))
              where
                at-choice : (there ≡ true) ↔ AtLeast g better i j (choice_at i n)
                at-choice = ih (choice_at i n) (above n _ (picks g A i I r w)) (picked g A i I r w)

                yes-choice : (first ≡ true) ⊎ (same && there ≡ true) → ByChoice i j n
                yes-choice (inl t) = inr t
                yes-choice (inr t) = let v = and-true same there t in inl (eqb-true (choice_at i n) (choice_at j n) v.0, at-choice.0 v.1)

                choice-yes : ByChoice i j n → (first || same && there) ≡ true
                choice-yes (inl h) = or_right first (same && there) (and_yes (eq-eqb (choice_at i n) (choice_at j n) h.0) (at-choice.1 h.1))
                choice-yes (inr h) = or_left first (same && there) h
            go false w = (
              λ t. at_rest A (reached-below g A i I r) w (λ s m. (ih s (above n s m) (spread g A i I r w s m)).0 (every-at (good g better i j) (node_at g n).successors t s m)),
              λ a. at_every (good g better i j) (node_at g n).successors (λ s m. (ih s (above n s m) (spread g A i I r w s m)).1 (at-successor w a s m)),
            )

  pub as-good-refl : Sound g → (i : List Entry) → IsInstance g i → AtLeast g better i i 0
  as-good-refl A i I = same-as-good A i i I (record { nodes = λ n. refl; choices = λ n. refl })

  -- ---- so it goes both ways exactly where the choices are the same

  module _ (O : (n : ℕ) → Strict (better n)) (A : Sound g) (i j : List Entry) (I : IsInstance g i) (J : IsInstance g j) where
    pub alike_same : AtLeast g better i j 0 → AtLeast g better j i 0 → SameChoices i j
    alike_same a b = record { nodes = nodes; choices = λ n. go n (has i n) refl }
      where
        nodes : (n : ℕ) → has i n ≡ has j n
        nodes n =
            alike (has i n) (has j n) (λ t. J.every n (both-reach O A i j I J a b (has-reached g A i I t)).there)
            (λ t. I.every n (both-reach O A j i J I b a (has-reached g A j J t)).there)

        choice : (n : ℕ) → Reached g i n → Both O A i j I J n → (c : Bool) → chooses (node_at g n) ≡ c → choice_at i n ≡ choice_at j n
        choice n r h true w = (both-choose O A i j I J w h).0
        choice n r h false w = no-choice g A i I r w ∙ sym (no-choice g A j J h.there w)

        go : (n : ℕ) (t : Bool) → has i n ≡ t → choice_at i n ≡ choice_at j n
        go n true t = let r = has-reached g A i I t in choice n r (both-reach O A i j I J a b r) (chooses (node_at g n)) refl
        go n false t = ap choice_of (no-entry i n t) ∙ sym (ap choice_of (no-entry j n (sym (nodes n) ∙ t)))

    pub alike-iff : (AtLeast g better i j 0 × AtLeast g better j i 0) ↔ SameChoices i j
    alike-iff = (
      λ w. alike_same w.0 w.1,
      λ s. (same-as-good A i j I s, same-as-good A j i J (record { nodes = λ n. sym (s.nodes n); choices = λ n. sym (s.choices n) })),
    )
