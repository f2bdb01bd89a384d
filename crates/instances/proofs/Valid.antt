-- The entries that may be read in turn are exactly the instances: `Follows` says the first, node by node.
-- Rests on the definitions of specs/, and on a sound schema, whose successors lie above their node and below the count.
use mathlib.Core.Path.{◌≡◌, refl, ap, sym, ◌∙◌, subst}
use mathlib.Core.Logic.{◌⊎◌, inl, inr}
use mathlib.Core.Bool.{Bool, true, false, cond, ◌||◌, not}
use mathlib.Core.List.{List, [], ◌∷◌, Memᴰ}
use Prim.Native.Nat.{ℕ, zero, suc, ◌≤◌, ◌<◌}
use native.Mathlib.Omega.{arith}
use native.Mathlib.Nat.{not-suc-le-zero}
use native.Mathlib.Decide.{dec_lt}
use borrow.Author.Tests.{eq-eqb, eqb-true}
use lib.Dec.{eqb}
use lib.ListN.{length, get_or}
use Rattle.fields.proofs.Tests.{and-true, or-true, or_left, or_right, never, not_yes, not-not}
use Rattle.schema.specs.Schema.{Node, no_node, node_at}
use Rattle.schema.proofs.Sound.{Rising, SoundVariables, Sound}
use Rattle.instances.specs.Instance.{Entry, elem, chooses, reaches, right_choice, has}
use Rattle.instances.specs.File.{reached, due, none_below, lowest_due}
use Rattle.instances.proofs.IsInstance.{Reached, root, on, RightEntry, Ascending, IsInstance}

-- the entries may follow those before them
pub data Follows (g : List Node) : List Entry → List Entry → Type 0 where
  none_left : {es : List Entry} → none_below (due g es) (length g) ≡ true → Follows g es []
  and_then : {es : List Entry} (e : Entry) {rest : List Entry} → lowest_due g es e.node ≡ true → RightEntry g e → Follows g (e ∷ es) rest
      → Follows g es (e ∷ rest)

-- ---- a sound schema's successors and variables

module _ (g : List Node) (sound : Sound g) where
  rising-elem : {own count : ℕ} (xs : List ℕ) → Rising own count xs → (s : ℕ) → elem s xs ≡ true → (own < s) × (s < count)
  rising-elem [] r s t = never t
  rising-elem {own} {count} (x ∷ xs) r s t = go (rising-elem xs r.2 s) (or-true (eqb s x) (elem s xs) t)
    where
      go : (elem s xs ≡ true → (x < s) × (s < count)) → (eqb s x ≡ true) ⊎ (elem s xs ≡ true) → (own < s) × (s < count)
      go ih (inl q) = let z = eqb-true s x q in let a = r.0 in let b = r.1 in (omega arith, omega arith)
      go ih (inr q) = let w = ih q in let a = r.0 in let b = w.0 in (omega arith, w.1)

  beyond : (xs : List Node) (n : ℕ) → length xs ≤ n → get_or xs n no_node ≡ no_node
  beyond [] n h = refl
  beyond (x ∷ xs) zero h = absurd (omega arith)
  beyond (x ∷ xs) (suc n) h = beyond xs n (omega arith)

  pub successor-in : (n s : ℕ) → elem s (node_at g n).successors ≡ true → (n < s) × (s < length g)
  successor-in n s t = go (dec_lt n (length g))
    where
      go : Dec (n < length g) → (n < s) × (s < length g)
      go (yes h) = rising-elem (node_at g n).successors (sound.nodes n h).rising s t
      go (no h) = never (subst (λ (x : Node). elem s x.successors ≡ true) (beyond g n (omega arith)) t)

  pub sound-variables : (n : ℕ) → SoundVariables (node_at g n).variables
  sound-variables n = go (dec_lt n (length g))
    where
      go : Dec (n < length g) → SoundVariables (node_at g n).variables
      go (yes h) = (sound.nodes n h).variables
      go (no h) = subst (λ (x : Node). SoundVariables x.variables) (sym (beyond g n (omega arith))) tt

  pub few-variables : (n : ℕ) → length (node_at g n).variables ≤ 4
  few-variables n = go (dec_lt n (length g))
    where
      go : Dec (n < length g) → length (node_at g n).variables ≤ 4
      go (yes h) = (sound.nodes n h).few-variables
      go (no h) = subst (λ (x : Node). length x.variables ≤ 4) (sym (beyond g n (omega arith))) (omega arith)

-- a right choice reaches successors only
pub reaches-successors : (x : Node) (c n : ℕ) → right_choice x c ≡ true → elem n (reaches x c) ≡ true → elem n x.successors ≡ true
unfolding reaches right_choice
reaches-successors x c n r t = go (chooses x) r t
  where
    go : (b : Bool) → cond b (elem c x.successors) (eqb c 255) ≡ true → elem n (cond b (c ∷ []) x.successors) ≡ true → elem n x.successors ≡ true
    go false r t = t
    go true r t = one (or-true (eqb n c) false t)
      where
        one : (eqb n c ≡ true) ⊎ (false ≡ true) → elem n x.successors ≡ true
        one (inl q) = ap (λ (k : ℕ). elem k x.successors) (eqb-true n c q) ∙ r
        one (inr q) = never q

-- ---- nothing below k passes

pub none-at : (f : ℕ → Bool) (k : ℕ) → none_below f k ≡ true → (n : ℕ) → n < k → f n ≡ true → ⊥
unfolding none_below
none-at f zero e n h t = not-suc-le-zero h
none-at f (suc k) e n h t = go (λ w y. none-at f k w n y t) (and-true (not (f k)) (none_below f k) e) (dec_lt n k)
  where
    go : (none_below f k ≡ true → n < k → ⊥) → (not (f k) ≡ true) × (none_below f k ≡ true) → Dec (n < k) → ⊥
    go ih w (yes y) = ih w.1 y
    go ih w (no y) = let i : n ≡ k = omega arith in not_yes (f k) w.0 (ap f (sym i) ∙ t)

pub at_none : (f : ℕ → Bool) (k : ℕ) → ((n : ℕ) → n < k → f n ≡ true → ⊥) → none_below f k ≡ true
unfolding none_below
at_none f zero h = refl
at_none f (suc k) h = rw (not-not (f k) (h k (omega arith))) (at_none f k (λ n l. h n (omega arith)))

-- ---- a list of nodes

pub mem-elem : {x : ℕ} {l : List ℕ} → Memᴰ x l → elem x l ≡ true
mem-elem {x} (Memᴰ.head {x = y} {xs = ys} e) = or_left (eqb x y) (elem x ys) (eq-eqb x y e)
mem-elem {x} (Memᴰ.tail {x = y} {xs = ys} m) = or_right (eqb x y) (elem x ys) (mem-elem m)

pub elem_mem : (x : ℕ) (l : List ℕ) → elem x l ≡ true → Memᴰ x l
elem_mem x [] t = never t
elem_mem x (y ∷ ys) t = go (elem_mem x ys) (or-true (eqb x y) (elem x ys) t)
  where
    go : (elem x ys ≡ true → Memᴰ x ys) → (eqb x y ≡ true) ⊎ (elem x ys ≡ true) → Memᴰ x (y ∷ ys)
    go ih (inl e) = Memᴰ.head (eqb-true x y e)
    go ih (inr e) = Memᴰ.tail (ih e)

-- ---- entries and their nodes

pub mem-has : {e : Entry} {es : List Entry} → Memᴰ e es → has es e.node ≡ true
unfolding has
mem-has {e} (Memᴰ.head {x = x} {xs = xs} h) = or_left (eqb x.node e.node) (has xs e.node) (eq-eqb x.node e.node (ap (λ (d : Entry). d.node) (sym h)))
mem-has {e} (Memᴰ.tail {x = x} {xs = xs} m) = or_right (eqb x.node e.node) (has xs e.node) (mem-has m)

pub mem-none : {A : Type 0} {e : Entry} → Memᴰ e [] → A
unfolding has
mem-none m = never (mem-has m)

pub has-mem : (es : List Entry) (n : ℕ) → has es n ≡ true → (e : Entry) × Memᴰ e es × (e.node ≡ n)
unfolding has
has-mem [] n t = never t
has-mem (e ∷ es) n t = go (has-mem es n) (or-true (eqb e.node n) (has es n) t)
  where
    go : (has es n ≡ true → (d : Entry) × Memᴰ d es × (d.node ≡ n)) → (eqb e.node n ≡ true) ⊎ (has es n ≡ true) → (d : Entry) × Memᴰ d (e ∷ es) × (d.node ≡ n)
    go ih (inl q) = (e, Memᴰ.head refl, eqb-true e.node n q)
    go ih (inr q) = let r = ih q in (r.0, Memᴰ.tail r.1, r.2)

-- ---- what entries reach, and what is due after them

module _ (g : List Node) where
  abbrev pub Reaches : Entry → ℕ → Type 0
  Reaches e n = elem n (reaches (node_at g e.node) e.choice) ≡ true

  pub reached-root : (es : List Entry) → reached g es 0 ≡ true
  unfolding reached
  reached-root [] = refl
  reached-root (e ∷ es) = or_right (elem 0 (reaches (node_at g e.node) e.choice)) (reached g es 0) (reached-root es)

  pub reached-by : {e : Entry} {es : List Entry} (n : ℕ) → Memᴰ e es → Reaches e n → reached g es n ≡ true
  unfolding reached
  reached-by {e} n (Memᴰ.head {x = x} {xs = xs} h) t =
      or_left (elem n (reaches (node_at g x.node) x.choice)) (reached g xs n) (subst (λ (d : Entry). Reaches d n) h t)
  reached-by {e} n (Memᴰ.tail {x = x} {xs = xs} m) t = or_right (elem n (reaches (node_at g x.node) x.choice)) (reached g xs n) (reached-by n m t)

  -- the root, or reached by one of them
  abbrev pub ReachedBy : List Entry → ℕ → Type 0
  ReachedBy es n = (n ≡ 0) ⊎ ((e : Entry) × Memᴰ e es × Reaches e n)

  pub reached-cases : (es : List Entry) (n : ℕ) → reached g es n ≡ true → ReachedBy es n
  unfolding reached
  reached-cases [] n t = inl (eqb-true n 0 t)
  reached-cases (e ∷ es) n t = go (reached-cases es n) (or-true (elem n (reaches (node_at g e.node) e.choice)) (reached g es n) t)
    where
      more : ReachedBy es n → ReachedBy (e ∷ es) n
      more (inl z) = inl z
      more (inr w) = inr (w.0, Memᴰ.tail w.1, w.2)

      go : (reached g es n ≡ true → ReachedBy es n) → Reaches e n ⊎ (reached g es n ≡ true) → ReachedBy (e ∷ es) n
      go ih (inl q) = inr (e, Memᴰ.head refl, q)
      go ih (inr q) = more (ih q)

  pub due-reached : (es : List Entry) (n : ℕ) → due g es n ≡ true → reached g es n ≡ true
  unfolding due
  due-reached es n t = (and-true (reached g es n) (not (has es n)) t).0

  pub due-not : (es : List Entry) (n : ℕ) → due g es n ≡ true → has es n ≡ true → ⊥
  unfolding due
  due-not es n t = not_yes (has es n) (and-true (reached g es n) (not (has es n)) t).1

  pub reached-due : (es : List Entry) (n : ℕ) → reached g es n ≡ true → (has es n ≡ true → ⊥) → due g es n ≡ true
  unfolding due
  reached-due es n t f = rw t (not-not (has es n) f)

  pub lowest-due : (es : List Entry) (n : ℕ) → lowest_due g es n ≡ true → due g es n ≡ true
  unfolding lowest_due
  lowest-due es n t = (and-true (due g es n) (none_below (due g es) n) t).0

  pub lowest-least : (es : List Entry) (n : ℕ) → lowest_due g es n ≡ true → (k : ℕ) → due g es k ≡ true → n ≤ k
  unfolding lowest_due
  lowest-least es n t k d = go (dec_lt k n)
    where
      go : Dec (k < n) → n ≤ k
      go (yes y) = absurd (none-at (due g es) n (and-true (due g es n) (none_below (due g es) n) t).1 k y d)
      go (no y) = omega arith

  pub due-lowest : (es : List Entry) (n : ℕ) → due g es n ≡ true → ((k : ℕ) → due g es k ≡ true → n ≤ k) → lowest_due g es n ≡ true
  unfolding lowest_due
  due-lowest es n d h = rw d (at_none (due g es) n (λ k l t. let z = h k t in omega arith))

  -- after one entry more a node is due that was due before and is not its own, or that it reaches
  pub due-cases : (es : List Entry) (e : Entry) (n : ℕ) → due g (e ∷ es) n ≡ true → ((due g es n ≡ true) × (n ≡ e.node → ⊥)) ⊎ Reaches e n
  unfolding reached has
  due-cases es e n d = go (or-true (elem n (reaches (node_at g e.node) e.choice)) (reached g es n) (due-reached (e ∷ es) n d))
    where
      free : (eqb e.node n || has es n ≡ true) → ⊥
      free t = due-not (e ∷ es) n d t

      go : Reaches e n ⊎ (reached g es n ≡ true) → ((due g es n ≡ true) × (n ≡ e.node → ⊥)) ⊎ Reaches e n
      go (inl t) = inr t
      go (inr t) = inl (reached-due es n t (λ h. free (or_right (eqb e.node n) (has es n) h)), λ h. free (or_left (eqb e.node n) (has es n) (eq-eqb e.node n (sym h))))

-- ---- what is read in turn is an instance

-- every node with an entry is below every node that is due
pub record Above (g : List Node) (es : List Entry) : Type 0 where
  pub above : (k n : ℕ) → has es k ≡ true → due g es n ≡ true → k < n

pub above-none : (g : List Node) → Above g []
unfolding has
above-none g = record { above = λ k n t d. never t }

module _ (g : List Node) (sound : Sound g) where
  pub reaches-in : (e : Entry) → right_choice (node_at g e.node) e.choice ≡ true → (n : ℕ) → Reaches g e n → (e.node < n) × (n < length g)
  reaches-in e r n t = successor-in g sound e.node n (reaches-successors (node_at g e.node) e.choice n r t)

  pub above_more : (es : List Entry) (e : Entry) → lowest_due g es e.node ≡ true → right_choice (node_at g e.node) e.choice ≡ true → Above g es
      → Above g (e ∷ es)
  unfolding has
  above_more es e l r a = record { above = λ k n t d. go k n (or-true (eqb e.node k) (has es k) t) (due-cases g es e n d) }
    where
      high : (n : ℕ) → ((due g es n ≡ true) × (n ≡ e.node → ⊥)) ⊎ Reaches g e n → e.node < n
      high n (inl h) = let w = lowest-least g es e.node l n h.0 in let v = h.1 in omega arith
      high n (inr h) = (reaches-in e r n h).0

      go : (k n : ℕ) → (eqb e.node k ≡ true) ⊎ (has es k ≡ true) → ((due g es n ≡ true) × (n ≡ e.node → ⊥)) ⊎ Reaches g e n → k < n
      go k n (inl t) h = let w = eqb-true e.node k t in let v = high n h in omega arith
      go k n (inr t) h = let w = a.above k e.node t (lowest-due g es e.node l) in let v = high n h in omega arith

  later : {es rest : List Entry} → Follows g es rest → Above g es → (d : Entry) → Memᴰ d rest → (k : ℕ) → has es k ≡ true → k < d.node
  unfolding has
  later (none_left {es = es} _) a d m k t = elim m [ ]
  later {es} (and_then e l c f) a d (Memᴰ.head q) k t =
      subst (λ (x : Entry). k < x.node) (sym q) (a.above k e.node t (lowest-due g es e.node l))
  later {es} (and_then e l c f) a d (Memᴰ.tail m) k t =
      later f (above_more es e l c.right-choice a) d m k (or_right (eqb e.node k) (has es k) t)

  ascending : {es rest : List Entry} → Follows g es rest → Above g es → Ascending rest
  unfolding has
  ascending (none_left t) a = tt
  ascending {es} (and_then e l c f) a =
      let b = above_more es e l c.right-choice a in
      (λ d m. later f b d m e.node (or_left (eqb e.node e.node) (has es e.node) (eq-eqb e.node e.node refl)), ascending f b)

  -- of all the entries, those of es were read before
  module _ (whole : List Entry) where
    record Before (es : List Entry) : Type 0 where
      among : (e : Entry) → Memᴰ e es → Memᴰ e whole
      reached : (e : Entry) → Memᴰ e es → Reached g whole e.node

    before-reached : (es : List Entry) → Before es → (n : ℕ) → reached g es n ≡ true → Reached g whole n
    before-reached es b n t = go (reached-cases g es n t)
      where
        go : ReachedBy g es n → Reached g whole n
        go (inl z) = subst (Reached g whole) (sym z) root
        go (inr w) = on w.0 (b.reached w.0 w.1) (b.among w.0 w.1) w.2

    before_more : (es : List Entry) (e : Entry) → Before es → lowest_due g es e.node ≡ true → Memᴰ e whole → Before (e ∷ es)
    before_more es e b l m = record { among = λ d n. go d n; reached = λ d n. far d n }
      where
        go : (d : Entry) → Memᴰ d (e ∷ es) → Memᴰ d whole
        go d (Memᴰ.head q) = subst (λ (x : Entry). Memᴰ x whole) (sym q) m
        go d (Memᴰ.tail n) = b.among d n

        far : (d : Entry) → Memᴰ d (e ∷ es) → Reached g whole d.node
        far d (Memᴰ.head q) = subst (λ (x : Entry). Reached g whole x.node) (sym q) (before-reached es b e.node (due-reached g es e.node (lowest-due g es e.node l)))
        far d (Memᴰ.tail n) = b.reached d n

    -- what there is at the end
    record Closed (rest es : List Entry) : Type 0 where
      all : List Entry
      before : Before all
      old : (d : Entry) → Memᴰ d es → Memᴰ d all
      new : (d : Entry) → Memᴰ d rest → Memᴰ d all
      none : none_below (due g all) (length g) ≡ true
      right : (d : Entry) → Memᴰ d rest → RightEntry g d

    closed : {es rest : List Entry} → Follows g es rest → Before es → ((d : Entry) → Memᴰ d rest → Memᴰ d whole) → Closed rest es
    closed {es} (none_left t) b i = record { all = es; before = b; old = λ d m. m; new = λ d m. mem-none m; none = t; right = λ d m. mem-none m }
    closed {es} (and_then e {rest} l c f) b i = go (closed f (before_more es e b l (i e (Memᴰ.head refl))) (λ d m. i d (Memᴰ.tail m)))
      where
        go : Closed rest (e ∷ es) → Closed (e ∷ rest) es
        go k =
            record {
              all = k.all;
              before = k.before;
              old = λ d m. k.old d (Memᴰ.tail m);
              new = λ d m. this d m;
              none = k.none;
              right = λ d m. fine d m;
            }
          where
            this : (d : Entry) → Memᴰ d (e ∷ rest) → Memᴰ d k.all
            this d (Memᴰ.head q) = k.old d (Memᴰ.head q)
            this d (Memᴰ.tail m) = k.new d m

            fine : (d : Entry) → Memᴰ d (e ∷ rest) → RightEntry g d
            fine d (Memᴰ.head q) = subst (RightEntry g) (sym q) c
            fine d (Memᴰ.tail m) = k.right d m

  pub follows_is : (i : List Entry) → Follows g [] i → IsInstance g i
  follows_is i f =
      record {
        every = λ n r. go n r;
        only = λ e m. c.before.reached e (c.new e m);
        ascending = ascending f (above-none g);
        right = c.right;
      }
    where
      c : Closed i i []
      c = closed i f (record { among = λ e m. mem-none m; reached = λ e m. mem-none m }) (λ d m. m)

      within : (n : ℕ) → reached g c.all n ≡ true → n < length g → has i n ≡ true
      within n t l = there (has c.all n) refl
        where
          there : (b : Bool) → has c.all n ≡ b → has i n ≡ true
          there true h = let w = has-mem c.all n h in subst (λ (k : ℕ). has i k ≡ true) w.2 (mem-has (c.before.among w.0 w.1))
          there false h = absurd (none-at (due g c.all) (length g) c.none n l (reached-due g c.all n t (λ z. never (sym h ∙ z))))

      go : (n : ℕ) → Reached g i n → has i n ≡ true
      go n root = within 0 (reached-root g c.all) sound.some
      go n (on e r m t) = within n (reached-by g n (c.new e m) t) (reaches-in e (c.right e m).right-choice n t).1

  -- ---- an instance can be read in turn

  module _ (whole : List Entry) (ok : IsInstance g whole) where
    record Split (es rest : List Entry) : Type 0 where
      early : (e : Entry) → Memᴰ e es → Memᴰ e whole
      late : (e : Entry) → Memᴰ e rest → Memᴰ e whole
      each : (e : Entry) → Memᴰ e whole → Memᴰ e es ⊎ Memᴰ e rest
      apart : (d e : Entry) → Memᴰ d es → Memᴰ e rest → d.node < e.node
      rising : Ascending rest

    reached_then : {es rest : List Entry} → Split es rest → (n : ℕ) → reached g es n ≡ true → has whole n ≡ true
    reached_then {es} w n t = go (reached-cases g es n t)
      where
        go : ReachedBy g es n → has whole n ≡ true
        go (inl z) = ok.every n (subst (Reached g whole) (sym z) root)
        go (inr q) = ok.every n (on q.0 (ok.only q.0 (w.early q.0 q.1)) (w.early q.0 q.1) q.2)

    -- a reached node that no later entry is below was reached by the earlier ones
    then-reached : {es rest : List Entry} → Split es rest → (n : ℕ) → ((e : Entry) → Memᴰ e rest → n ≤ e.node) → Reached g whole n → reached g es n ≡ true
    then-reached {es} w n h root = reached-root g es
    then-reached {es} {rest} w n h (on e r m t) = go (w.each e m)
      where
        go : Memᴰ e es ⊎ Memᴰ e rest → reached g es n ≡ true
        go (inl k) = reached-by g n k t
        go (inr k) = absurd (let a = h e k in let b = (reaches-in e (ok.right e m).right-choice n t).0 in omega arith)

    -- a node that is due is among those to come
    to-come : {es rest : List Entry} → Split es rest → (n : ℕ) → due g es n ≡ true → (e : Entry) × Memᴰ e rest × (e.node ≡ n)
    to-come {es} {rest} w n d =
        let q = has-mem whole n (reached_then w n (due-reached g es n d)) in
        go q.0 q.2 (w.each q.0 q.1)
      where
        go : (e : Entry) → e.node ≡ n → Memᴰ e es ⊎ Memᴰ e rest → (e : Entry) × Memᴰ e rest × (e.node ≡ n)
        go e z (inl k) = absurd (due-not g es n d (subst (λ (k : ℕ). has es k ≡ true) z (mem-has k)))
        go e z (inr k) = (e, k, z)

    first-least : (e : Entry) (rest : List Entry) → Ascending (e ∷ rest) → (d : Entry) → Memᴰ d (e ∷ rest) → e.node ≤ d.node
    first-least e rest a d (Memᴰ.head q) = let z = ap (λ (x : Entry). x.node) q in omega arith
    first-least e rest a d (Memᴰ.tail m) = let z = a.0 d m in omega arith

    split-lowest : (es rest : List Entry) (e : Entry) → Split es (e ∷ rest) → lowest_due g es e.node ≡ true
    split-lowest es rest e w = due-lowest g es e.node (reached-due g es e.node l n) (λ k d. least k (to-come w k d))
      where
        l : reached g es e.node ≡ true
        l = then-reached w e.node (first-least e rest w.rising) (ok.only e (w.late e (Memᴰ.head refl)))

        n : has es e.node ≡ true → ⊥
        n h =
            let q = has-mem es e.node h in
            let a = w.apart q.0 e q.1 (Memᴰ.head refl) in
            let z = q.2 in omega arith

        least : (k : ℕ) → (d : Entry) × Memᴰ d (e ∷ rest) × (d.node ≡ k) → e.node ≤ k
        least k q = let a = first-least e rest w.rising q.0 q.1 in let z = q.2 in omega arith

    split-more : (es rest : List Entry) (e : Entry) → Split es (e ∷ rest) → Split (e ∷ es) rest
    split-more es rest e w =
        record {
          early = λ d m. a d m;
          late = λ d m. w.late d (Memᴰ.tail m);
          each = λ d m. b d (w.each d m);
          apart = λ c d m n. far c d m n;
          rising = w.rising.1;
        }
      where
        a : (d : Entry) → Memᴰ d (e ∷ es) → Memᴰ d whole
        a d (Memᴰ.head q) = subst (λ (x : Entry). Memᴰ x whole) (sym q) (w.late e (Memᴰ.head refl))
        a d (Memᴰ.tail m) = w.early d m

        b : (d : Entry) → Memᴰ d es ⊎ Memᴰ d (e ∷ rest) → Memᴰ d (e ∷ es) ⊎ Memᴰ d rest
        b d (inl m) = inl (Memᴰ.tail m)
        b d (inr (Memᴰ.head q)) = inl (Memᴰ.head q)
        b d (inr (Memᴰ.tail m)) = inr m

        far : (c d : Entry) → Memᴰ c (e ∷ es) → Memᴰ d rest → c.node < d.node
        far c d (Memᴰ.head q) n = let z = w.rising.0 d n in let y = ap (λ (x : Entry). x.node) q in omega arith
        far c d (Memᴰ.tail m) n = w.apart c d m (Memᴰ.tail n)

    split-follows : (es rest : List Entry) → Split es rest → Follows g es rest
    split-follows es [] w = none_left (at_none (due g es) (length g) (λ k h d. mem-none (to-come w k d).1))
    split-follows es (e ∷ rest) w =
        and_then e (split-lowest es rest e w) (ok.right e (w.late e (Memᴰ.head refl))) (split-follows (e ∷ es) rest (split-more es rest e w))

    pub is-follows : Follows g [] whole
    is-follows =
        split-follows [] whole
        (record {
          early = λ e m. mem-none m;
          late = λ e m. m;
          each = λ e m. inr m;
          apart = λ d e m n. mem-none m;
          rising = ok.ascending;
        })
