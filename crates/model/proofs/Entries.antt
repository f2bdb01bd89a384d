-- An instance seen by node: its entry, choice and values there, and where it reaches on from there.
-- Rests on a sound schema and on the laws of entries in instances.
use mathlib.Core.Path.{◌≡◌, refl, sym, subst, ap, ap₂, ◌∙◌}
use mathlib.Core.Logic.{◌⊎◌, inl, inr}
use mathlib.Core.List.Memᴰ
use mathlib.Core.List.{List, [], ◌∷◌, Memᴰ}
use mathlib.Core.Bool.{Bool, true, false, cond}
use mathlib.Core.Option.{Option, none, some}
use Prim.Native.Nat.{ℕ, ◌<◌}
use native.Mathlib.Omega.{arith}
use borrow.Author.Tests.{eqb-true, eq-eqb}
use lib.Dec.{eqb}
use lib.IntN.{ℤ}
use Rattle.fields.proofs.Tests.{never}
use Rattle.schema.specs.Schema.{Node, node_at}
use Rattle.schema.proofs.Sound.{Sound}
use Rattle.instances.specs.Instance.{Entry, elem, chooses, reaches, right_choice, has}
use Rattle.instances.proofs.IsInstance.{in_domains, Reached, on, Ascending, IsInstance}
use Rattle.instances.proofs.Valid.{mem-has, has-mem}
use Rattle.model.specs.Order.{entry_at, choice_of, choice_at}
use Rattle.model.proofs.Relations.{values_of, values_at}
use Rattle.model.proofs.Lists.{elem-head}

-- ---- the entry at a node

pub entry-mem : (i : List Entry) (n : ℕ) (e : Entry) → entry_at i n ≡ some e → Memᴰ e i × (e.node ≡ n)
unfolding entry_at
entry-mem [] n e q = absurd (let z : ◌≡◌ {A = ℕ} 0 1 = cc in omega arith)
entry-mem (d ∷ i) n e q = go (eqb d.node n) refl (entry-mem i n e) q
  where
    go : (b : Bool) → eqb d.node n ≡ b → (entry_at i n ≡ some e → Memᴰ e i × (e.node ≡ n)) → cond b (some d) (entry_at i n) ≡ some e → Memᴰ e (d ∷ i) × (e.node ≡ n)
    go true t ih s = let w : e ≡ d = cc in (Memᴰ.head w, ap (λ (x : Entry). x.node) w ∙ eqb-true d.node n t)
    go false t ih s = let w = ih s in (Memᴰ.tail w.0, w.1)

pub mem-entry : (i : List Entry) → Ascending i → {e : Entry} → Memᴰ e i → entry_at i e.node ≡ some e
unfolding entry_at
mem-entry [] a m = elim m [ ]
mem-entry (d ∷ i) a {e} (Memᴰ.head q) =
    subst (λ (x : Entry). cond (eqb d.node x.node) (some d) (entry_at i x.node) ≡ some x) (sym q) (rw (eq-eqb d.node d.node refl) refl)
mem-entry (d ∷ i) a {e} (Memᴰ.tail m) = go (eqb d.node e.node) refl (mem-entry i a.1 m)
  where
    go : (b : Bool) → eqb d.node e.node ≡ b → entry_at i e.node ≡ some e → cond b (some d) (entry_at i e.node) ≡ some e
    go true t q = absurd (let z = a.0 e m in let y = eqb-true d.node e.node t in omega arith)
    go false t q = q

pub entry_has : (i : List Entry) (n : ℕ) (e : Entry) → entry_at i n ≡ some e → has i n ≡ true
entry_has i n e q = let w = entry-mem i n e q in subst (λ (k : ℕ). has i k ≡ true) w.1 (mem-has w.0)

pub no-entry : (i : List Entry) (n : ℕ) → has i n ≡ false → entry_at i n ≡ none
no-entry i n t = go (entry_at i n) refl
  where
    go : (o : Option Entry) → entry_at i n ≡ o → entry_at i n ≡ none
    go none q = q
    go (some e) q = never (sym t ∙ entry_has i n e q)

-- a node has an entry, or none
pub data Found (i : List Entry) (n : ℕ) : Type 0 where
  found : (e : Entry) → Memᴰ e i → e.node ≡ n → entry_at i n ≡ some e → Found i n
  missing : has i n ≡ false → entry_at i n ≡ none → Found i n

pub lookup : (i : List Entry) → Ascending i → (n : ℕ) → Found i n
lookup i a n = go (has i n) refl
  where
    go : (b : Bool) → has i n ≡ b → Found i n
    go true t =
        let w = has-mem i n t in
        found w.0 w.1 w.2 (subst (λ (k : ℕ). entry_at i k ≡ some w.0) w.2 (mem-entry i a w.1))
    go false t = missing t (no-entry i n t)

-- two ascending lists with the same entries are equal
none-low : (i : List Entry) (n : ℕ) → ((d : Entry) → Memᴰ d i → n < d.node) → entry_at i n ≡ none
none-low i n f = go (entry_at i n) refl
  where
    go : (o : Option Entry) → entry_at i n ≡ o → entry_at i n ≡ none
    go none q = q
    go (some e) q = absurd (let w = entry-mem i n e q in let z = f e w.0 in let y = w.1 in omega arith)

pub entries-ext : (i j : List Entry) → Ascending i → Ascending j → ((n : ℕ) → entry_at i n ≡ entry_at j n) → i ≡ j
unfolding entry_at
entries-ext [] [] a b f = refl
entries-ext [] (e ∷ j) a b f =
    absurd (let w : none ≡ some e = f e.node ∙ mem-entry (e ∷ j) b (Memᴰ.head refl) in let z : ◌≡◌ {A = ℕ} 0 1 = cc in omega arith)
entries-ext (d ∷ i) [] a b f =
    absurd (let w : none ≡ some d = sym (f d.node) ∙ mem-entry (d ∷ i) a (Memᴰ.head refl) in let z : ◌≡◌ {A = ℕ} 0 1 = cc in omega arith)
entries-ext (d ∷ i) (e ∷ j) a b f = ap₂ (λ (x : Entry) (xs : List Entry). x ∷ xs) same (entries-ext i j a.1 b.1 rest)
  where
    first : (d ≡ e) ⊎ Memᴰ d j → (e ≡ d) ⊎ Memᴰ e i → d ≡ e
    first (inl q) r = q
    first (inr m) (inl r) = sym r
    first (inr m) (inr k) = absurd (let z = b.0 d m in let y = a.0 e k in omega arith)

    same : d ≡ e
    same =
        first (Memᴰ.cases_cons (entry-mem (e ∷ j) d.node d (sym (f d.node) ∙ mem-entry (d ∷ i) a (Memᴰ.head refl))).0)
        (Memᴰ.cases_cons (entry-mem (d ∷ i) e.node e (f e.node ∙ mem-entry (e ∷ j) b (Memᴰ.head refl))).0)

    rest : (n : ℕ) → entry_at i n ≡ entry_at j n
    rest n = go (eqb d.node n) refl (f n)
      where
        go : (t : Bool) → eqb d.node n ≡ t → cond (eqb d.node n) (some d) (entry_at i n) ≡ cond (eqb e.node n) (some e) (entry_at j n) → entry_at i n ≡ entry_at j n
        go true t u =
            let v : d.node ≡ n = eqb-true d.node n t in
            let w : e.node ≡ n = ap (λ (x : Entry). x.node) (sym same) ∙ v in
            none-low i n (λ x m. let z = a.0 x m in omega arith) ∙ sym (none-low j n (λ x m. let z = b.0 x m in omega arith))
        go false t u = let s : eqb e.node n ≡ false = ap (λ (x : Entry). eqb x.node n) (sym same) ∙ t in rw (t, s) at u

-- ---- an instance at the nodes that it reaches

module _ (g : List Node) (A : Sound g) (i : List Entry) (I : IsInstance g i) where
  pub has-reached : {n : ℕ} → has i n ≡ true → Reached g i n
  has-reached {n} t = let w = has-mem i n t in subst (Reached g i) w.2 (I.only w.0 w.1)

  -- what holds of each entry holds of the choice and values at each reached node
  pub at-node : (Q : ℕ → ℕ → List ℤ → Type 0) → ((e : Entry) → Memᴰ e i → Q e.node e.choice e.values)
      → {n : ℕ} → Reached g i n → Q n (choice_at i n) (values_at i n)
  at-node Q f {n} r = go (lookup i I.ascending n)
    where
      go : Found i n → Q n (choice_at i n) (values_at i n)
      go (found e m q t) =
          subst (λ (o : Option Entry). Q n (choice_of o) (values_of o)) (sym t) (subst (λ (k : ℕ). Q k e.choice e.values) q (f e m))
      go (missing q t) = never (sym q ∙ I.every n r)

  pub right-at : {n : ℕ} → Reached g i n → right_choice (node_at g n) (choice_at i n) ≡ true
  right-at r = at-node (λ n c xs. right_choice (node_at g n) c ≡ true) (λ e m. (I.right e m).right-choice) r

  pub domains-at : {n : ℕ} → Reached g i n → in_domains (node_at g n).variables (values_at i n) ≡ true
  domains-at r = at-node (λ n c xs. in_domains (node_at g n).variables xs ≡ true) (λ e m. (I.right e m).in-domains) r

  pub reach-on : {n : ℕ} (s : ℕ) → Reached g i n → elem s (reaches (node_at g n) (choice_at i n)) ≡ true → Reached g i s
  reach-on s r = at-node (λ n c xs. elem s (reaches (node_at g n) c) ≡ true → Reached g i s) (λ e m t. on e (I.only e m) m t) r

  -- where no choice is made, at every successor
  pub spread : {n : ℕ} → Reached g i n → chooses (node_at g n) ≡ false → (s : ℕ) → elem s (node_at g n).successors ≡ true → Reached g i s
  unfolding reaches
  spread r b s m = reach-on s r (rw b m)

  pub no-choice : {n : ℕ} → Reached g i n → chooses (node_at g n) ≡ false → choice_at i n ≡ 255
  unfolding right_choice
  no-choice {n} r b =
      let t : cond (chooses (node_at g n)) (elem (choice_at i n) (node_at g n).successors) (eqb (choice_at i n) 255) ≡ true = right-at r in
      eqb-true (choice_at i n) 255 (rw b at t)

  -- where one is made, at a successor
  pub picks : {n : ℕ} → Reached g i n → chooses (node_at g n) ≡ true → elem (choice_at i n) (node_at g n).successors ≡ true
  unfolding right_choice
  picks {n} r b =
      let t : cond (chooses (node_at g n)) (elem (choice_at i n) (node_at g n).successors) (eqb (choice_at i n) 255) ≡ true = right-at r in rw b at t

  pub picked : {n : ℕ} → Reached g i n → chooses (node_at g n) ≡ true → Reached g i (choice_at i n)
  unfolding reaches
  picked {n} r b = reach-on (choice_at i n) r (rw b (elem-head (choice_at i n) []))
