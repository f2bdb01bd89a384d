-- What a plan makes is an instance, if the plan is right where it leads: node by node its entries may be read in turn.
-- Rests on `Follows` of Valid.antt, and on Lengths.antt for the file's length.
use mathlib.Core.Path.{◌≡◌, refl, sym, ap, ◌∙◌, subst}
use mathlib.Core.Logic.{◌⊎◌, inl, inr}
use mathlib.Core.Bool.{Bool, true, false, cond}
use mathlib.Core.List.{List, [], ◌∷◌, Memᴰ}
use Prim.Native.Nat.{ℕ, zero, suc, ◌+◌, ◌≤◌, ◌<◌}
use native.Mathlib.Nat.{zero-add}
use native.Mathlib.Omega.{arith}
use borrow.Author.Tests.{eqb-true}
use lib.Dec.{eqb}
use lib.ListN.{length}
use Rattle.fields.proofs.Tests.{or-true, never}
use Rattle.schema.specs.Schema.{Node, node_at}
use Rattle.schema.proofs.Sound.{Sound}
use Rattle.instances.specs.Instance.{Entry, elem, reaches, right_choice, has}
use Rattle.instances.specs.File.{reached, due, lowest_due, encode, most_bytes}
use Rattle.instances.specs.Plan.{planned_from, planned}
use Rattle.instances.proofs.IsInstance.{in_domains, Reached, on, RightEntry, IsInstance}
use Rattle.instances.proofs.Lengths.{encode-length}
use Rattle.instances.proofs.Valid.{Follows, none_left, and_then, at_none, Reaches, mem-none, due-reached, reached-due, due-cases, due-lowest, reaches-in, follows_is}

-- a plan makes at most one entry for each node
pub from-few : (g : List Node) (plan : ℕ → Entry) (k n : ℕ) (es : List Entry) → length (planned_from g plan k n es) ≤ k
unfolding planned_from
from-few g plan zero n es = omega arith
from-few g plan (suc k) n es = go (reached g es n) (from-few g plan k (n + 1) (plan n ∷ es)) (from-few g plan k (n + 1) es)
  where
    go : (b : Bool) → length (planned_from g plan k (n + 1) (plan n ∷ es)) ≤ k → length (planned_from g plan k (n + 1) es) ≤ k
        → length (cond b (plan n ∷ planned_from g plan k (n + 1) (plan n ∷ es)) (planned_from g plan k (n + 1) es)) ≤ suc k
    go true h l = omega arith
    go false h l = omega arith

-- and so its file is no longer than any
pub planned-longest : (g : List Node) → Sound g → (plan : ℕ → Entry) → length (encode g (planned g plan)) ≤ most_bytes
unfolding planned
planned-longest g sound plan = encode-length g sound (planned g plan) (let z = from-few g plan (length g) 0 [] in let y = sound.few in omega arith)

-- a plan that is right for the root and wherever it leads from there
pub record Sure (g : List Node) (plan : ℕ → Entry) (Good : ℕ → Type 0) : Type 0 where
  pub own : (n : ℕ) → (plan n).node ≡ n
  pub root : Good 0
  pub choice : (n : ℕ) → Good n → right_choice (node_at g n) (plan n).choice ≡ true
  pub values : (n : ℕ) → Good n → in_domains (node_at g n).variables (plan n).values ≡ true
  pub on : (n s : ℕ) → Good n → elem s (reaches (node_at g n) (plan n).choice) ≡ true → Good s

module _ (g : List Node) (sound : Sound g) (plan : ℕ → Entry) (Good : ℕ → Type 0) (sure : Sure g plan Good) where
  -- the entries made so far are of nodes below n, no node below n is due, and what they lead to is good
  record Made (n : ℕ) (es : List Entry) : Type 0 where
    low : (j : ℕ) → has es j ≡ true → j < n
    high : (j : ℕ) → due g es j ≡ true → n ≤ j
    inside : (j : ℕ) → due g es j ≡ true → j < length g
    good : (j : ℕ) → reached g es j ≡ true → Good j

  root-good : (j : ℕ) → reached g [] j ≡ true → Good j
  unfolding reached
  root-good j t = subst Good (sym (eqb-true j 0 t)) sure.root

  made_none : Made 0 []
  unfolding has reached
  made_none =
      record {
        low = λ j t. never t;
        high = λ j t. omega arith;
        inside = λ j t. let z = eqb-true j 0 (due-reached g [] j t) in let k = sound.some in omega arith;
        good = root-good;
      }

  made-skip : (n : ℕ) (es : List Entry) → Made n es → reached g es n ≡ false → Made (n + 1) es
  made-skip n es m f =
      record {
        low = λ j t. let z = m.low j t in omega arith;
        high = λ j t. let z = m.high j t in let y = apart j t in omega arith;
        inside = m.inside;
        good = m.good;
      }
    where
      apart : (j : ℕ) → due g es j ≡ true → n ≡ j → ⊥
      apart j t e = never (sym f ∙ ap (reached g es) e ∙ due-reached g es j t)

  is-lowest : (n : ℕ) (es : List Entry) → Made n es → reached g es n ≡ true → lowest_due g es n ≡ true
  is-lowest n es m t = due-lowest g es n (reached-due g es n t (λ h. let z = m.low n h in omega arith)) m.high

  right-at : (n : ℕ) → Good n → RightEntry g (plan n)
  right-at n h =
      let e = sym (sure.own n) in
      record {
        right-choice = subst (λ (k : ℕ). right_choice (node_at g k) (plan n).choice ≡ true) e (sure.choice n h);
        in-domains = subst (λ (k : ℕ). in_domains (node_at g k).variables (plan n).values ≡ true) e (sure.values n h);
      }

  on-at : (n s : ℕ) → Good n → Reaches g (plan n) s → Good s
  on-at n s h t = sure.on n s h (subst (λ (k : ℕ). elem s (reaches (node_at g k) (plan n).choice) ≡ true) (sure.own n) t)

  made-take : (n : ℕ) (es : List Entry) → Made n es → Good n → Made (n + 1) (plan n ∷ es)
  unfolding has reached
  made-take n es m h =
      record {
        low = λ j t. low j (or-true (eqb (plan n).node j) (has es j) t);
        high = λ j t. high j (due-cases g es (plan n) j t);
        inside = λ j t. inside j (due-cases g es (plan n) j t);
        good = λ j t. good j (or-true (elem j (reaches (node_at g (plan n).node) (plan n).choice)) (reached g es j) t);
      }
    where
      low : (j : ℕ) → (eqb (plan n).node j ≡ true) ⊎ (has es j ≡ true) → j < n + 1
      low j (inl t) = let z = eqb-true (plan n).node j t in let y = sure.own n in omega arith
      low j (inr t) = let z = m.low j t in omega arith

      reach : (j : ℕ) → Reaches g (plan n) j → ((plan n).node < j) × (j < length g)
      reach j t = reaches-in g sound (plan n) (right-at n h).right-choice j t

      high : (j : ℕ) → ((due g es j ≡ true) × (j ≡ (plan n).node → ⊥)) ⊎ Reaches g (plan n) j → n + 1 ≤ j
      high j (inl w) =
          let z = m.high j w.0 in
          let y : j ≡ n → ⊥ = λ e. w.1 (e ∙ sym (sure.own n)) in omega arith
      high j (inr w) = let z = (reach j w).0 in let y = sure.own n in omega arith

      inside : (j : ℕ) → ((due g es j ≡ true) × (j ≡ (plan n).node → ⊥)) ⊎ Reaches g (plan n) j → j < length g
      inside j (inl w) = m.inside j w.0
      inside j (inr w) = (reach j w).1

      good : (j : ℕ) → Reaches g (plan n) j ⊎ (reached g es j ≡ true) → Good j
      good j (inl t) = on-at n j h t
      good j (inr t) = m.good j t

  from-follows : (k n : ℕ) (es : List Entry) → n + k ≡ length g → Made n es → Follows g es (planned_from g plan k n es)
  unfolding planned_from
  from-follows zero n es e m = none_left (at_none (due g es) (length g) (λ j h d. let z = m.high j d in omega arith))
  from-follows (suc k) n es e m =
      go (reached g es n) refl (λ t. from-follows k (n + 1) (plan n ∷ es) (omega arith) (made-take n es m (m.good n t))) (λ t. from-follows k (n + 1) es (omega arith) (made-skip n es m t))
    where
      go : (b : Bool) → reached g es n ≡ b → (reached g es n ≡ true → Follows g (plan n ∷ es) (planned_from g plan k (n + 1) (plan n ∷ es))) → (reached g es n ≡ false → Follows g es (planned_from g plan k (n + 1) es))
          → Follows g es (cond b (plan n ∷ planned_from g plan k (n + 1) (plan n ∷ es)) (planned_from g plan k (n + 1) es))
      go true t f h =
          and_then (plan n) (subst (λ (j : ℕ). lowest_due g es j ≡ true) (sym (sure.own n)) (is-lowest n es m t)) (right-at n (m.good n t)) (f t)
      go false t f h = h t

  pub planned-is : IsInstance g (planned g plan)
  unfolding planned
  planned-is = follows_is g sound (planned g plan) (from-follows (length g) 0 [] (zero-add (length g)) made_none)

  -- each entry is the plan's own
  from-mem : (k n : ℕ) (es : List Entry) (e : Entry) → Memᴰ e (planned_from g plan k n es) → e ≡ plan e.node
  unfolding planned_from
  from-mem zero n es e m = mem-none m
  from-mem (suc k) n es e m = go (reached g es n) (from-mem k (n + 1) (plan n ∷ es) e) (from-mem k (n + 1) es e) m
    where
      go : (b : Bool) → (Memᴰ e (planned_from g plan k (n + 1) (plan n ∷ es)) → e ≡ plan e.node) → (Memᴰ e (planned_from g plan k (n + 1) es) → e ≡ plan e.node)
          → Memᴰ e (cond b (plan n ∷ planned_from g plan k (n + 1) (plan n ∷ es)) (planned_from g plan k (n + 1) es)) → e ≡ plan e.node
      go true f h (Memᴰ.head q) = q ∙ ap plan (sym (ap (λ (x : Entry). x.node) q ∙ sure.own n))
      go true f h (Memᴰ.tail v) = f v
      go false f h v = h v

  planned-mem : (e : Entry) → Memᴰ e (planned g plan) → e ≡ plan e.node
  unfolding planned
  planned-mem e m = from-mem (length g) 0 [] e m

  -- what it reaches is good
  pub planned-good : {n : ℕ} → Reached g (planned g plan) n → Good n
  planned-good Reached.root = sure.root
  planned-good {n} (on e r m t) =
      sure.on e.node n (planned-good r) (subst (λ (x : Entry). elem n (reaches (node_at g e.node) x.choice) ≡ true) (planned-mem e m) t)

  pub planned-mine : (e : Entry) → Memᴰ e (planned g plan) → (e ≡ plan e.node) × Good e.node
  planned-mine e m = (planned-mem e m, planned-good (planned-is.only e m))
