-- Meeting policies: the tests agree with the relation, and what is met by a list is met by its rules taken together.
-- Rests on the laws of `every` alone.
use mathlib.Core.Path.{◌≡◌, refl, sym, subst, ap, ◌∙◌}
use mathlib.Core.Logic.{◌↔◌}
use mathlib.Core.List.Memᴰ
use mathlib.Core.List.{List, [], ◌∷◌, Memᴰ}
use mathlib.Core.Bool.{Bool, true, false, cond, not, ◌&&◌, ◌||◌}
use mathlib.Core.Option.{some, some-injective}
use Prim.Native.Nat.{ℕ, zero, suc, ◌+◌}
use native.Mathlib.Nat.{zero-add, add-zero}
use native.Mathlib.Omega.{arith}
use borrow.Author.Tests.{eqb-true, eq-eqb}
use lib.Dec.{eqb}
use lib.ListN.{get_elem?}
use lib.IntN.{ℤ}
use Rattle.fields.proofs.Tests.{and_yes, and-true, never, not_yes, not-not}
use Rattle.schema.specs.Schema.{Node, node_at}
use Rattle.schema.specs.declared.Variable.{Variable}
use Rattle.policies.specs.Policies.{Policy}
use Rattle.policies.specs.Pass.{in_force, forced}
use Rattle.instances.specs.Instance.{Entry, chooses}
use Rattle.model.specs.Satisfaction.{rank, condition_at, meets, allowed, every, admitted, choice_meets}
use Rattle.model.specs.Reconciling.{rules_of}
use Rattle.model.proofs.Lawful.{MeetsRules}
use Rattle.model.proofs.Relations.{MeetsPolicy, MeetsAll, MeetsInForce}
use Rattle.model.proofs.Lists.{every-mem, mem-every}

-- ---- what all policies say, and what each says

pub allowed-iff : (g : List Node) (ps : List Policy) (n s : ℕ) → (allowed g ps n s ≡ true) ↔ ((p : Policy) → Memᴰ p ps → rank g p n s ≡ 255 → ⊥)
unfolding allowed
allowed-iff g ps n s = (
  λ t p m e. not_yes (eqb (rank g p n s) 255) (every-mem fair t m) (eq-eqb (rank g p n s) 255 e),
  λ f. mem-every fair ps (λ p m. not-not (eqb (rank g p n s) 255) (λ h. f p m (eqb-true (rank g p n s) 255 h))),
)
  where
    fair : Policy → Bool
    fair p = not (eqb (rank g p n s) 255)

pub admitted-iff : (ps : List Policy) (n k : ℕ) (v : Variable) (x : ℤ) → (admitted ps n k v x ≡ true) ↔ ((p : Policy) → Memᴰ p ps → meets v (condition_at p n k) x ≡ true)
unfolding admitted
admitted-iff ps n k v x = (λ t p m. every-mem (λ (q : Policy). meets v (condition_at q n k) x) t m, λ f. mem-every (λ (q : Policy). meets v (condition_at q n k) x) ps f)

-- each value at its place: every policy admits the values of variable k and those after it
unfoldable pub admitted_from : List Policy → ℕ → ℕ → List Variable → List ℤ → Bool
admitted_from ps n k [] xs = true
admitted_from ps n k (v ∷ vs) [] = true
admitted_from ps n k (v ∷ vs) (x ∷ xs) = admitted ps n k v x && admitted_from ps n (k + 1) vs xs

module _ (ps : List Policy) (n : ℕ) where
  abbrev Each : ℕ → List Variable → List ℤ → Type 0
  Each k vs xs = (d : ℕ) (v : Variable) (x : ℤ) → get_elem? vs d ≡ some v → get_elem? xs d ≡ some x → admitted ps n (k + d) v x ≡ true

  from_each : (k : ℕ) (vs : List Variable) (xs : List ℤ) → admitted_from ps n k vs xs ≡ true → Each k vs xs
  unfolding admitted_from
  from_each k [] xs t d v x a b = absurd (let z : ◌≡◌ {A = ℕ} 0 1 = cc in omega arith)
  from_each k (w ∷ vs) [] t d v x a b = absurd (let z : ◌≡◌ {A = ℕ} 0 1 = cc in omega arith)
  from_each k (w ∷ vs) (y ∷ xs) t zero v x a b =
      let p : w ≡ v = some-injective w v a in
      let q : y ≡ x = some-injective y x b in
      let h : admitted ps n k v x ≡ true = rw (p, q) at (and-true (admitted ps n k w y) (admitted_from ps n (k + 1) vs xs) t).0 in
      rw add-zero h
  from_each k (w ∷ vs) (y ∷ xs) t (suc d) v x a b =
      let h = from_each (k + 1) vs xs (and-true (admitted ps n k w y) (admitted_from ps n (k + 1) vs xs) t).1 d v x a b in
      subst (λ (i : ℕ). admitted ps n i v x ≡ true) (let z : k + 1 + d ≡ k + suc d = omega arith in z) h

  each_from : (k : ℕ) (vs : List Variable) (xs : List ℤ) → Each k vs xs → admitted_from ps n k vs xs ≡ true
  unfolding admitted_from
  each_from k [] xs f = refl
  each_from k (w ∷ vs) [] f = refl
  each_from k (w ∷ vs) (y ∷ xs) f =
      and_yes (rw add-zero at (f 0 w y refl refl))
      (each_from (k + 1) vs xs (λ d v x a b. subst (λ (i : ℕ). admitted ps n i v x ≡ true) (let z : k + suc d ≡ k + 1 + d = omega arith in z) (f (suc d) v x a b)))

-- ---- the rules taken together

abbrev pub admitted_at : List Node → List Policy → ℕ → List ℤ → Bool
admitted_at g ps n xs = admitted_from ps n 0 (node_at g n).variables xs

pub rules-iff : (g : List Node) (ps : List Policy) (i : List Entry) → MeetsRules g (rules_of g ps) (admitted_at g ps) i ↔ MeetsAll g ps i
rules-iff g ps i = (there, back)
  where
    there : MeetsRules g (rules_of g ps) (admitted_at g ps) i → MeetsAll g ps i
    there M p m =
        record {
          choices = λ e l w. (allowed-iff g ps e.node e.choice).0 (M.choices e l w) p m;
          values = λ e l k v x a b. rw zero-add at ((admitted-iff ps e.node (0 + k) v x).0 (from_each ps e.node 0 (node_at g e.node).variables e.values (M.values e l) k v x a b) p m);
        }

    back : MeetsAll g ps i → MeetsRules g (rules_of g ps) (admitted_at g ps) i
    back f =
        record {
          choices = λ e l w. (allowed-iff g ps e.node e.choice).1 (λ p m. (f p m).choices e l w);
          values = λ e l. each_from ps e.node 0 (node_at g e.node).variables e.values
              (λ k v x a b. (admitted-iff ps e.node (0 + k) v x).1 (λ p m. rw zero-add ((f p m).values e l k v x a b)));
        }

-- ---- the test

unfoldable pub values_meet : List Node → List Policy → Entry → Bool
values_meet g ps e = admitted_at g ps e.node e.values

unfoldable pub meets_all : List Node → List Policy → List Entry → Bool
meets_all g ps i = every (λ (e : Entry). choice_meets g ps e && values_meet g ps e) i

choice-iff : (g : List Node) (ps : List Policy) (e : Entry) → (choice_meets g ps e ≡ true) ↔ (chooses (node_at g e.node) ≡ true → allowed g ps e.node e.choice ≡ true)
unfolding choice_meets
choice-iff g ps e = go (chooses (node_at g e.node))
  where
    go : (b : Bool) → (not b || allowed g ps e.node e.choice ≡ true) ↔ (b ≡ true → allowed g ps e.node e.choice ≡ true)
    go true = (λ t w. t, λ f. f refl)
    go false = (λ t w. never w, λ f. refl)

pub meets-iff : (g : List Node) (ps : List Policy) (i : List Entry) → (meets_all g ps i ≡ true) ↔ MeetsAll g ps i
unfolding meets_all values_meet
meets-iff g ps i = (λ t. (rules-iff g ps i).0 (there t), λ M. back ((rules-iff g ps i).1 M))
  where
    ok : Entry → Bool
    ok e = choice_meets g ps e && values_meet g ps e

    parts : meets_all g ps i ≡ true → (e : Entry) → Memᴰ e i → (choice_meets g ps e ≡ true) × (values_meet g ps e ≡ true)
    parts t e m = and-true (choice_meets g ps e) (values_meet g ps e) (every-mem ok t m)

    there : meets_all g ps i ≡ true → MeetsRules g (rules_of g ps) (admitted_at g ps) i
    there t = record { choices = λ e m. (choice-iff g ps e).0 (parts t e m).0; values = λ e m. (parts t e m).1 }

    back : MeetsRules g (rules_of g ps) (admitted_at g ps) i → meets_all g ps i ≡ true
    back M = mem-every ok i (λ e m. and_yes ((choice-iff g ps e).1 (M.choices e m)) (M.values e m))

-- one policy is a list of one
pub meets-one-iff : (g : List Node) (p : Policy) (i : List Entry) → (meets_all g (p ∷ []) i ≡ true) ↔ MeetsPolicy g p i
meets-one-iff g p i = (λ t. (meets-iff g (p ∷ []) i).0 t p (Memᴰ.head refl), λ M. (meets-iff g (p ∷ []) i).1 (one M))
  where
    one : MeetsPolicy g p i → MeetsAll g (p ∷ []) i
    one M q (Memᴰ.head e) = subst (λ (x : Policy). MeetsPolicy g x i) (sym e) M
    one M q (Memᴰ.tail m) = absurd (Memᴰ.not-nil m)

-- ---- 'every policy in force'

module _ (a b : ℕ) where
  forced-mem : {p : Policy} (ps : List Policy) → Memᴰ p (forced a b ps) → Memᴰ p ps × (in_force a b p ≡ true)
  unfolding forced
  forced-mem [] m = absurd (Memᴰ.not-nil m)
  forced-mem {p} (x ∷ ps) m = go (in_force a b x) refl (forced-mem ps) m
    where
      go : (t : Bool) → in_force a b x ≡ t → (Memᴰ p (forced a b ps) → Memᴰ p ps × (in_force a b p ≡ true))
          → Memᴰ p (cond t (x ∷ forced a b ps) (forced a b ps)) → Memᴰ p (x ∷ ps) × (in_force a b p ≡ true)
      go true t ih (Memᴰ.head e) = (Memᴰ.head e, ap (in_force a b) e ∙ t)
      go true t ih (Memᴰ.tail m) = let w = ih m in (Memᴰ.tail w.0, w.1)
      go false t ih m = let w = ih m in (Memᴰ.tail w.0, w.1)

  mem-forced : {p : Policy} {ps : List Policy} → Memᴰ p ps → in_force a b p ≡ true → Memᴰ p (forced a b ps)
  unfolding forced
  mem-forced {p} (Memᴰ.head {x = x} {xs = xs} e) t = rw (ap (in_force a b) (sym e) ∙ t) (Memᴰ.head e)
  mem-forced {p} (Memᴰ.tail {x = x} {xs = xs} m) t = go (in_force a b x) (mem-forced m t)
    where
      go : (c : Bool) → Memᴰ p (forced a b xs) → Memᴰ p (cond c (x ∷ forced a b xs) (forced a b xs))
      go true m = Memᴰ.tail m
      go false m = m

  pub in-force-iff : (g : List Node) (ps : List Policy) (i : List Entry) → MeetsAll g (forced a b ps) i ↔ MeetsInForce a b g ps i
  in-force-iff g ps i = (λ M p m t. M p (mem-forced m t), λ f p m. let w = forced-mem ps m in f p w.0 w.1)
