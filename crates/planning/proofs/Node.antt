-- One node's plan: the least values left, then the eligible successors of a node that chooses, or all successors feasible.
-- Rests on the laws of its parts and on the model's step.
use mathlib.Core.Path.{◌≡◌, refl, ap, sym, subst, ◌∙◌}
use mathlib.Core.Bool.{Bool, true, false, not, ◌&&◌, ◌||◌}
use mathlib.Core.List.{List, []}
use mathlib.Core.Option
use mathlib.Core.Option.{Option, none, some}
use Prim.Native.Nat.{ℕ, ◌≤◌, ◌<◌}
use native.Mathlib.Omega.{arith}
use borrow.Author.Tests.{eq-eqb, ne_eqb, eqb-true}
use lib.Bits.{bit_and}
use lib.Dec.{eqb}
use lib.IntN.{ℤ}
use lib.ListN.{length, get_or, set, length-set}
use lib.Seq.{get_or-set_same, get_or-set_other}
use Rattle.std.specs.List.{All}
use Rattle.std.proofs.lemmas.Grind.{get_or_default_zero}
use Rattle.fields.proofs.Tests.{and_yes, and-true, never, alike}
use Rattle.numbers.specs.Bits.{bit, with_all}
use Rattle.numbers.proofs.Bits.{no-bit, all-bit, both-bit, no_bits, subset-in, in-subset}
use Rattle.schema.specs.Schema.{Node, schema_of, node_at}
use Rattle.schema.specs.Table.{successor_set}
use Rattle.schema.proofs.Sound.{Sound}
use Rattle.schema.proofs.Accepted.{sound_of}
use Rattle.policies.specs.Policies.{Policy}
use Rattle.instances.specs.Instance.{elem, chooses}
use Rattle.instances.specs.Plan.{values_from}
use Rattle.instances.proofs.Valid.{mem-elem, successor-in}
use Rattle.model.specs.Satisfaction.{every, allowed}
use Rattle.model.specs.Reconciling.{Rules, combined, is_some, taken, can_step, rules_of}
use Rattle.model.proofs.Lists.{every-at, at_every, at-elem}
use Rattle.model.proofs.Ranks.{better-strict}
use Rattle.model.proofs.Successors.{IsBest, no-best, a-best, best-is}
use Rattle.conditions.specs.Least.{LeastIn}
use Rattle.planning.specs.Plan.{EligibleRoom}
use Rattle.planning.specs.Sweep.{Allowed, is_eligible, NodePlanned}

pub node_chooses : (schema : List ℕ) (n : ℕ) {t : Bool} → t ≡ chooses (node_at (schema_of schema) n) → t ≡ true → chooses (node_at (schema_of schema) n) ≡ true
node_chooses schema n e q = sym e ∙ q

-- its successors are few, and nodes
module _ (schema : List ℕ) (n : ℕ) (h : n < length (schema_of schema)) (xs : List ℕ) (e : xs ≡ (node_at (schema_of schema) n).successors) where
  pub successors_few : length xs ≤ 8
  successors_few = omega (arith, ap length e, ((sound_of schema (omega arith)).nodes n h).few)

  pub successors_small : All (λ x. x < 64) xs
  successors_small k d l =
      let A = sound_of schema (omega arith) in
      let z = at-elem xs k l in
      omega (
        arith,
        A.few,
        get_or_default_zero xs k d l,
        (successor-in (schema_of schema) A n (get_or xs k 0) (subst (λ (l : List ℕ). elem (get_or xs k 0) l ≡ true) e z)).1,
      )

-- the set of a node's successors
pub successors-bit : (g : List Node) → Sound g → (n x : ℕ) → bit (with_all 0 (node_at g n).successors) x ≡ elem x (node_at g n).successors
successors-bit g A n x =
    all-bit x (elem x) refl (λ y ys. refl) 0 (node_at g n).successors (λ y m. let z = (successor-in g A n y (mem-elem m)).1 in omega (arith, A.few))
    ∙ ap (λ (b : Bool). b || elem x (node_at g n).successors) (no-bit x)

-- ---- its successors

module _ (g : List Node) (A : Sound g) (qs : List Policy) (n feasible : ℕ) where
  -- the eligible ones
  module _ (s k : ℕ) (e : s ≡ with_all 0 (node_at g n).successors) (w : Allowed g qs n (bit_and s feasible) k) where
    pub eligible-bit : (x : ℕ) → bit k x ≡ is_eligible g (rules_of g qs) (bit feasible) n x
    unfolding is_eligible
    eligible-bit x = go (elem x (node_at g n).successors) refl
      where
        met : bit (bit_and s feasible) x ≡ elem x (node_at g n).successors && bit feasible x
        met = both-bit s feasible x ∙ ap (λ (b : Bool). b && bit feasible x) (ap (λ (m : ℕ). bit m x) e ∙ successors-bit g A n x)

        swap : (a b : Bool) → a && b ≡ b && a
        swap true true = refl
        swap true false = refl
        swap false true = refl
        swap false false = refl

        go : (b : Bool) → elem x (node_at g n).successors ≡ b → bit k x ≡ b && (allowed g qs n x && bit feasible x)
        go true q = w.successors x q ∙ ap (λ (b : Bool). b && allowed g qs n x) (met ∙ ap (λ (b : Bool). b && bit feasible x) q) ∙ swap (bit feasible x) (allowed g qs n x)
        go false q = w.others x q ∙ met ∙ ap (λ (b : Bool). b && bit feasible x) q

    eligible-some : not (eqb k 0) ≡ is_some (taken g (rules_of g qs) (bit feasible) n)
    unfolding taken is_eligible
    eligible-some = go (taken g (rules_of g qs) (bit feasible) n) (best-is (λ (x : ℕ). allowed g qs n x && bit feasible x) ((rules_of g qs).better n) (better-strict g qs n) (node_at g n).successors)
      where
        go : (o : Option ℕ) → IsBest (λ (x : ℕ). allowed g qs n x && bit feasible x) ((rules_of g qs).better n) (node_at g n).successors o → not (eqb k 0) ≡ is_some o
        go none (no-best f) =
            let z : k ≡ 0 = no_bits k (λ x t. let v = and-true (elem x (node_at g n).successors) (allowed g qs n x && bit feasible x) (sym (eligible-bit x) ∙ t) in f x v.0 v.1) in
            ap not (eq-eqb k 0 z)
        go (some y) (a-best v) =
            ap not (ne_eqb k 0 (λ z. never (sym (no-bit y) ∙ ap (λ (m : ℕ). bit m y) (sym z) ∙ eligible-bit y ∙ and_yes v.among v.passes)))

  -- all feasible
  all-feasible : (s : ℕ) → s ≡ with_all 0 (node_at g n).successors → eqb (bit_and s feasible) s ≡ every (bit feasible) (node_at g n).successors
  all-feasible s e =
      alike (eqb (bit_and s feasible) s) (every (bit feasible) (node_at g n).successors)
      (λ t. at_every (bit feasible) (node_at g n).successors (λ x m. subset-in s feasible x (eqb-true (bit_and s feasible) s t) (is-in x ∙ m)))
      (λ t. eq-eqb (bit_and s feasible) s (in-subset s feasible (λ x m. every-at (bit feasible) (node_at g n).successors t x (sym (is-in x) ∙ m))))
    where
      is-in : (x : ℕ) → bit s x ≡ elem x (node_at g n).successors
      is-in x = ap (λ (m : ℕ). bit m x) e ∙ successors-bit g A n x

-- ---- the node

module _ (schema : List ℕ) (qs : List Policy) (n feasible : ℕ) (eligible bits : List ℕ) (h : n < length (schema_of schema)) where
  abbrev g : List Node
  g = schema_of schema

  abbrev rules : Rules
  rules = rules_of g qs

  -- no value left
  pub node_nothing : {r : Bool} → LeastIn g n (combined g qs n) bits r → r ≡ false → NodePlanned g qs n feasible eligible eligible bits false
  unfolding can_step
  node_nothing {r} w e =
      let z : is_some (rules.least n) ≡ false = sym w.found ∙ e in
      record { is = rw z; eligible-is = λ q. never q; eligible-others = λ m v. refl; eligible-long = refl; values = λ q. never q }

  module _ {r : Bool} (w : LeastIn g n (combined g qs n) bits r) (e : r ≡ true) where
    A : Sound g
    A = sound_of schema (omega arith)

    left : is_some (rules.least n) ≡ true
    left = sym w.found ∙ e

    values-are : values_from (node_at g n).variables bits 0 ≡ Option.get_or (rules.least n) []
    values-are = sym (ap (λ (o : Option (List ℤ)). Option.get_or o []) (w.values e))

    module _ {s : ℕ} (is_set : s ≡ successor_set (node_at g n)) {q : Bool} (i : q ≡ chooses (node_at g n)) where
      pub node_choose : {k : ℕ} → q ≡ true → EligibleRoom schema eligible → Allowed g qs n (bit_and s feasible) k → NodePlanned g qs n feasible eligible (set eligible n k) bits (not (eqb k 0))
      unfolding can_step
      node_choose {k} t l d =
          let u : chooses (node_at g n) ≡ true = sym i ∙ t in
          record {
            is = rw (left, u) (eligible-some g A qs n feasible s k is_set d);
            eligible-is = λ _ _ x. ap (λ (m : ℕ). bit m x) (get_or-set_same eligible n k 0 (omega (arith, l.long))) ∙ eligible-bit g A qs n feasible s k is_set d x;
            eligible-others = λ m z. get_or-set_other eligible n m k 0 z;
            eligible-long = length-set eligible n k;
            values = λ _. values-are;
          }

      pub node_all : q ≡ false → NodePlanned g qs n feasible eligible eligible bits (eqb (bit_and s feasible) s)
      unfolding can_step
      node_all t =
          let u : chooses (node_at g n) ≡ false = sym i ∙ t in
          record {
            is = rw (left, u) (all-feasible g A qs n feasible s is_set);
            eligible-is = λ _ z. never (sym u ∙ z);
            eligible-others = λ m z. refl;
            eligible-long = refl;
            values = λ _. values-are;
          }
