-- The reached nodes, the lowest first: those that were taken and the entries from there on make the whole.
-- Rests on the laws of bits of the crate numbers, on the definition of `planned` and on the model's step.
use mathlib.Core.Path.{◌≡◌, refl, ap, ap₂, sym, subst, ◌∙◌}
use mathlib.Core.Logic.{◌⊎◌, inl, inr}
use mathlib.Core.Bool.{Bool, true, false, cond, not, ◌&&◌, ◌||◌}
use mathlib.Core.List.{List, [], ◌∷◌}
use mathlib.Core.Option
use mathlib.Core.Option.{Option, none, some, some-injective}
use Prim.Native.Nat.{ℕ, zero, suc, ◌+◌, ◌-◌, ◌≤◌, ◌<◌}
use native.Mathlib.Omega.{arith}
use native.Mathlib.Nat.{add-zero}
use native.Mathlib.Decide.{ℕ_discrete}
use borrow.Author.Tests.{eq-eqb, ne_eqb, eqb-true}
use lib.Bits.{bit_or}
use lib.Count.{count_trailing_zeros}
use lib.Dec.{eqb}
use lib.ListN.{length, get_or, set, length-set}
use lib.Seq.{get_or-set_same, get_or-set_other}
use Rattle.fields.proofs.Tests.{and-true, or-true, not_yes, never}
use Rattle.numbers.specs.Bits.{bit, with, turned}
use Rattle.numbers.specs.Lowest.{Lowest}
use Rattle.numbers.proofs.Bits.{pow-bit, no-bit, with-bit, turned_bit, or-bit, lowest-bit, tz-least, tz-above, bits-same}
use Rattle.schema.specs.Schema.{Node, schema_of, node_at}
use Rattle.schema.specs.Table.{successor_set}
use Rattle.schema.proofs.Sound.{Sound}
use Rattle.schema.proofs.Accepted.{sound_of}
use Rattle.policies.specs.Policies.{Policy}
use Rattle.instances.specs.Instance.{Entry, elem, chooses, reaches}
use Rattle.instances.specs.File.{reached}
use Rattle.instances.specs.Plan.{planned_from, planned, nodes_of, no_slot, slot_at, Unchosen}
use Rattle.instances.specs.declared.Slot.{Slot}
use Rattle.instances.proofs.Valid.{successor-in}
use Rattle.model.specs.Satisfaction.{every}
use Rattle.model.specs.Reconciling.{Rules, is_some, best, taken, can_step, can, plan, rules_of}
use Rattle.model.proofs.Lists.{elem-one, every-at}
use Rattle.model.proofs.Ranks.{better-strict}
use Rattle.model.proofs.Reconciler.{can-by-table}
use Rattle.model.proofs.Successors.{IsBest, a-best, best-is, best-same}
use Rattle.planning.specs.Sweep.{Choice, Chosen, is_eligible, Eligible, Reached}
use Rattle.planning.proofs.Node.{successors-bit}

or_swap : (a b : Bool) → a || b ≡ b || a
or_swap true true = refl
or_swap true false = refl
or_swap false true = refl
or_swap false false = refl

-- from the right to the left
or-move : (a b c : Bool) → (a || c) || b ≡ a || (b || c)
or-move true b c = refl
or-move false b c = or_swap c b

or-none : (a : Bool) → a ≡ a || false
or-none true = refl
or-none false = refl

and-all : (a : Bool) → a && true ≡ a
and-all true = refl
and-all false = refl

-- ---- the entries from node n on, after the entries es

abbrev rest_of : List Node → (ℕ → Entry) → ℕ → List Entry → List Entry
rest_of g plan n es = planned_from g plan (length g - n) n es

module _ (g : List Node) (plan : ℕ → Entry) (es : List Entry) where
  rest-exit : rest_of g plan (length g) es ≡ []
  unfolding planned_from
  rest-exit = let z : length g - length g ≡ 0 = omega arith in rw z

  module _ (n : ℕ) (h : n < length g) where
    less : length g - n ≡ suc (length g - (n + 1))
    less = omega arith

    rest-skip : reached g es n ≡ false → rest_of g plan n es ≡ rest_of g plan (n + 1) es
    unfolding planned_from
    rest-skip t = rw (less, t)

    rest-take : reached g es n ≡ true → rest_of g plan n es ≡ plan n ∷ rest_of g plan (n + 1) (plan n ∷ es)
    unfolding planned_from
    rest-take t = rw (less, t)

  -- so many that are not reached
  rest-skips : (d n : ℕ) → n + d ≤ length g → ((j : ℕ) → n ≤ j → j < n + d → reached g es j ≡ false) → rest_of g plan n es ≡ rest_of g plan (n + d) es
  rest-skips zero n h f = ap (λ (m : ℕ). rest_of g plan m es) (sym (add-zero n))
  rest-skips (suc d) n h f =
      rest-skip n (omega arith) (f n (omega arith) (omega arith))
      ∙ rest-skips d (n + 1) (omega arith) (λ j l m. f j (omega arith) (omega arith))
      ∙ ap (λ (m : ℕ). rest_of g plan m es) (let z : n + 1 + d ≡ n + suc d = omega arith in z)

  rest-to : (n m : ℕ) → n ≤ m → m ≤ length g → ((j : ℕ) → n ≤ j → j < m → reached g es j ≡ false) → rest_of g plan n es ≡ rest_of g plan m es
  rest-to n m h l f =
      let e : n + (m - n) ≡ m = omega arith in
      rest-skips (m - n) n (omega arith) (λ j a b. f j a (omega arith)) ∙ ap (λ (i : ℕ). rest_of g plan i es) e

-- ---- the nodes in turn

-- of the nodes before `at` these have an entry; es are the entries so far, and what they reach from there on is left
pub record Choosing (g : List Node) (qs : List Policy) (slots₀ slots : List Slot) (left nodes : ℕ) : Type 0 where
  pub at : ℕ
  pub es : List Entry
  pub upto : at ≤ length g
  pub above : (j : ℕ) → bit left j ≡ true → at ≤ j
  pub inside : (j : ℕ) → bit left j ≡ true → j < length g
  pub feasible : (j : ℕ) → bit left j ≡ true → can g (rules_of g qs) j ≡ true
  pub reaching : (j : ℕ) → at ≤ j → j < length g → bit left j ≡ reached g es j
  pub joined : (j : ℕ) → bit nodes j || bit (nodes_of (rest_of g (plan g (rules_of g qs)) at es)) j ≡ bit (nodes_of (planned g (plan g (rules_of g qs)))) j
  pub before : (j : ℕ) → bit nodes j ≡ true → j < at
  pub taken-feasible : (j : ℕ) → bit nodes j ≡ true → can g (rules_of g qs) j ≡ true
  pub chosen : (j : ℕ) → bit nodes j ≡ true → (slot_at slots j).choice ≡ (plan g (rules_of g qs) j).choice
  pub blank : (j : ℕ) → at ≤ j → j < length g → (slot_at slots j).choice ≡ 255
  pub values : (j : ℕ) → (slot_at slots j).bits ≡ (slot_at slots₀ j).bits
  pub long : length g ≤ length slots

pub choosing_init : (schema : List ℕ) (qs : List Policy) (eligible : List ℕ) (slots : List Slot) → Eligible schema qs eligible → Unchosen schema slots → Choosing (schema_of schema) qs slots slots 1 0
unfolding reached planned
choosing_init schema qs eligible slots o e =
    let z : length (schema_of schema) - 0 ≡ length (schema_of schema) = omega arith in
    record {
      at = 0;
      es = [];
      upto = omega arith;
      above = λ j t. omega arith;
      inside = λ j t. let r = root j t in let s = o.some-nodes in omega arith;
      feasible = λ j t. rw (root j t) o.root;
      reaching = λ j a b. pow-bit 0 j;
      joined = λ j. rw (z, no-bit j);
      before = λ j t. never (sym (no-bit j) ∙ t);
      taken-feasible = λ j t. never (sym (no-bit j) ∙ t);
      chosen = λ j t. never (sym (no-bit j) ∙ t);
      blank = λ j a b. e.none j b;
      values = λ j. refl;
      long = e.room.long;
    }
  where
    root : (j : ℕ) → bit 1 j ≡ true → j ≡ 0
    root j t = eqb-true j 0 (sym (pow-bit 0 j) ∙ t)

module _ (schema : List ℕ) (qs : List Policy) (eligible : List ℕ) (slots₀ slots : List Slot) (left nodes : ℕ) (o : Eligible schema qs eligible) (w : Choosing (schema_of schema) qs slots₀ slots left nodes) where
  abbrev g : List Node
  g = schema_of schema

  abbrev rules : Rules
  rules = rules_of g qs

  A : Sound g
  A = sound_of schema o.some-nodes

  pub choosing_exit : left ≤ 0 → Reached g qs slots₀ slots nodes
  unfolding nodes_of
  choosing_exit h =
      let z : left ≡ 0 = omega arith in
      let none : rest_of g (plan g rules) w.at w.es ≡ [] =
      rest-to g (plan g rules) w.es w.at (length g) w.upto (omega arith) (λ j a b. sym (w.reaching j a b) ∙ ap (λ (m : ℕ). bit m j) z ∙ no-bit j) ∙ rest-exit g (plan g rules) w.es in
      record {
        is = bits-same nodes (nodes_of (planned g (plan g rules))) (λ j.
            or-none (bit nodes j) ∙ ap (λ (k : Bool). bit nodes j || k) (sym (no-bit j)) ∙ ap (λ (r : List Entry). bit nodes j || bit (nodes_of r) j) (sym none) ∙ w.joined j);
        below = λ m t. let a = w.before m t in let b = w.upto in omega arith;
        feasible = w.taken-feasible;
        chosen = w.chosen;
        values = w.values;
      }

  -- ---- the lowest of those left

  module _ {n : ℕ} (l : Lowest 64 left n) where
    left_here : bit left n ≡ true
    left_here = lowest-bit 64 left l

    -- turned, it is taken out
    left-turned : (j : ℕ) → bit (turned left n) j ≡ bit left j && not (eqb j n)
    left-turned j = turned_bit left n j l.small ∙ go (eqb j n) (bit left j) (λ t. ap (bit left) (eqb-true j n t) ∙ left_here)
      where
        go : (t b : Bool) → (t ≡ true → b ≡ true) → cond t (not b) b ≡ b && not t
        go true true f = refl
        go true false f = never (f refl)
        go false true f = refl
        go false false f = refl

    here : n < length g
    here = w.inside n left_here

    here-feasible : can g rules n ≡ true
    here-feasible = w.feasible n left_here

    lowest-is : (j : ℕ) → bit left j ≡ true → n ≤ j
    lowest-is j t = omega (arith, l.is, tz-least 64 left j t)

    pub choosing_node : n < length g
    choosing_node = here

    pub choosing_eligible : n < length eligible
    choosing_eligible = omega (arith, here, o.room.long)

    pub choosing_slot : n < length slots
    choosing_slot = omega (arith, here, w.long)

    step-parts : is_some (rules.least n) && cond (chooses (node_at g n)) (is_some (taken g rules (can g rules) n)) (every (can g rules) (node_at g n).successors) ≡ true
    unfolding can_step
    step-parts = can-by-table g A rules (can g rules) n here (λ s a b. refl) ∙ here-feasible

    -- ---- any step: node n is taken, and what it reaches is left

    record Stepped (left' nodes' : ℕ) (slots' : List Slot) : Type 0 where
      to : (j : ℕ) → bit left' j ≡ (bit left j && not (eqb j n)) || elem j (reaches (node_at g n) (plan g rules n).choice)
      onward : (j : ℕ) → elem j (reaches (node_at g n) (plan g rules n).choice) ≡ true → (n < j) × (j < length g) × (can g rules j ≡ true)
      taken-too : nodes' ≡ with nodes n
      choice : (slot_at slots' n).choice ≡ (plan g rules n).choice
      others : (j : ℕ) → (j ≡ n → ⊥) → slot_at slots' j ≡ slot_at slots j
      same : (j : ℕ) → (slot_at slots' j).bits ≡ (slot_at slots j).bits
      long : length slots' ≡ length slots

    module _ {left' nodes' : ℕ} {slots' : List Slot} (v : Stepped left' nodes' slots') where
      parts : (j : ℕ) → bit left' j ≡ true → ((bit left j ≡ true) × (n < j)) ⊎ (elem j (reaches (node_at g n) (plan g rules n).choice) ≡ true)
      parts j t = go (or-true (bit left j && not (eqb j n)) (elem j (reaches (node_at g n) (plan g rules n).choice)) (sym (v.to j) ∙ t))
        where
          go : (bit left j && not (eqb j n) ≡ true) ⊎ (elem j (reaches (node_at g n) (plan g rules n).choice) ≡ true) → ((bit left j ≡ true) × (n < j)) ⊎ (elem j (reaches (node_at g n) (plan g rules n).choice) ≡ true)
          go (inl u) =
              let z = and-true (bit left j) (not (eqb j n)) u in
              let a = lowest-is j z.0 in
              let b : j ≡ n → ⊥ = λ q. not_yes (eqb j n) z.1 (eq-eqb j n q) in
              inl (z.0, omega arith)
          go (inr u) = inr u

      higher : (j : ℕ) → bit left' j ≡ true → n < j
      higher j t = go (parts j t)
        where
          go : ((bit left j ≡ true) × (n < j)) ⊎ (elem j (reaches (node_at g n) (plan g rules n).choice) ≡ true) → n < j
          go (inl u) = u.1
          go (inr u) = (v.onward j u).0

      stepped-less : 64 - count_trailing_zeros 64 left' < 64 - count_trailing_zeros 64 left
      stepped-less = let z = tz-above 64 left' n l.small higher in let s = l.small in omega (arith, l.is)

      stepped : Choosing g qs slots₀ slots' left' nodes'
      unfolding plan nodes_of reached
      stepped =
          record {
            at = n + 1;
            es = plan g rules n ∷ w.es;
            upto = omega (arith, here);
            above = λ j t. let z = higher j t in omega arith;
            inside = λ j t. inside j (parts j t);
            feasible = λ j t. feasible j (parts j t);
            reaching = λ j a b.
                v.to j
                ∙ ap (λ (t : Bool). (bit left j && not t) || elem j next) (ne_eqb j n (λ q. omega arith))
                ∙ ap (λ (t : Bool). t || elem j next) (and-all (bit left j) ∙ w.reaching j (let z = w.above n left_here in omega arith) b)
                ∙ or_swap (reached g w.es j) (elem j next);
            joined = λ j.
                ap (λ (x : ℕ). bit x j || bit (nodes_of rest) j) v.taken-too
                ∙ ap (λ (x : Bool). x || bit (nodes_of rest) j) (with-bit nodes n j small)
                ∙ or-move (bit nodes j) (bit (nodes_of rest) j) (eqb j n)
                ∙ ap (λ (x : Bool). bit nodes j || x) (sym (with-bit (nodes_of rest) n j small))
                ∙ ap (λ (r : List Entry). bit nodes j || bit (nodes_of r) j) (sym on)
                ∙ w.joined j;
            before = λ j t. before j (taken-cases j t);
            taken-feasible = λ j t. taken-feasible j (taken-cases j t);
            chosen = λ j t. chosen j (taken-cases j t);
            blank = λ j a b. ap (λ (x : Slot). x.choice) (v.others j (λ q. omega arith)) ∙ w.blank j (let z = w.above n left_here in omega arith) b;
            values = λ j. v.same j ∙ w.values j;
            long = omega (arith, v.long, w.long);
          }
        where
          next : List ℕ
          next = reaches (node_at g n) (plan g rules n).choice

          rest : List Entry
          rest = rest_of g (plan g rules) (n + 1) (plan g rules n ∷ w.es)

          small : n < 64
          small = l.small

          on : rest_of g (plan g rules) w.at w.es ≡ plan g rules n ∷ rest
          on =
              rest-to g (plan g rules) w.es w.at n (w.above n left_here) (omega (arith, here))
              (λ j a b. sym (w.reaching j a (omega (arith, here))) ∙ not_left j b)
              ∙ rest-take g (plan g rules) w.es n here (sym (w.reaching n (w.above n left_here) here) ∙ left_here)
            where
              not_left : (j : ℕ) → j < n → bit left j ≡ false
              not_left j b = go (bit left j) refl
                where
                  go : (t : Bool) → bit left j ≡ t → t ≡ false
                  go true t = absurd (let z = lowest-is j t in omega arith)
                  go false t = refl

          inside : (j : ℕ) → ((bit left j ≡ true) × (n < j)) ⊎ (elem j next ≡ true) → j < length g
          inside j (inl u) = w.inside j u.0
          inside j (inr u) = (v.onward j u).1

          feasible : (j : ℕ) → ((bit left j ≡ true) × (n < j)) ⊎ (elem j next ≡ true) → can g rules j ≡ true
          feasible j (inl u) = w.feasible j u.0
          feasible j (inr u) = (v.onward j u).2

          taken-cases : (j : ℕ) → bit nodes' j ≡ true → (bit nodes j ≡ true) ⊎ (j ≡ n)
          taken-cases j t = go (or-true (bit nodes j) (eqb j n) (sym (with-bit nodes n j small) ∙ ap (λ (x : ℕ). bit x j) (sym v.taken-too) ∙ t))
            where
              go : (bit nodes j ≡ true) ⊎ (eqb j n ≡ true) → (bit nodes j ≡ true) ⊎ (j ≡ n)
              go (inl u) = inl u
              go (inr u) = inr (eqb-true j n u)

          before : (j : ℕ) → (bit nodes j ≡ true) ⊎ (j ≡ n) → j < n + 1
          before j (inl u) = let z = w.before j u in let a = w.above n left_here in omega arith
          before j (inr u) = omega arith

          taken-feasible : (j : ℕ) → (bit nodes j ≡ true) ⊎ (j ≡ n) → can g rules j ≡ true
          taken-feasible j (inl u) = w.taken-feasible j u
          taken-feasible j (inr u) = rw u here-feasible

          chosen : (j : ℕ) → (bit nodes j ≡ true) ⊎ (j ≡ n) → (slot_at slots' j).choice ≡ (plan g rules j).choice
          chosen j (inl u) = ap (λ (x : Slot). x.choice) (v.others j (λ q. let z = w.before j u in let a = w.above n left_here in omega arith)) ∙ w.chosen j u
          chosen j (inr u) = subst (λ (i : ℕ). (slot_at slots' i).choice ≡ (plan g rules i).choice) (sym u) v.choice

    -- ---- a node that chooses

    module _ {b : Bool} (e : b ≡ chooses (node_at g n)) (t : b ≡ true) where
      chooses-here : chooses (node_at g n) ≡ true
      chooses-here = sym e ∙ t

      eligible-here : (x : ℕ) → elem x (node_at g n).successors ≡ true → rules.allowed n x && can g rules x ≡ bit (get_or eligible n 0) x
      unfolding is_eligible
      eligible-here x m = sym (o.each n here here-feasible chooses-here x ∙ rw m)

      taken-eligible : taken g rules (can g rules) n ≡ best (bit (get_or eligible n 0)) (rules.better n) (node_at g n).successors
      unfolding taken
      taken-eligible = best-same _ _ (rules.better n) (node_at g n).successors eligible-here

      eligible-successor : (x : ℕ) → bit (get_or eligible n 0) x ≡ true → (elem x (node_at g n).successors ≡ true) × (can g rules x ≡ true)
      unfolding is_eligible
      eligible-successor x m =
          let z = and-true (elem x (node_at g n).successors) (rules.allowed n x && can g rules x) (sym (o.each n here here-feasible chooses-here x) ∙ m) in
          (z.0, (and-true (rules.allowed n x) (can g rules x) z.1).1)

      is-best : IsBest (bit (get_or eligible n 0)) (rules.better n) (node_at g n).successors (best (bit (get_or eligible n 0)) (rules.better n) (node_at g n).successors)
      is-best = best-is (bit (get_or eligible n 0)) (rules.better n) (better-strict g qs n) (node_at g n).successors

      pub choosing_choice : Choice g n (get_or eligible n 0)
      choosing_choice = record { some_in = some_in (best (bit (get_or eligible n 0)) (rules.better n) (node_at g n).successors) is-best some-taken; successors = λ x m. (eligible-successor x m).0 }
        where
          some-taken : is_some (best (bit (get_or eligible n 0)) (rules.better n) (node_at g n).successors) ≡ true
          some-taken =
              ap is_some (sym taken-eligible)
              ∙ (rw chooses-here at (and-true (is_some (rules.least n)) (cond (chooses (node_at g n)) (is_some (taken g rules (can g rules) n)) (every (can g rules) (node_at g n).successors)) step-parts).1)

          positive : (m x : ℕ) → bit m x ≡ true → 0 < m
          positive zero x u = never (sym (no-bit x) ∙ u)
          positive (suc m) x u = omega arith

          some_in : (c : Option ℕ) → IsBest (bit (get_or eligible n 0)) (rules.better n) (node_at g n).successors c → is_some c ≡ true → 0 < get_or eligible n 0
          some_in none q u = never u
          some_in (some z) (a-best q) u = positive (get_or eligible n 0) z q.passes

      module _ {x : ℕ} (c : Chosen g qs n (get_or eligible n 0) x) where
        top : (elem x (node_at g n).successors ≡ true) × (bit (get_or eligible n 0) x ≡ true)
        top = go (best (bit (get_or eligible n 0)) (rules.better n) (node_at g n).successors) is-best c.is
          where
            go : (d : Option ℕ) → IsBest (bit (get_or eligible n 0)) (rules.better n) (node_at g n).successors d → d ≡ some x → (elem x (node_at g n).successors ≡ true) × (bit (get_or eligible n 0) x ≡ true)
            go none q u = absurd (let z : ◌≡◌ {A = ℕ} 0 1 = ap (λ (d : Option ℕ). cond (is_some d) 1 0) u in omega arith)
            go (some z) (a-best q) u =
                let i = some-injective z x u in
                (subst (λ (a : ℕ). elem a (node_at g n).successors ≡ true) i q.among, subst (λ (a : ℕ). bit (get_or eligible n 0) a ≡ true) i q.passes)

        range : (n < x) × (x < length g)
        range = successor-in g A n x top.0

        pub choice_below : x < 64
        choice_below = let z = range.1 in omega (arith, A.few)

        pub choice_small : x < 256
        choice_small = omega (arith, choice_below)

        plan-choice : (plan g rules n).choice ≡ x
        unfolding plan
        plan-choice = rw chooses-here (ap (λ (d : Option ℕ). Option.get_or d 255) (taken-eligible ∙ c.is))

        -- its slot with the choice
        abbrev taking : Slot
        taking = record { choice = x; bits = (slot_at slots n).bits }

        at-node : slot_at (set slots n taking) n ≡ taking
        at-node = get_or-set_same slots n taking no_slot choosing_slot

        at_other : (j : ℕ) → (j ≡ n → ⊥) → slot_at (set slots n taking) j ≡ slot_at slots j
        at_other j q = get_or-set_other slots n j taking no_slot q

        same-bits : (j : ℕ) → (slot_at (set slots n taking) j).bits ≡ (slot_at slots j).bits
        same-bits j = go (ℕ_discrete j n)
          where
            go : Dec (j ≡ n) → (slot_at (set slots n taking) j).bits ≡ (slot_at slots j).bits
            go (yes e) = subst (λ (i : ℕ). (slot_at (set slots n taking) i).bits ≡ (slot_at slots i).bits) (sym e) (ap (λ (x : Slot). x.bits) at-node)
            go (no f) = ap (λ (x : Slot). x.bits) (at_other j f)

        step-choose : {left₁ left' nodes' : ℕ} → left₁ ≡ turned left n → left' ≡ with left₁ x → nodes' ≡ with nodes n → Stepped left' nodes' (set slots n taking)
        unfolding reaches
        step-choose {left₁} {left'} a d s =
            record {
              to = λ j.
                  ap (λ (m : ℕ). bit m j) d
                  ∙ with-bit left₁ x j (let z = range.1 in omega (arith, A.few))
                  ∙ ap (λ (b : Bool). b || eqb j x) (ap (λ (m : ℕ). bit m j) a ∙ left-turned j)
                  ∙ ap (λ (b : Bool). (bit left j && not (eqb j n)) || b) (or-none (eqb j x) ∙ ap (elem j) (sym only));
              onward = λ j m. let q : j ≡ x = elem-one j x (ap (elem j) (sym only) ∙ m) in
                  (let z = range.0 in omega arith, let z = range.1 in omega arith, ap (can g rules) q ∙ (eligible-successor x top.1).1);
              taken-too = s;
              choice = ap (λ (x : Slot). x.choice) at-node ∙ sym plan-choice;
              others = at_other;
              same = same-bits;
              long = length-set slots n taking;
            }
          where
            only : cond (chooses (node_at g n)) ((plan g rules n).choice ∷ []) (node_at g n).successors ≡ x ∷ []
            only = rw chooses-here (ap (λ (c : ℕ). c ∷ []) plan-choice)

        module _ {left₁ left' nodes' : ℕ} (a : left₁ ≡ turned left n) (d : left' ≡ with left₁ x) (s : nodes' ≡ with nodes n) where
          pub choosing_step : Choosing g qs slots₀ (set slots n (record { choice = x; bits = (slot_at slots n).bits })) left' nodes'
          choosing_step = stepped (step-choose a d s)

          pub choosing_less : 64 - count_trailing_zeros 64 left' < 64 - count_trailing_zeros 64 left
          choosing_less = stepped-less (step-choose a d s)

    -- ---- a node that takes all

    module _ {v : ℕ} (d : v ≡ successor_set (node_at g n)) {b : Bool} (e : b ≡ chooses (node_at g n)) (t : b ≡ false)
        {left₁ nodes' : ℕ} (a : left₁ ≡ turned left n) (s : nodes' ≡ with nodes n) where
      all_here : chooses (node_at g n) ≡ false
      all_here = sym e ∙ t

      plan-none : (plan g rules n).choice ≡ 255
      unfolding plan
      plan-none = rw all_here refl

      every_here : every (can g rules) (node_at g n).successors ≡ true
      every_here = rw all_here at (and-true (is_some (rules.least n)) (cond (chooses (node_at g n)) (is_some (taken g rules (can g rules) n)) (every (can g rules) (node_at g n).successors)) step-parts).1

      step-all : Stepped (bit_or left₁ v) nodes' slots
      unfolding reaches
      step-all =
          record {
            to = λ j.
                or-bit left₁ v j
                ∙ ap₂ (λ (b c : Bool). b || c) (ap (λ (m : ℕ). bit m j) a ∙ left-turned j) (ap (λ (m : ℕ). bit m j) d ∙ successors-bit g A n j ∙ ap (elem j) (sym all));
            onward = λ j m.
                let u : elem j (node_at g n).successors ≡ true = ap (elem j) (sym all) ∙ m in
                let z = successor-in g A n j u in
                (z.0, z.1, every-at (can g rules) (node_at g n).successors every_here j u);
            taken-too = s;
            choice = w.blank n (w.above n left_here) here ∙ sym plan-none;
            others = λ j q. refl;
            same = λ j. refl;
            long = refl;
          }
        where
          all : cond (chooses (node_at g n)) ((plan g rules n).choice ∷ []) (node_at g n).successors ≡ (node_at g n).successors
          all = rw all_here

      pub choosing_all : Choosing g qs slots₀ slots (bit_or left₁ v) nodes'
      choosing_all = stepped step-all

      pub choosing_all_less : 64 - count_trailing_zeros 64 (bit_or left₁ v) < 64 - count_trailing_zeros 64 left
      choosing_all_less = stepped-less step-all
