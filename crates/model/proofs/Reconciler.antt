-- `reconcile` is right: its answer is planned from the nodes that can be met, and every node that a rival reaches can be.
-- Rests on a sound schema and lawful rules, and for `as-good` on a total order too, through `total-best`.
use mathlib.Core.Path.{◌≡◌, refl, sym, subst, ap, ap₂, ◌∙◌, fun_ext}
use mathlib.Core.Logic.{◌⊎◌, inl, inr}
use mathlib.Core.List.{List, [], ◌∷◌, Memᴰ}
use mathlib.Core.Bool.{Bool, true, false, cond, ◌&&◌}
use mathlib.Core.Option.{Option, none, some, get_or, some-injective}
use Prim.Native.Nat.{ℕ, ◌<◌}
use native.Mathlib.Omega.{arith}
use borrow.Author.Tests.{eq-eqb}
use lib.Dec.{eqb}
use lib.ListN.{length}
use lib.IntN.{ℤ}
use Rattle.fields.proofs.Tests.{and_yes, and-true, never}
use Rattle.schema.specs.Schema.{Node, node_at}
use Rattle.schema.proofs.Sound.{Sound}
use Rattle.instances.specs.Instance.{Entry, elem, chooses, reaches, right_choice, has}
use Rattle.instances.specs.Plan.{planned}
use Rattle.instances.proofs.IsInstance.{in_domains, Reached, root, IsInstance}
use Rattle.instances.proofs.Valid.{successor-in}
use Rattle.instances.proofs.RoundTrip.{reached-below}
use Rattle.instances.proofs.Planned.{Sure, planned-is, planned-mine, planned-good}
use Rattle.model.specs.Satisfaction.{every}
use Rattle.model.specs.Order.{choice_at}
use Rattle.model.specs.Reconciling.{Rules, is_some, best, taken, can_step, can, plan, reconcile}
use Rattle.model.proofs.Lawful.{MeetsRules, Total, IsLeast, Lawful}
use Rattle.model.proofs.Relations.{values_at, AtLeast, at_same, at-better, SameChoices, no_lower, NoneLower, Best, Right}
use Rattle.model.proofs.Lists.{elem-one, every-at, at_every, every-same}
use Rattle.model.proofs.Levels.{descend, within_step, by-table}
use Rattle.model.proofs.Entries.{no-entry, has-reached, at-node, domains-at, spread, picks, picked}
use Rattle.model.proofs.Successors.{Top, IsBest, no-best, a-best, best-is, total-best, best-same}
use Rattle.model.proofs.Order.{at_rest}

-- ---- a node's step looks at the rules of that node alone

module _ (g : List Node) (r q : Rules) (n : ℕ) (a : (s : ℕ) → r.allowed n s ≡ q.allowed n s) (b : (x y : ℕ) → r.better n x y ≡ q.better n x y) (l : r.least n ≡ q.least n) (h : ℕ → Bool) where
  pub taken-same : taken g r h n ≡ taken g q h n
  unfolding taken
  taken-same =
      ap₂ (λ (allowed : ℕ → Bool) (better : ℕ → ℕ → Bool). best (λ (s : ℕ). allowed s && h s) better (node_at g n).successors) (fun_ext a) (fun_ext (λ x. fun_ext (b x)))

  pub step_same : can_step g r h n ≡ can_step g q h n
  unfolding can_step
  step_same =
      ap₂ (λ (values : Option (List ℤ)) (successor : Option ℕ). is_some values && cond (chooses (node_at g n)) (is_some successor) (every h (node_at g n).successors)) l taken-same

module _ (g : List Node) (A : Sound g) (r : Rules) where
  above : (n s : ℕ) → elem s (node_at g n).successors ≡ true → n < s
  above n s m = (successor-in g A n s m).0

  below : (n s : ℕ) → elem s (node_at g n).successors ≡ true → s < length g
  below n s m = (successor-in g A n s m).1

  -- ---- a node's step looks at its successors alone

  Alike : (ℕ → Bool) → (ℕ → Bool) → ℕ → Type 0
  Alike h k n = (s : ℕ) → n < s → s < length g → h s ≡ k s

  taken-local : (h k : ℕ → Bool) (n : ℕ) → Alike h k n → taken g r h n ≡ taken g r k n
  unfolding taken Alike
  taken-local h k n f =
      best-same _ _ (r.better n) (node_at g n).successors (λ s m. let e = f s (above n s m) (below n s m) in cc)

  can-local : (h k : ℕ → Bool) (n : ℕ) → n < length g → Alike h k n → can_step g r h n ≡ can_step g r k n
  unfolding can_step Alike
  can-local h k n l f =
      ap₂ (λ (a b : Bool). is_some (r.least n) && cond (chooses (node_at g n)) a b) (ap is_some (taken-local h k n f))
      (every-same h k (node_at g n).successors (λ s m. f s (above n s m) (below n s m)))

  can-step : (n : ℕ) → n < length g → can g r n ≡ can_step g r (can g r) n
  unfolding can Alike
  can-step n l = within_step (length g) (λ n. n < length g) (λ n l. l) (can_step g r) can-local n l

  -- for an engine: a table that is right above n gives what is right at n
  pub can-by-table : (tab : ℕ → Bool) (n : ℕ) → n < length g → ((s : ℕ) → n < s → s < length g → tab s ≡ can g r s) → can_step g r tab n ≡ can g r n
  unfolding can Alike
  can-by-table tab n l f = by-table (length g) (λ n. n < length g) (λ n l. l) (can_step g r) can-local tab n l f

  module _ (L : Lawful g r) where
    -- ---- what is known of a node that can be met

    passes : ℕ → ℕ → Bool
    passes n s = r.allowed n s && can g r s

    left : ℕ → List ℤ → Bool
    left n xs = in_domains (node_at g n).variables xs && L.admits n xs

    record Met (n : ℕ) : Type 0 where
      values : IsLeast no_lower (left n) (some (plan g r n).values)
      choice : chooses (node_at g n) ≡ true → Top (passes n) (r.better n) (node_at g n).successors (plan g r n).choice
      rest : chooses (node_at g n) ≡ false → ((plan g r n).choice ≡ 255) × (every (can g r) (node_at g n).successors ≡ true)

    best_of : (n : ℕ) → IsBest (passes n) (r.better n) (node_at g n).successors (taken g r (can g r) n)
    unfolding passes taken
    best_of n = best-is (passes n) (r.better n) (L.strict n) (node_at g n).successors

    met : (n : ℕ) → n < length g → can g r n ≡ true → Met n
    unfolding can_step plan left
    met n l t = record { values = values (r.least n) (L.least-is n) parts.0; choice = λ w. choice w (rw w at parts.1); rest = λ w. rest w (rw w at parts.1) }
      where
        parts : (is_some (r.least n) ≡ true) × (cond (chooses (node_at g n)) (is_some (taken g r (can g r) n)) (every (can g r) (node_at g n).successors) ≡ true)
        parts = and-true (is_some (r.least n)) (cond (chooses (node_at g n)) (is_some (taken g r (can g r) n)) (every (can g r) (node_at g n).successors)) (sym (can-step n l) ∙ t)

        values : (o : Option (List ℤ)) → IsLeast no_lower (left n) o → is_some o ≡ true → IsLeast no_lower (left n) (some (get_or o []))
        values none w h = never h
        values (some xs) w h = w

        choice : chooses (node_at g n) ≡ true → is_some (taken g r (can g r) n) ≡ true → Top (passes n) (r.better n) (node_at g n).successors (plan g r n).choice
        choice w h = rw w (go (taken g r (can g r) n) (best_of n) h)
          where
            go : (o : Option ℕ) → IsBest (passes n) (r.better n) (node_at g n).successors o → is_some o ≡ true → Top (passes n) (r.better n) (node_at g n).successors (get_or o 255)
            go none b h = never h
            go (some z) (a-best b) h = b

        rest : chooses (node_at g n) ≡ false → every (can g r) (node_at g n).successors ≡ true → ((plan g r n).choice ≡ 255) × (every (can g r) (node_at g n).successors ≡ true)
        rest w h = (rw w refl, h)

    -- ---- the answer is an instance, and meets the rules

    own-node : (n : ℕ) → (plan g r n).node ≡ n
    unfolding plan
    own-node n = refl

    record Good (n : ℕ) : Type 0 where
      below-count : n < length g
      can-be : can g r n ≡ true

    met_of : (n : ℕ) → Good n → Met n
    met_of n k = met n k.below-count k.can-be

    answer : List Entry
    answer = planned g (plan g r)

    module _ (t : can g r 0 ≡ true) where
      sure : Sure g (plan g r) Good
      unfolding right_choice reaches passes left
      sure =
          record {
            own = own-node;
            root = record { below-count = A.some; can-be = t };
            choice = λ n k. choice n (met_of n k) (chooses (node_at g n)) refl;
            values = λ n k. (and-true (in_domains (node_at g n).variables (plan g r n).values) (L.admits n (plan g r n).values) (met_of n k).values.0).0;
            on = λ n s k e. next n s (met_of n k) (chooses (node_at g n)) refl e;
          }
        where
          choice : (n : ℕ) → Met n → (c : Bool) → chooses (node_at g n) ≡ c → cond c (elem (plan g r n).choice (node_at g n).successors) (eqb (plan g r n).choice 255) ≡ true
          choice n k true w = (k.choice w).among
          choice n k false w = eq-eqb (plan g r n).choice 255 (k.rest w).0

          next : (n s : ℕ) → Met n → (c : Bool) → chooses (node_at g n) ≡ c → elem s (cond c ((plan g r n).choice ∷ []) (node_at g n).successors) ≡ true → Good s
          next n s k true w e =
              let z = elem-one s (plan g r n).choice e in
              let q = k.choice w in
              record { below-count = rw z (below n (plan g r n).choice q.among); can-be = rw z (and-true (r.allowed n (plan g r n).choice) (can g r (plan g r n).choice) q.passes).1 }
          next n s k false w e = record { below-count = below n s e; can-be = every-at (can g r) (node_at g n).successors (k.rest w).1 s e }

      answer-instance : IsInstance g answer
      unfolding answer
      answer-instance = planned-is g A (plan g r) Good sure

      answer-entry : (e : Entry) → Memᴰ e answer → (e ≡ plan g r e.node) × Good e.node
      unfolding answer
      answer-entry e m = planned-mine g A (plan g r) Good sure e m

      answer-met : {n : ℕ} → Reached g answer n → Met n
      unfolding answer
      answer-met {n} k = met_of n (planned-good g A (plan g r) Good sure k)

      answer_at : {n : ℕ} → Reached g answer n → (choice_at answer n ≡ (plan g r n).choice) × (values_at answer n ≡ (plan g r n).values)
      answer_at k =
          at-node g A answer answer-instance (λ n c xs. (c ≡ (plan g r n).choice) × (xs ≡ (plan g r n).values))
          (λ e m. let q = (answer-entry e m).0 in (ap (λ (d : Entry). d.choice) q, ap (λ (d : Entry). d.values) q)) k

      answer-meets : MeetsRules g r L.admits answer
      unfolding passes left
      answer-meets = record { choices = λ e m w. choice e (answer-entry e m) w; values = λ e m. value e (answer-entry e m) }
        where
          choice : (e : Entry) → (e ≡ plan g r e.node) × Good e.node → chooses (node_at g e.node) ≡ true → r.allowed e.node e.choice ≡ true
          choice e k w =
              ap (λ (d : Entry). r.allowed e.node d.choice) k.0
              ∙ (and-true (r.allowed e.node (plan g r e.node).choice) (can g r (plan g r e.node).choice) ((met_of e.node k.1).choice w).passes).0

          value : (e : Entry) → (e ≡ plan g r e.node) × Good e.node → L.admits e.node e.values ≡ true
          value e k =
              ap (λ (d : Entry). L.admits e.node d.values) k.0
              ∙ (and-true (in_domains (node_at g e.node).variables (plan g r e.node).values) (L.admits e.node (plan g r e.node).values) (met_of e.node k.1).values.0).1

    -- ---- every node that a rival reaches can be met

    module _ (j : List Entry) (J : IsInstance g j) (M : MeetsRules g r L.admits j) where
      rival-allowed : {n : ℕ} → Reached g j n → chooses (node_at g n) ≡ true → r.allowed n (choice_at j n) ≡ true
      rival-allowed k = at-node g A j J (λ n c xs. chooses (node_at g n) ≡ true → r.allowed n c ≡ true) M.choices k

      rival-left : {n : ℕ} → Reached g j n → left n (values_at j n) ≡ true
      unfolding left
      rival-left {n} k = and_yes (domains-at g A j J k) (at-node g A j J (λ n c xs. L.admits n xs ≡ true) M.values k)

      rival-can : {n : ℕ} → Reached g j n → can g r n ≡ true
      unfolding can_step left passes
      rival-can {n} k = descend (length g) (Reached g j) (λ n k. reached-below g A j J k) (λ n. can g r n ≡ true) down n k
        where
          some-least : (n : ℕ) → Reached g j n → (o : Option (List ℤ)) → IsLeast no_lower (left n) o → is_some o ≡ true
          some-least n k none w = absurd (w (values_at j n) (rival-left k))
          some-least n k (some xs) w = refl

          down : (n : ℕ) → Reached g j n → ((s : ℕ) → n < s → Reached g j s → can g r s ≡ true) → can g r n ≡ true
          down n k ih = can-step n (reached-below g A j J k) ∙ and_yes (some-least n k (r.least n) (L.least-is n)) (go (chooses (node_at g n)) refl)
            where
              go : (c : Bool) → chooses (node_at g n) ≡ c → cond c (is_some (taken g r (can g r) n)) (every (can g r) (node_at g n).successors) ≡ true
              go false w = at_every (can g r) (node_at g n).successors (λ s m. ih s (above n s m) (spread g A j J k w s m))
              go true w = one (taken g r (can g r) n) (best_of n)
                where
                  p : elem (choice_at j n) (node_at g n).successors ≡ true
                  p = picks g A j J k w

                  one : (o : Option ℕ) → IsBest (passes n) (r.better n) (node_at g n).successors o → is_some o ≡ true
                  one none (no-best f) = absurd (f (choice_at j n) p (and_yes (rival-allowed k w) (ih (choice_at j n) (above n _ p) (picked g A j J k w))))
                  one (some z) b = refl

      -- ---- and no choice or value of a rival's is better

      module _ (t : can g r 0 ≡ true) where
        none-better : {n : ℕ} → Reached g answer n → Reached g j n → chooses (node_at g n) ≡ true → r.better n (choice_at j n) (plan g r n).choice ≡ true → ⊥
        unfolding passes
        none-better {n} k l w = ((answer-met t k).choice w).unbeaten (choice_at j n) (picks g A j J l w) (and_yes (rival-allowed l w) (rival-can (picked g A j J l w)))

        as-good : ((n : ℕ) → Total (r.better n)) → AtLeast g r.better answer j 0
        as-good Q =
            descend (length g) (λ n. Reached g answer n × Reached g j n) (λ n k. reached-below g A j J k.1) (AtLeast g r.better answer j) (λ n k ih. down n k.0 k.1 ih (chooses (node_at g n)) refl)
            0 (root, root)
          where
            I : IsInstance g answer
            I = answer-instance t

            down : (n : ℕ) → Reached g answer n → Reached g j n → ((s : ℕ) → n < s → Reached g answer s × Reached g j s → AtLeast g r.better answer j s)
                → (c : Bool) → chooses (node_at g n) ≡ c → AtLeast g r.better answer j n
            down n k l ih false w =
                at_rest g r.better A (reached-below g A j J l) w (λ s m. ih s (above n s m) (spread g A answer I k w s m, spread g A j J l w s m))
            down n k l ih true w = which (total-best (r.better n) (Q n) (plan g r n).choice (choice_at j n) (none-better k l w))
              where
                which : ((plan g r n).choice ≡ choice_at j n) ⊎ (r.better n (plan g r n).choice (choice_at j n) ≡ true) → AtLeast g r.better answer j n
                which (inl z) =
                    let c : choice_at answer n ≡ choice_at j n = (answer_at t k).0 ∙ z in
                    at_same w c (ih (choice_at answer n) (above n _ (picks g A answer I k w)) (picked g A answer I k w, subst (Reached g j) (sym c) (picked g A j J l w)))
                which (inr z) = at-better w (rw (answer_at t k).0 z)

        lowest : SameChoices answer j → NoneLower answer j
        unfolding no_lower
        lowest same n = go (has answer n) refl
          where
            go : (b : Bool) → has answer n ≡ b → no_lower (values_at answer n) (values_at j n) ≡ true
            go true h =
                let k = has-reached g A answer (answer-instance t) h in
                let l = has-reached g A j J (sym (same.nodes n) ∙ h) in
                rw (answer_at t k).1 ((answer-met t k).values.1 (values_at j n) (rival-left l))
            go false h = rw (no-entry answer n h) refl

    -- ---- the theorem

    pub lawful-right : ((n : ℕ) → Total (r.better n)) → Right g (MeetsRules g r L.admits) r.better (reconcile g r)
    unfolding reconcile answer
    lawful-right Q = go (can g r 0) refl
      where
        go : (b : Bool) → can g r 0 ≡ b → Right g (MeetsRules g r L.admits) r.better (cond b (some (planned g (plan g r))) none)
        go true t =
            record {
              refused = (λ e. absurd (let z : ◌≡◌ {A = ℕ} 0 1 = cc in omega arith), λ f. absurd (f answer (answer-instance t) (answer-meets t)));
              given = λ i e. subst (Best g (MeetsRules g r L.admits) r.better) (some-injective answer i e) answer-best;
            }
          where
            answer-best : Best g (MeetsRules g r L.admits) r.better answer
            answer-best = record { is-instance = answer-instance t; meets = answer-meets t; as-good = λ j J M. as-good j J M t Q; lowest = λ j J M. lowest j J M t }
        go false t =
            record {
              refused = (λ e j J M. never (sym t ∙ rival-can j J M root), λ f. refl);
              given = λ i e. absurd (let z : ◌≡◌ {A = ℕ} 0 1 = cc in omega arith);
            }
