-- The plan: the reached nodes' choices and the values of the sweep hold the reconciled instance, where the root is feasible.
-- Rests on the definition of `planned`: plans that agree on the nodes of an instance make the same.
use mathlib.Core.Path.{◌≡◌, refl, ap, ap₂, sym, ◌∙◌}
use mathlib.Core.Bool.{Bool, true, false, cond, ◌||◌}
use mathlib.Core.List.{List, [], ◌∷◌}
use mathlib.Core.Option.{none, some, some-injective}
use Prim.Native.Nat.{ℕ, zero, suc, ◌+◌, ◌≤◌}
use native.Mathlib.Omega.{arith}
use borrow.Author.Tests.{eq-eqb}
use lib.Dec.{eqb}
use lib.IntN.{ℤ}
use lib.ListN.{length}
use Rattle.fields.proofs.Tests.{or_left, or_right}
use Rattle.numbers.specs.Bits.{bit, with}
use Rattle.numbers.proofs.Bits.{with-bit}
use Rattle.schema.specs.Schema.{Node, schema_of, node_at}
use Rattle.schema.specs.Table.{Accepted}
use Rattle.policies.specs.Policies.{Policy}
use Rattle.policies.proofs.Nodes.{nodes-few}
use Rattle.instances.specs.Instance.{Entry}
use Rattle.instances.specs.File.{reached}
use Rattle.instances.specs.Plan.{planned_from, planned, nodes_of, values_from, plan_of, Unchosen}
use Rattle.instances.specs.declared.Slot.{Slot}
use Rattle.model.specs.Reconciling.{can, plan, rules_of, reconcile, reconciled}
use Rattle.planning.specs.Plan.{plan_for, Plans}
use Rattle.planning.specs.Sweep.{Swept, Eligible, Reached}
use Rattle.std.specs.Prelude.{Some, None}

-- ---- plans that agree on the nodes of the first one's instance

module _ (g : List Node) (mine other : ℕ → Entry) (own : (n : ℕ) → (mine n).node ≡ n) where
  from-agree : (k n : ℕ) (es : List Entry) → n + k ≤ 64 → ((m : ℕ) → bit (nodes_of (planned_from g mine k n es)) m ≡ true → mine m ≡ other m) → planned_from g mine k n es ≡ planned_from g other k n es
  unfolding planned_from nodes_of
  from-agree zero n es l f = refl
  from-agree (suc k) n es l f = go (reached g es n) f (from-agree k (n + 1) (mine n ∷ es) (omega arith)) (from-agree k (n + 1) es (omega arith))
    where
      Agree : List Entry → Type 0
      Agree es = (m : ℕ) → bit (nodes_of es) m ≡ true → mine m ≡ other m

      go : (b : Bool) → Agree (cond b (mine n ∷ planned_from g mine k (n + 1) (mine n ∷ es)) (planned_from g mine k (n + 1) es))
          → (Agree (planned_from g mine k (n + 1) (mine n ∷ es)) → planned_from g mine k (n + 1) (mine n ∷ es) ≡ planned_from g other k (n + 1) (mine n ∷ es))
          → (Agree (planned_from g mine k (n + 1) es) → planned_from g mine k (n + 1) es ≡ planned_from g other k (n + 1) es)
          → cond b (mine n ∷ planned_from g mine k (n + 1) (mine n ∷ es)) (planned_from g mine k (n + 1) es) ≡ cond b (other n ∷ planned_from g other k (n + 1) (other n ∷ es)) (planned_from g other k (n + 1) es)
      go true f take skip =
          ap (λ (l : List Entry). mine n ∷ l) (take (λ m t. f m (node m ∙ or_left (bit (nodes_of rest) m) (eqb m n) t)))
          ∙ ap (λ (e : Entry). e ∷ planned_from g other k (n + 1) (e ∷ es)) (f n (node n ∙ or_right (bit (nodes_of rest) n) (eqb n n) (eq-eqb n n refl)))
        where
          rest : List Entry
          rest = planned_from g mine k (n + 1) (mine n ∷ es)

          node : (m : ℕ) → bit (with (nodes_of rest) (mine n).node) m ≡ bit (nodes_of rest) m || eqb m n
          node m = ap (λ (x : ℕ). bit (with (nodes_of rest) x) m) (own n) ∙ with-bit (nodes_of rest) n m (omega arith)
      go false f take skip = skip f

  planned-agree : length g ≤ 64 → ((m : ℕ) → bit (nodes_of (planned g mine)) m ≡ true → mine m ≡ other m) → planned g mine ≡ planned g other
  unfolding planned
  planned-agree l f = from-agree (length g) 0 [] (omega arith) f

-- ---- the answer

module _ (s : List ℕ) (qs : List Policy) (eligible : List ℕ) (slots₀ : List Slot) {feasible : ℕ} (A : Accepted s) (w : Swept s qs 0 feasible eligible slots₀) {b : Bool} (e : b ≡ bit feasible 0) where
  abbrev g : List Node
  g = schema_of s

  root_is : {t : Bool} → b ≡ t → can g (rules_of g qs) 0 ≡ t
  root_is q = sym (w.known 0 (omega arith) A.some) ∙ sym e ∙ q

  pub answer_unchosen : Unchosen s slots₀
  answer_unchosen = w.unchosen

  pub answer_eligible : b ≡ true → Eligible s qs eligible
  answer_eligible q = record { root = root_is q; some-nodes = A.some; each = λ m h. w.eligible-is m (omega arith) h; room = w.eligible-room }

  -- the root is feasible
  pub plans_some : (slots : List Slot) {nodes : ℕ} → b ≡ true → Reached g qs slots₀ slots nodes → Plans g (reconciled g qs) slots (Some nodes)
  unfolding plan_for reconciled reconcile plan plan_of
  plans_some slots {nodes} q d =
      record {
        answer = rw (root_is q) (ap Some d.is);
        holds = λ i z. sym held ∙ some-injective (planned g (plan g (rules_of g qs))) i (rw (root_is q) at z);
      }
    where
      agree : (m : ℕ) → bit nodes m ≡ true → plan g (rules_of g qs) m ≡ plan_of g slots m
      agree m t =
          sym (ap₂ (λ (a : ℕ) (us : List ℤ). record { node = m; choice = a; values = us }) (d.chosen m t)
          (ap (λ (us : List ℕ). values_from (node_at g m).variables us 0) (d.values m) ∙ w.values m (omega arith) (d.below m t) (d.feasible m t)))

      held : planned g (plan g (rules_of g qs)) ≡ planned g (plan_of g slots)
      held = planned-agree g (plan g (rules_of g qs)) (plan_of g slots) (λ n. refl) (nodes-few s) (λ m t. agree m (ap (λ (x : ℕ). bit x m) d.is ∙ t))

  -- or it is not
  pub plans_none : b ≡ false → Plans g (reconciled g qs) slots₀ None
  unfolding plan_for reconciled reconcile
  plans_none q =
      record {
        answer = rw (root_is q) refl;
        holds = λ i z. let y : none ≡ some i = rw (root_is q) at z in absurd (let k : ◌≡◌ {A = ℕ} 0 1 = cc in omega arith);
      }
