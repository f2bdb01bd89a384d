-- The walk over the entries of the plan that slots hold, the lowest node's first: what holds of the entries to come, which are those of the nodes that are left.
-- Rests on the ascending nodes of a plan's entries, and on a sound schema for their number.
use mathlib.Core.Path.{◌≡◌, refl, ap, subst, ◌∙◌}
use mathlib.Core.List.{List, [], ◌∷◌, map}
use Prim.Native.Nat.{ℕ, suc, ◌≤◌, ◌<◌}
use lib.ListN.{length}
use Rattle.std.specs.List.{All}
use Rattle.std.proofs.lemmas.List.Elements.{All-nil, All-cons, All-head, All-rest, All-same}
use Rattle.fields.proofs.Bytes.{Bytes}
use Rattle.numbers.specs.Bits.{cardinality}
use Rattle.numbers.specs.Members.{members, members_left}
use Rattle.numbers.specs.declared.MembersLeft.{MembersLeft}
use Rattle.numbers.proofs.Bits.{cardinality-none}
use Rattle.numbers.proofs.InTurn.{no_members}
use Rattle.schema.specs.Schema.{schema_of}
use Rattle.schema.specs.Table.{Accepted}
use Rattle.schema.proofs.Accepted.{sound}
use Rattle.instances.specs.Instance.{Entry}
use Rattle.instances.specs.Plan.{nodes_of, plan_of, held}
use Rattle.instances.specs.declared.Slot.{Slot}
use Rattle.instances.proofs.Entries.{Own, own, AscendingFrom, none, more, planned-ascending, nodes-members, nodes-more}

-- node n is one of k
abbrev pub Below : ℕ → ℕ → Type 0
Below k n = n < k

-- ---- ascending entries

-- they are those of their nodes, each of which is below k, and as many
module _ {plan : ℕ → Entry} (mine : Own plan) {k : ℕ} (small : k ≤ 64) where
  all-planned : {low : ℕ} {es : List Entry} → AscendingFrom plan k low es → map plan (members (nodes_of es)) ≡ es
  unfolding nodes_of
  all-planned none = ap (map plan) (no_members refl)
  all-planned (more m {es} i j f) = ap (map plan) (nodes-members plan mine small m es j f) ∙ ap (λ (xs : List Entry). plan m ∷ xs) (all-planned f)

  all-below : {low : ℕ} {es : List Entry} → AscendingFrom plan k low es → All (Below k) (members (nodes_of es))
  unfolding nodes_of
  all-below none = All-same (Below k) _ _ (no_members refl) (All-nil (Below k))
  all-below (more m {es} i j f) = All-same (Below k) _ _ (nodes-members plan mine small m es j f) (All-cons (Below k) m (members (nodes_of es)) j (all-below f))

  count : {low : ℕ} {es : List Entry} → AscendingFrom plan k low es → cardinality (nodes_of es) ≡ length es
  unfolding nodes_of
  count none = cardinality-none
  count (more m {es} i j f) = nodes-more plan mine small m es j f ∙ ap suc (count f)

-- ---- the walk

-- P holds of the entries to come, those of the nodes that are left
pub record Walk (f : List ℕ) (slots : List Slot) (P : List Entry → Type 0) (left : List ℕ) : Type 0 where
  pub inside : All (Below (length (schema_of f))) left
  pub holds : P (map (plan_of (schema_of f) slots) left)

module _ (f : List ℕ) (slots : List Slot) (a : Accepted f) (b : Bytes f) where
  few : length (schema_of f) ≤ 64
  few = (sound f b a.some).few

  pub held-count : cardinality (nodes_of (held f slots)) ≡ length (held f slots)
  held-count = count (own (schema_of f) slots) few (planned-ascending (plan_of (schema_of f) slots) (schema_of f))

  pub walk_init : {P : List Entry → Type 0} {m : ℕ} {s t : MembersLeft} → t ≡ s → members_left s ≡ members m → m ≡ nodes_of (held f slots) → P (held f slots) → Walk f slots P (members_left t)
  walk_init q e h p =
      let ascending = planned-ascending (plan_of (schema_of f) slots) (schema_of f) in
      rw (q, e, h) (record { inside = all-below (own (schema_of f) slots) few ascending; holds = rw (all-planned (own (schema_of f) slots) few ascending) p })

module _ {f : List ℕ} {slots : List Slot} {P : List Entry → Type 0} {left : List ℕ} (w : Walk f slots P left) where
  pub walk-exit : left ≡ [] → P []
  walk-exit e = subst (λ (ns : List ℕ). P (map (plan_of (schema_of f) slots) ns)) e w.holds

  -- it is node n's turn
  module _ {n : ℕ} {others : List ℕ} (e : left ≡ n ∷ others) where
    pub walk_node : n < length (schema_of f)
    walk_node = All-head (Below (length (schema_of f))) n others (subst (All (Below (length (schema_of f)))) e w.inside)

    pub walk-holds : P (plan_of (schema_of f) slots n ∷ map (plan_of (schema_of f) slots) others)
    walk-holds = subst (λ (ns : List ℕ). P (map (plan_of (schema_of f) slots) ns)) e w.holds

    pub walk_step : {Q : List Entry → Type 0} → Q (map (plan_of (schema_of f) slots) others) → Walk f slots Q others
    walk_step h = record { inside = All-rest (Below (length (schema_of f))) n others left e w.inside; holds = h }
