-- The values from here on are left to judge.
-- Rests on where the conditions of a PN stand, of the crate policies.
use mathlib.Core.Path.{◌≡◌, refl, ap, sym, ◌∙◌}
use mathlib.Core.Bool.{Bool, true, false, cond}
use mathlib.Core.Option.{some}
use mathlib.Core.List.{List, [], ◌∷◌}
use Prim.Native.Nat.{ℕ, ◌+◌, ◌*◌, ◌≤◌, ◌<◌}
use native.Mathlib.Omega.{arith}
use lib.ListN.{length, get_or, drop, drop_of_length-le}
use mir.Syntax.{w64}
use mir.Val.{Fits}
use Rattle.schema.specs.Schema.{Node, node_at, variable_at}
use Rattle.schema.specs.Table.{AtMost}
use Rattle.schema.specs.Layout.{rank_count, span, offset_of}
use Rattle.schema.specs.declared.Variable.{Variable}
use Rattle.schema.specs.declared.Variable.TheVariants.{Number, Listed}
use Rattle.policies.specs.Policies.{Policy}
use Rattle.policies.proofs.Nodes.{offset-first, offset-next}
use Rattle.instances.specs.File.{value_width, values_width, value_of}
use Rattle.instances.specs.Plan.{values_from}
use Rattle.instances.proofs.Node.{vars_more}
use Rattle.model.specs.Satisfaction.{admitted}
use Rattle.model.specs.Comparing.{forbidden_value}
use Rattle.checker.specs.Checks.{Found, forbidden_in}
use Rattle.std.specs.Prelude.{Some, None}

span-most : (v : Variable) → span v ≤ 8
unfolding span
span-most (Number lo hi) = omega arith
span-most (Listed size) = omega arith

-- those from variable k on are left, whose value stands at p, and whose condition so far after a PN's first rank
pub record Judging (g : List Node) (ps : List Policy) (n : ℕ) (bits : List ℕ) (X : Found) (k p skip : ℕ) : Type 0 where
  pub rest : forbidden_in (forbidden_value ps n k (drop k (node_at g n).variables) (values_from (drop k (node_at g n).variables) bits k) p) ≡ X
  pub room : p + values_width (drop k (node_at g n).variables) ≤ 1283
  pub place : skip ≡ offset_of (node_at g n) k
  pub small : skip ≤ 8 + 8 * k

pub judging_init : (g : List Node) (ps : List Policy) (n : ℕ) (bits : List ℕ) (p : ℕ) {skip : ℕ} → p + values_width (node_at g n).variables ≤ 1283 → AtMost 8 (rank_count (node_at g n)) skip
    → Judging g ps n bits (forbidden_in (forbidden_value ps n 0 (node_at g n).variables (values_from (node_at g n).variables bits 0) p)) 0 p skip
judging_init g ps n bits p r m = record { rest = refl; room = r; place = offset-first (node_at g n) m; small = omega (arith, m.most) }

module _ (g : List Node) (ps : List Policy) (n : ℕ) (bits : List ℕ) {X : Found} (k p skip : ℕ) {m : ℕ} (w : Judging g ps n bits X k p skip) (l : AtMost 4 (length (node_at g n).variables) m) where
  pub judging_exit : m ≤ k → None ≡ X
  unfolding forbidden_value
  judging_exit h =
      let d : drop k (node_at g n).variables ≡ [] = drop_of_length-le (node_at g n).variables {i = k} (omega (arith, l.is)) in
      sym (ap (λ (l : List Variable). forbidden_in (forbidden_value ps n k l (values_from l bits k) p)) d) ∙ w.rest

  module _ (h : k < m) where
    abbrev v : Variable
    v = variable_at g n k

    abbrev vs : List Variable
    vs = drop (k + 1) (node_at g n).variables

    abbrev value : ℕ
    value = get_or bits k 0

    first : drop k (node_at g n).variables ≡ v ∷ vs
    first = vars_more (node_at g n) k l h refl

    widths : values_width (drop k (node_at g n).variables) ≡ value_width v + values_width vs
    unfolding values_width
    widths = ap values_width first

    judged : forbidden_in (cond (admitted ps n k v (value_of v value)) (forbidden_value ps n (k + 1) vs (values_from vs bits (k + 1)) (p + value_width v)) (some p)) ≡ X
    unfolding forbidden_value values_from
    judged = sym (ap (λ (l : List Variable). forbidden_in (forbidden_value ps n k l (values_from l bits k) p)) first) ∙ w.rest

    pub judging_below : k < length (node_at g n).variables
    judging_below = omega (arith, l.is)

    pub judging_place : skip ≡ offset_of (node_at g n) k
    judging_place = w.place

    pub judging_no : {r : Bool} → r ≡ admitted ps n k v (value_of v value) → r ≡ false → Some p ≡ X
    judging_no q t =
        sym (ap (λ (b : Bool). forbidden_in (cond b (forbidden_value ps n (k + 1) vs (values_from vs bits (k + 1)) (p + value_width v)) (some p))) (sym q ∙ t)) ∙ judged

    pub value_fits : {x : Variable} {y : ℕ} → x ≡ v → y ≡ value_width x → Fits w64 (p + y)
    value_fits e i = record { fits = omega (arith, w.room, widths, i ∙ ap value_width e) }

    pub skip_fits : (x : Variable) {y : ℕ} → y ≡ span x → Fits w64 (skip + y)
    skip_fits x i = record { fits = omega (arith, l.is, l.most, w.small, i, span-most x) }

    pub judging_step : {r : Bool} {x : Variable} {a b : ℕ} → r ≡ admitted ps n k v (value_of v value) → r ≡ true → x ≡ v → a ≡ value_width x → b ≡ span x
        → Judging g ps n bits X (k + 1) (p + a) (skip + b)
    judging_step {x = x} {a} {b} q t e i o =
        let ea : a ≡ value_width v = i ∙ ap value_width e in
        let eb : b ≡ span v = o ∙ ap span e in
        record {
          rest =
              ap (λ (i : ℕ). forbidden_in (forbidden_value ps n (k + 1) vs (values_from vs bits (k + 1)) (p + i))) ea
              ∙ sym (ap (λ (b : Bool). forbidden_in (cond b (forbidden_value ps n (k + 1) vs (values_from vs bits (k + 1)) (p + value_width v)) (some p))) (sym q ∙ t))
              ∙ judged;
          room = omega (arith, w.room, widths, ea);
          place = ap (λ (i : ℕ). skip + i) eb ∙ offset-next (node_at g n) k w.place judging_below;
          small = omega (arith, w.small, eb, span-most v);
        }
