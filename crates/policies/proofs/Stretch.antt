-- The PN of an accepted file, each read on its own stretch: from where its ranks begin.
-- Rests on Stands: what the bytes of an accepted file spell, and so what a reading of them gives.
use mathlib.Core.Path.{◌≡◌, refl, ap, sym, subst, ◌∙◌}
use mathlib.Core.Bool.{true}
use mathlib.Core.List.{List, [], ◌∷◌}
use Prim.Native.Nat.{ℕ, suc, ◌+◌}
use native.Mathlib.Omega.{arith}
use native.Mathlib.Nat.{add-zero}
use lib.ListN.{length, get_or, drop, length-drop}
use lib.Seq.{get_or-drop, drop-drop}
use Rattle.fields.specs.Reading.{Got, got, bad, part, be, field, many}
use Rattle.fields.proofs.Reading.{whole_got}
use Rattle.fields.proofs.Back.{be1}
use Rattle.fields.proofs.Bytes.{be-same}
use Rattle.fields.proofs.Tests.{never}
use Rattle.schema.specs.Schema.{Node, node_at}
use Rattle.schema.specs.declared.Variable.{Variable}
use Rattle.schema.specs.declared.Variable.TheVariants.{Number, Listed}
use Rattle.schema.specs.Layout.{rank_count}
use Rattle.policies.specs.Policies.{Condition, Rule, ranks, condition, conditions, rule_of}
use Rattle.policies.specs.Widths.{condition_width}
use Rattle.policies.specs.Rows.{rule_in, rule_at, was_read, RuleAt}
use Rattle.policies.proofs.Stands.{ConditionAt, ConditionsAt, none, more, RanksAt, RuleAt as Stands}

-- ---- a PN that stands somewhere is read there

condition-there : (s : List ℕ) (v : Variable) (p : ℕ) {c : Condition} → ConditionAt s p v c → condition s v p ≡ got c (p + condition_width c)
unfolding condition condition_width part field
condition-there s (Number lo hi) p {c} h =
    let i = h.inside in
    let z : p + 4 + 4 ≡ p + 8 = omega arith in
    rw (h.is, whole_got 4 s p (omega arith), whole_got 4 s (p + 4) (omega arith), z)
condition-there s (Listed size) p h = rw (h.is, whole_got 4 s p h.inside, h.within)

conditions-there : {s : List ℕ} {p : ℕ} {vs : List Variable} {cs : List Condition} → ConditionsAt s p vs cs → (q : ℕ) × (conditions s vs p ≡ got cs q)
unfolding conditions part
conditions-there {p = p} none = (p, refl)
conditions-there {s} {p} (more {v = v} {vs} {c} {cs} h t) =
    let r = conditions-there t in
    (r.0, rw (condition-there s v p h, r.1))

ranks-there : (s : List ℕ) (p : ℕ) (rs : List ℕ) → RanksAt s p rs → ranks s (length rs) p ≡ got rs (p + length rs)
unfolding ranks many part
ranks-there s p [] w = ap (λ (q : ℕ). got [] q) (sym (add-zero p))
ranks-there s p (r ∷ rs) w =
    let i = w.inside (omega arith) in
    let e : be 1 s p ≡ r = be1 s p ∙ ap (λ (j : ℕ). get_or s j 0) (sym (add-zero p)) ∙ sym (w.each 0 (omega arith)) in
    let z : p + 1 + length rs ≡ p + suc (length rs) = omega arith in
    let t = ranks-there s (p + 1) rs (record {
      inside = λ h. omega arith;
      each = λ k h. w.each (suc k) (omega arith) ∙ ap (λ (j : ℕ). get_or s j 0) (let z : p + suc k ≡ p + 1 + k = omega arith in z);
    }) in
    rw (whole_got 1 s p (omega arith), e, t, z)

pub rule-there : (s : List ℕ) (y : Node) (n p : ℕ) (x : Rule) → x.node ≡ n → length x.ranks ≡ rank_count y → RanksAt s p x.ranks
    → ConditionsAt s (p + length x.ranks) y.variables x.conditions → (q : ℕ) × (rule_of s y n p ≡ got x q)
unfolding rule_of part
rule-there s y n p x a e r c =
    let t = conditions-there c in
    (t.0, rw (sym e, ranks-there s p x.ranks r, t.1) (ap (λ (m : ℕ). got (record { node = m; ranks = x.ranks; conditions = x.conditions }) t.0) (sym a)))

-- ---- what stands in the file stands in its stretch from h on

module _ (h : ℕ) (s : List ℕ) where
  pub be-stretch : (w p : ℕ) → be w s (h + p) ≡ be w (drop h s) p
  be-stretch w p =
      be-same w s (drop h s) (h + p) p (λ i k. ap (λ (j : ℕ). get_or s j 0) (let z : h + p + i ≡ h + (p + i) = omega arith in z) ∙ sym (get_or-drop h s (p + i) 0))

  condition-stretch : (v : Variable) (p : ℕ) (c : Condition) → ConditionAt s (h + p) v c → ConditionAt (drop h s) p v c
  condition-stretch (Number lo hi) p c r =
      let z : h + p + 4 ≡ h + (p + 4) = omega arith in
      record { is = rw (sym (be-stretch 4 p), sym (be-stretch 4 (p + 4)), sym z) r.is; inside = omega (arith, length-drop h s, r.inside) }
  condition-stretch (Listed size) p c r =
      record { is = rw (sym (be-stretch 4 p)) r.is; inside = omega (arith, length-drop h s, r.inside); within = rw (sym (be-stretch 4 p)) r.within }

  conditions-stretch : {i : ℕ} {vs : List Variable} {cs : List Condition} → ConditionsAt s i vs cs → (p : ℕ) → i ≡ h + p → ConditionsAt (drop h s) p vs cs
  conditions-stretch none p e = none
  conditions-stretch {i} (more {v = v} {vs} {c} {cs} a t) p e =
      more (condition-stretch v p c (subst (λ (i : ℕ). ConditionAt s i v c) e a)) (conditions-stretch t (p + condition_width c) (omega arith))

  ranks-stretch : (p : ℕ) (rs : List ℕ) → RanksAt s (h + p) rs → RanksAt (drop h s) p rs
  ranks-stretch p rs w =
      record {
        inside = λ l. let z = w.inside l in omega (arith, length-drop h s);
        each = λ k l. w.each k l ∙ ap (λ (j : ℕ). get_or s j 0) (let z : h + p + k ≡ h + (p + k) = omega arith in z) ∙ sym (get_or-drop h s (p + k) 0);
      }

-- ---- a PN by its offset

pub rule-got : (g : List Node) (p : List ℕ) (n o : ℕ) → RuleAt g p n o → (q : ℕ) × (rule_of (drop o p) (node_at g n) n 0 ≡ got (rule_at g p n o) q)
unfolding rule_at
rule-got g p n o w = go (rule_of (drop o p) (node_at g n) n 0) w.reads
  where
    go : (r : Got Rule) → was_read r ≡ true → (q : ℕ) × (r ≡ got (rule_in r) q)
    go (got x q) e = (q, refl)
    go (bad m o) e = never e

-- the PN x of node n is read at o
pub record Reads (g : List Node) (p : List ℕ) (n o : ℕ) (x : Rule) : Type 0 where
  pub rule : RuleAt g p n o
  pub is : rule_at g p n o ≡ x
  pub node : x.node ≡ n

pub reads-there : (g : List Node) (p : List ℕ) (n h q : ℕ) (x : Rule) → Stands g (drop h p) q x → x.node ≡ n → Reads g p n (h + q + 3) x
unfolding rule_at
reads-there g p n h q x w a =
    let e : drop (q + 3) (drop h p) ≡ drop (h + q + 3) p = drop-drop (q + 3) h p ∙ ap (λ (i : ℕ). drop i p) (let z : h + (q + 3) ≡ h + q + 3 = omega arith in z) in
    let s = drop h p in
    let rs : RanksAt s (q + 3 + 0) x.ranks = subst (λ (i : ℕ). RanksAt s i x.ranks) (sym (add-zero (q + 3))) w.ranks in
    let cs = subst (λ (m : ℕ). ConditionsAt s (q + 3 + length x.ranks) (node_at g m).variables x.conditions) a w.conditions in
    let r = rule-there (drop (q + 3) s) (node_at g n) n 0 x a (w.count ∙ ap (λ (m : ℕ). rank_count (node_at g m)) a) (ranks-stretch (q + 3) s 0 x.ranks rs)
    (conditions-stretch (q + 3) s cs (0 + length x.ranks) (omega arith)) in
    let z : rule_of (drop (h + q + 3) p) (node_at g n) n 0 ≡ got x r.0 = subst (λ (l : List ℕ). rule_of l (node_at g n) n 0 ≡ got x r.0) e r.1 in
    record { rule = record { inside = omega (arith, w.inside, length-drop h p); reads = ap was_read z }; is = ap rule_in z; node = a }
