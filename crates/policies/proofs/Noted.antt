-- The rows of the selected policies note their PN: one is read at each offset, and those of a node are what these policies have of it.
-- Rests on Filled (what each row holds), on Stretch (a PN is read at its offset) and on Widths (two bytes hold the offset).
use mathlib.Core.Path.{◌≡◌, refl, ap, ap₂, sym, subst, ◌∙◌}
use mathlib.Core.Bool.{Bool, true, false, cond}
use mathlib.Core.List.{List, [], ◌∷◌, ◌++◌, append-nil}
use Prim.Native.Nat.{ℕ, zero, suc, ◌+◌, ◌*◌, ◌≤◌, ◌<◌}
use native.Mathlib.Omega.{arith}
use native.Mathlib.Decide.{ℕ_discrete, dec_lt}
use borrow.Author.Tests.{eq-eqb, ne_eqb, eqb-true}
use lib.ListN.{length, get_or, take, drop}
use lib.Dec.{eqb}
use Rattle.schema.specs.Schema.{Node, schema_of, node_at}
use Rattle.policies.specs.Policies.{Rule, Policy, policies_of, has_rule, rule_for, of_rules}
use Rattle.policies.specs.Widths.{rule_width, rules_width, policy_width}
use Rattle.policies.specs.Pass.{in_force, forced}
use Rattle.fields.specs.Shorts.{short}
use Rattle.policies.specs.Rows.{row_at, rows_of, rule_at, rules_at, offsets_of, offsets_in, noted_from, noted, rules_for, RuleAt, Noted}
use Rattle.policies.specs.declared.Row.{Row}
use Rattle.policies.proofs.Stands.{none, more, RulesAt as Stand, PoliciesAt, rule-of-back}
use Rattle.policies.proofs.Sound.{stood}
use Rattle.policies.proofs.Widths.{policy-most, short-same}
use Rattle.policies.proofs.Stretch.{Reads, reads-there, rule-got}
use Rattle.policies.proofs.Filled.{rules_offsets, policy_offsets, policies_offsets, filled-few, filled-offsets, filled-most}

-- ---- the selected policies

unfoldable pub kept : (Policy → Bool) → List Policy → List Policy
kept keep [] = []
kept keep (x ∷ xs) = cond (keep x) (x ∷ kept keep xs) (kept keep xs)

pub kept-forced : (a b : ℕ) (ps : List Policy) → kept (in_force a b) ps ≡ forced a b ps
unfolding kept forced
kept-forced a b [] = refl
kept-forced a b (x ∷ ps) = rw (kept-forced a b ps)

-- ---- what policies have of a node

rules-append : (n : ℕ) (xs ys : List Policy) → rules_for n (xs ++ ys) ≡ rules_for n xs ++ rules_for n ys
unfolding rules_for
rules-append n [] ys = refl
rules-append n (x ∷ xs) ys = go (has_rule n x.rules) (rules-append n xs ys)
  where
    go : (b : Bool) → rules_for n (xs ++ ys) ≡ rules_for n xs ++ rules_for n ys
        → cond b (rule_for n x.rules ∷ rules_for n (xs ++ ys)) (rules_for n (xs ++ ys)) ≡ cond b (rule_for n x.rules ∷ rules_for n xs) (rules_for n xs) ++ rules_for n ys
    go true e = ap (λ (l : List Rule). rule_for n x.rules ∷ l) e
    go false e = e

-- one PN of node m, by itself
module _ (n : ℕ) (x : Rule) (qs : List Policy) where
  pub rules-here : x.node ≡ n → rules_for n (of_rules (x ∷ []) ∷ qs) ≡ x ∷ rules_for n qs
  unfolding rules_for has_rule rule_for
  rules-here e = rw (eq-eqb x.node n e)

  rules-other : (x.node ≡ n → ⊥) → rules_for n (of_rules (x ∷ []) ∷ qs) ≡ rules_for n qs
  unfolding rules_for has_rule rule_for
  rules-other e = rw (ne_eqb x.node n e)

-- ---- the PN of node n at offsets

module _ (g : List Node) (p : List ℕ) (n : ℕ) where
  data AllRead : List ℕ → List Rule → Type 0 where
    done : AllRead [] []
    read : {o : ℕ} {x : Rule} {os : List ℕ} {xs : List Rule} → Reads g p n o x → AllRead os xs → AllRead (o ∷ os) (x ∷ xs)

  all_append : {os rest : List ℕ} {xs ys : List Rule} → AllRead os xs → AllRead rest ys → AllRead (os ++ rest) (xs ++ ys)
  all_append done w = w
  all_append (read r v) w = read r (all_append v w)

  all-each : {os : List ℕ} {xs : List Rule} → AllRead os xs → (r : ℕ) → r < length os → RuleAt g p n (get_or os r 0)
  all-each done r h = absurd (omega arith)
  all-each (read v w) zero h = v.rule
  all-each (read v w) (suc r) h = all-each w r (omega arith)

  all-rules : {os : List ℕ} {xs : List Rule} → AllRead os xs → rules_for n (rules_at g p n os) ≡ xs
  unfolding rules_at rules_for
  all-rules done = refl
  all-rules (read {o} {x} {os} {xs} v w) =
      rw v.is (rules-here n x (rules_at g p n os) v.node ∙ ap (λ (l : List Rule). x ∷ l) (all-rules w))

  -- those of one policy: its nodes ascend, so there is one at most
  offsets-none : (h : ℕ) {s : List ℕ} {low q : ℕ} {xs : List Rule} → Stand g s low q xs → n < low → rules_offsets n h q xs ≡ []
  unfolding rules_offsets
  offsets-none h none l = refl
  offsets-none h (more {x = x} a r t) l = rw (ne_eqb x.node n (λ z. omega arith)) (offsets-none h t (omega arith))

  rules-read : (h : ℕ) {low q : ℕ} {xs : List Rule} → Stand g (drop h p) low q xs → h + q + rules_width xs < 65536
      → AllRead (rules_offsets n h q xs) (cond (has_rule n xs) (rule_for n xs ∷ []) [])
  unfolding rules_offsets has_rule rule_for rules_width rule_width
  rules-read h none l = done
  rules-read h {q = q} (more {x = x} {xs = xs} a r t) l = go (eqb x.node n) refl (rules-read h t (omega arith))
    where
      go : (b : Bool) → eqb x.node n ≡ b → AllRead (rules_offsets n h (q + rule_width x) xs) (cond (has_rule n xs) (rule_for n xs ∷ []) [])
          → AllRead (cond b (short (h + q + 3) ∷ rules_offsets n h (q + rule_width x) xs) (rules_offsets n h (q + rule_width x) xs))
          (cond (cond b true (has_rule n xs)) (cond b x (rule_for n xs) ∷ []) [])
      go true e w =
          let i = eqb-true x.node n e in
          rw (offsets-none h t (omega arith), short-same (h + q + 3) (omega arith)) (read (reads-there g p n h q x r i) done)
      go false e w = w

-- ---- those of the selected policies

module _ (schema p : List ℕ) (keep : Policy → Bool) (n : ℕ) where
  abbrev g : List Node
  g = schema_of schema

  policies-read : (h : ℕ) {xs : List Policy} → PoliciesAt g p h xs → h + 2759 * length xs < 65536 → AllRead g p n (policies_offsets keep n h xs) (rules_for n (kept keep xs))
  unfolding policies_offsets policy_offsets policy_width kept rules_for
  policies-read h none l = done
  policies-read h (more {x = x} {xs = xs} a y t) l =
      go (keep x) (rules-read g p n h y.rules (omega (arith, policy-most schema y))) (policies-read (h + policy_width x) t (omega (arith, policy-most schema y)))
    where
      joined : (b : Bool) (z : Rule) (zs : List Rule) → cond b (z ∷ []) [] ++ zs ≡ cond b (z ∷ zs) zs
      joined true z zs = refl
      joined false z zs = refl

      go : (b : Bool) → AllRead g p n (rules_offsets n h x.body x.rules) (cond (has_rule n x.rules) (rule_for n x.rules ∷ []) [])
          → AllRead g p n (policies_offsets keep n (h + policy_width x) xs) (rules_for n (kept keep xs))
          → AllRead g p n (policy_offsets b n h x ++ policies_offsets keep n (h + policy_width x) xs) (rules_for n (cond b (x ∷ kept keep xs) (kept keep xs)))
      go true v w =
          subst (AllRead g p n (rules_offsets n h x.body x.rules ++ policies_offsets keep n (h + policy_width x) xs))
          (joined (has_rule n x.rules) (rule_for n x.rules) (rules_for n (kept keep xs))) (all_append g p n v w)
      go false v w = w

  -- a node that no PN may name
  rules-none : {s : List ℕ} {low q : ℕ} {xs : List Rule} → Stand g s low q xs → length g ≤ n → has_rule n xs ≡ false
  unfolding has_rule
  rules-none none l = refl
  rules-none (more {x = x} a r t) l = rw (ne_eqb x.node n (λ z. let b = r.below in omega arith)) (rules-none t l)

  policies-none : {h : ℕ} {xs : List Policy} → PoliciesAt g p h xs → length g ≤ n → rules_for n (kept keep xs) ≡ []
  unfolding kept rules_for
  policies-none none l = refl
  policies-none (more {x = x} {xs = xs} a y t) l = go (keep x) (rules-none y.rules l) (policies-none t l)
    where
      go : (b : Bool) → has_rule n x.rules ≡ false → rules_for n (kept keep xs) ≡ [] → rules_for n (cond b (x ∷ kept keep xs) (kept keep xs)) ≡ []
      go true e w = rw e w
      go false e w = w

-- ---- what rows note of a node is what its row notes

module _ (s p : List ℕ) (t : List Row) (w : Noted s p t) where
  abbrev nodes : List Node
  nodes = schema_of s

  -- of its node
  others-none : (n m : ℕ) → (m ≡ n → ⊥) → (os : List ℕ) → ((r : ℕ) → r < length os → RuleAt nodes p m (get_or os r 0)) → rules_for n (rules_at nodes p m os) ≡ []
  unfolding rules_at rules_for
  others-none n m e [] f = refl
  others-none n m e (o ∷ os) f =
      let x = rule_at nodes p m o in
      let z = (rule-of-back (drop o p) (node_at nodes m) m 0 (rule-got nodes p m o (f 0 (omega arith))).1).node in
      rules-other n x (rules_at nodes p m os) (λ i. e (sym z ∙ i)) ∙ others-none n m e os (λ r l. f (suc r) (omega arith))

  from-none : (n m k : ℕ) → m + k ≤ length nodes → ((i : ℕ) → m ≤ i → i < m + k → i ≡ n → ⊥) → rules_for n (noted_from nodes p t m k) ≡ []
  unfolding noted_from rules_for
  from-none n m zero l e = refl
  from-none n m (suc k) l e =
      rules-append n (rules_at nodes p m (offsets_in t m)) (noted_from nodes p t (m + 1) k)
      ∙ ap₂ (λ (xs ys : List Rule). xs ++ ys)
      (others-none n m (e m (omega arith) (omega arith)) (offsets_in t m) ((w.each m (omega arith)).each))
      (from-none n (m + 1) k (omega arith) (λ i a b. e i (omega arith) (omega arith)))

  from_at : (n m k : ℕ) → m + k ≤ length nodes → m ≤ n → n < m + k → rules_for n (noted_from nodes p t m k) ≡ rules_for n (rules_at nodes p n (offsets_in t n))
  unfolding noted_from
  from_at n m zero l a b = absurd (omega arith)
  from_at n m (suc k) l a b = rules-append n (rules_at nodes p m (offsets_in t m)) (noted_from nodes p t (m + 1) k) ∙ go (ℕ_discrete m n) (from_at n (m + 1) k (omega arith))
    where
      go : Dec (m ≡ n) → (m + 1 ≤ n → n < m + 1 + k → rules_for n (noted_from nodes p t (m + 1) k) ≡ rules_for n (rules_at nodes p n (offsets_in t n)))
          → rules_for n (rules_at nodes p m (offsets_in t m)) ++ rules_for n (noted_from nodes p t (m + 1) k) ≡ rules_for n (rules_at nodes p n (offsets_in t n))
      go (yes e) ih =
          ap (λ (ys : List Rule). rules_for n (rules_at nodes p m (offsets_in t m)) ++ ys) (from-none n (m + 1) k (omega arith) (λ i a b z. omega arith))
          ∙ append-nil (rules_for n (rules_at nodes p m (offsets_in t m)))
          ∙ ap (λ (i : ℕ). rules_for n (rules_at nodes p i (offsets_in t i))) e
      go (no e) ih =
          ap (λ (xs : List Rule). xs ++ rules_for n (noted_from nodes p t (m + 1) k)) (others-none n m e (offsets_in t m) ((w.each m (omega arith)).each))
          ∙ ih (omega arith) (omega arith)

  pub noted-at : (n : ℕ) → n < length nodes → rules_for n (noted nodes p t) ≡ rules_for n (rules_at nodes p n (offsets_in t n))
  unfolding noted
  noted-at n h = from_at n 0 (length nodes) (omega arith) (omega arith) (omega arith)

  -- none, where the row's count is 0
  pub noted-unnamed : (n : ℕ) → n < length nodes → (row_at t n).count ≡ 0 → rules_for n (noted nodes p t) ≡ rules_for n []
  unfolding offsets_of rules_at
  noted-unnamed n h e = noted-at n h ∙ ap (λ (k : ℕ). rules_for n (rules_at nodes p n (take k (row_at t n).offsets))) e

  pub noted-none : (n : ℕ) → length nodes ≤ n → rules_for n (noted nodes p t) ≡ []
  unfolding noted
  noted-none n h = from-none n 0 (length nodes) (omega arith) (λ i a b z. omega arith)

-- ---- the rows of the selected policies

module _ (s p : List ℕ) (rows : List Row) (keep : Policy → Bool) where
  abbrev ps : List Policy
  ps = policies_of (schema_of s) p

  module _ (e : rows ≡ rows_of keep (length rows) ps) (l : length (schema_of s) ≤ length rows) where
    all_read : (n : ℕ) → n < length (schema_of s) → AllRead (schema_of s) p n (offsets_in rows n) (rules_for n (kept keep ps))
    all_read n h =
        let a = stood (schema_of s) p in
        rw (filled-offsets (schema_of s) p ps keep rows a.stand a.sound.few e l n h)
        (policies-read s p keep n 0 a.stand (omega (arith, a.sound.few)))

    pub rows-noted : Noted s p rows
    rows-noted =
        let a = stood (schema_of s) p in
        record {
          long = l;
          few = λ n h. filled-few (schema_of s) p ps keep rows a.stand a.sound.few e l n h;
          each = λ n h.
              record {
                few = filled-most (schema_of s) p ps keep rows a.stand a.sound.few e l n h;
                each = all-each (schema_of s) p n (all_read n h);
              };
        }

    pub rows_same : (n : ℕ) → rules_for n (noted (schema_of s) p rows) ≡ rules_for n (kept keep ps)
    rows_same n = go (dec_lt n (length (schema_of s)))
      where
        go : Dec (n < length (schema_of s)) → rules_for n (noted (schema_of s) p rows) ≡ rules_for n (kept keep ps)
        go (yes h) = noted-at s p rows rows-noted n h ∙ all-rules (schema_of s) p n (all_read n h)
        go (no h) = noted-none s p rows rows-noted n (omega arith) ∙ sym (policies-none s p keep n (stood (schema_of s) p).stand (omega arith))

-- those of the policies in force
pub rows-forced : (s p : List ℕ) (rows : List Row) (a b : ℕ) → rows ≡ rows_of (in_force a b) (length rows) (policies_of (schema_of s) p) → length (schema_of s) ≤ length rows
    → (n : ℕ) → rules_for n (noted (schema_of s) p rows) ≡ rules_for n (forced a b (policies_of (schema_of s) p))
rows-forced s p rows a b e l n = rows_same s p rows (in_force a b) e l n ∙ ap (rules_for n) (kept-forced a b (policies_of (schema_of s) p))
