-- Where the conditions, rules and policies of an accepted file stand, and what the bytes there spell.
-- Rests on fields' Back: what an accepted reading of a field, a part or several in a row gives.
use mathlib.Core.Path.{◌≡◌, refl, ap, sym, ◌∙◌, subst}
use mathlib.Core.Bool.{Bool, true, false, cond, ◌&&◌}
use mathlib.Core.List.{List, [], ◌∷◌}
use Prim.Native.Nat.{ℕ, zero, suc, ◌+◌, ◌^◌, ◌≤◌, ◌<◌}
use native.Mathlib.Omega.{arith}
use native.Mathlib.Nat.{add-zero}
use borrow.Author.Tests.{leb-true, ltb-true, ltb-false}
use lib.ListN.{length, get_or, drop}
use lib.Dec.{leb, ltb}
use Rattle.fields.specs.Reading.{Got, got, bad, part, be, whole, many, signed}
use Rattle.fields.proofs.Back.{went, many-back, many-none, whole_back, any-back, field_back, after-mark, be1}
use Rattle.fields.proofs.Tests.{and-true}
use Rattle.schema.specs.Schema.{Node, node_at}
use Rattle.schema.specs.declared.Variable.{Variable}
use Rattle.schema.specs.declared.Variable.TheVariants.{Number, Listed}
use Rattle.schema.specs.Layout.{rank_count, span}
use Rattle.policies.specs.Policies.{Condition, range, mask, Rule, Policy, Head, PH, PN, ranks, condition, conditions, rule_of, rule, rules, head, head_width, policy, onward, policies_from}
use Rattle.policies.specs.Widths.{condition_width, conditions_width, rule_width, rules_width, policy_width}

-- ---- a condition

-- the bounds at p
pub record RangeAt (s : List ℕ) (p : ℕ) (c : Condition) : Type 0 where
  pub is : c ≡ range (signed (be 4 s p)) (signed (be 4 s (p + 4)))
  pub inside : p + 8 ≤ length s

-- the mask at p, with no bit at or above size
pub record MaskAt (s : List ℕ) (p size : ℕ) (c : Condition) : Type 0 where
  pub is : c ≡ mask (be 4 s p)
  pub inside : p + 4 ≤ length s
  pub within : ltb (be 4 s p) (2 ^ size) ≡ true

abbrev pub ConditionAt : List ℕ → ℕ → Variable → Condition → Type 0
ConditionAt s p (Number lo hi) c = RangeAt s p c
ConditionAt s p (Listed size) c = MaskAt s p size c

-- it is as wide as the schema says
pub width-span : (s : List ℕ) (p : ℕ) (v : Variable) (c : Condition) → ConditionAt s p v c → condition_width c ≡ span v
unfolding condition_width span
width-span s p (Number lo hi) c r = ap condition_width r.is
width-span s p (Listed size) c r = ap condition_width r.is

-- a reading that gave x from p on ended where x does
pub record Ends (P : Type 0) (q end : ℕ) : Type 0 where
  pub stands : P
  pub next : q ≡ end

condition-back : (s : List ℕ) (v : Variable) (p : ℕ) {c : Condition} {q : ℕ} → condition s v p ≡ got c q
    → Ends (ConditionAt s p v c) q (p + condition_width c)
unfolding condition condition_width
condition-back s (Number lo hi) p {c} {q} e =
    let x = any-back 4 s p _ e in
    let y = any-back 4 s (p + 4) _ x.then in
    let z = y.then in
    let k : c ≡ range (signed (be 4 s p)) (signed (be 4 s (p + 4))) = cc in
    let n : q ≡ p + 4 + 4 = cc in
    record { stands = record { is = k; inside = omega (arith, y.inside) }; next = rw k (omega arith) }
condition-back s (Listed size) p {c} {q} e =
    let x = field_back 4 11 (λ m. ltb m (2 ^ size)) s p _ e in
    let z = x.then in
    let k : c ≡ mask (be 4 s p) = cc in
    let n : q ≡ p + 4 = cc in
    record { stands = record { is = k; inside = x.inside; within = x.rule-met }; next = rw k n }

-- ---- the conditions of a node, one after the other

pub data ConditionsAt (s : List ℕ) : ℕ → List Variable → List Condition → Type 0 where
  none : {p : ℕ} → ConditionsAt s p [] []
  more : {p : ℕ} {v : Variable} {vs : List Variable} {c : Condition} {cs : List Condition} → ConditionAt s p v c
      → ConditionsAt s (p + condition_width c) vs cs → ConditionsAt s p (v ∷ vs) (c ∷ cs)

pub conditions-back : (s : List ℕ) (vs : List Variable) (p : ℕ) {cs : List Condition} {q : ℕ} → conditions s vs p ≡ got cs q
    → Ends (ConditionsAt s p vs cs) q (p + conditions_width cs)
unfolding conditions conditions_width
conditions-back s [] p {cs} {q} e =
    let k : [] ≡ cs = cc in
    let n : q ≡ p = cc in
    subst (λ (l : List Condition). Ends (ConditionsAt s p [] l) q (p + conditions_width l)) k
    (record { stands = none; next = n ∙ sym (add-zero p) })
conditions-back s (v ∷ vs) p {cs} {q} e =
    let x = went (condition s v p) _ e in
    let y = went (conditions s vs x.after) _ x.then in
    let z = y.then in
    let k : x.value ∷ y.value ≡ cs = cc in
    let n : q ≡ y.after = cc in
    let a = condition-back s v p x.first in
    let b = conditions-back s vs x.after y.first in
    subst (λ (l : List Condition). Ends (ConditionsAt s p (v ∷ vs) l) q (p + conditions_width l)) k
    (record {
      stands = more a.stands (subst (λ (i : ℕ). ConditionsAt s i vs y.value) a.next b.stands);
      next = omega (arith, a.next, b.next);
    })

-- ---- the ranks of a node

-- rank k is the byte at p + k
pub record RanksAt (s : List ℕ) (p : ℕ) (rs : List ℕ) : Type 0 where
  pub inside : 0 < length rs → p + length rs ≤ length s
  pub each : (k : ℕ) → k < length rs → get_or rs k 0 ≡ get_or s (p + k) 0

record Ranked (s : List ℕ) (n p : ℕ) (rs : List ℕ) (q : ℕ) : Type 0 where
  pub count : length rs ≡ n
  pub stands : RanksAt s p rs
  pub next : q ≡ p + length rs

none-ranked : (s : List ℕ) (p : ℕ) → RanksAt s p []
none-ranked s p = record { inside = λ h. absurd (omega arith); each = λ k h. absurd (omega arith) }

more-ranked : (s : List ℕ) (p v : ℕ) (vs : List ℕ) → p + 1 ≤ length s → v ≡ get_or s p 0 → RanksAt s (p + 1) vs → RanksAt s p (v ∷ vs)
more-ranked s p v vs a e r = record { inside = λ h. inside_of (length vs) r.inside; each = each_of }
  where
    inside_of : (n : ℕ) → (0 < n → p + 1 + n ≤ length s) → p + suc n ≤ length s
    inside_of zero f = omega arith
    inside_of (suc n) f = let z = f (omega arith) in omega arith

    each_of : (k : ℕ) → k < suc (length vs) → get_or (v ∷ vs) k 0 ≡ get_or s (p + k) 0
    each_of zero h = rw (add-zero p) e
    each_of (suc k) h = r.each k (omega arith) ∙ ap (λ (i : ℕ). get_or s i 0) (let z : p + 1 + k ≡ p + suc k = omega arith in z)

ranks-back : (s : List ℕ) (n p : ℕ) {rs : List ℕ} {q : ℕ} → many {S = ℕ} (λ _ p. whole 1 s p) (λ i _. i) n 0 p ≡ got rs q → Ranked s n p rs q
ranks-back s zero p {rs} {q} e =
    let h = many-none {S = ℕ} (λ _ p. whole 1 s p) (λ i _. i) 0 p e in
    subst (λ (l : List ℕ). Ranked s 0 p l q) (sym h.0) (record { count = refl; stands = none-ranked s p; next = h.1 ∙ sym (add-zero p) })
ranks-back s (suc n) p {rs} {q} e =
    let t = many-back {S = ℕ} (λ _ p. whole 1 s p) (λ i _. i) n 0 p e in
    let w = whole_back 1 s p t.here in
    let r = ranks-back s n t.middle t.rest in
    subst (λ (l : List ℕ). Ranked s (suc n) p l q) (sym t.is)
    (record {
      count = ap suc r.count;
      stands = more-ranked s p t.head t.tail w.inside (w.value ∙ be1 s p) (subst (λ (i : ℕ). RanksAt s i t.tail) w.next r.stands);
      next = omega (arith, r.next, w.next);
    })

-- ---- a PN

-- a PN at p
pub record RuleAt (g : List Node) (s : List ℕ) (p : ℕ) (x : Rule) : Type 0 where
  pub below : x.node < length g
  pub inside : p + 3 ≤ length s
  pub count : length x.ranks ≡ rank_count (node_at g x.node)
  pub ranks : RanksAt s (p + 3) x.ranks
  pub conditions : ConditionsAt s (p + 3 + length x.ranks) (node_at g x.node).variables x.conditions

-- those of a policy, one after the other, from node low on
pub data RulesAt (g : List Node) (s : List ℕ) : ℕ → ℕ → List Rule → Type 0 where
  none : {low p : ℕ} → RulesAt g s low p []
  more : {low p : ℕ} {x : Rule} {xs : List Rule} → low ≤ x.node → RuleAt g s p x → RulesAt g s (x.node + 1) (p + rule_width x) xs
      → RulesAt g s low p (x ∷ xs)

pub record Ruled (s : List ℕ) (y : Node) (n p : ℕ) (x : Rule) (q : ℕ) : Type 0 where
  pub node : x.node ≡ n
  pub count : length x.ranks ≡ rank_count y
  pub ranks : RanksAt s p x.ranks
  pub conditions : ConditionsAt s (p + length x.ranks) y.variables x.conditions
  pub next : q ≡ p + (length x.ranks + conditions_width x.conditions)

pub rule-of-back : (s : List ℕ) (y : Node) (n p : ℕ) {x : Rule} {q : ℕ} → rule_of s y n p ≡ got x q → Ruled s y n p x q
unfolding rule_of ranks
rule-of-back s y n p {x} {q} e =
    let a = went (many {S = ℕ} (λ _ p. whole 1 s p) (λ i _. i) (rank_count y) 0 p) _ e in
    let b = went (conditions s y.variables a.after) _ a.then in
    let z = b.then in
    let k : record { node = n; ranks = a.value; conditions = b.value } ≡ x = cc in
    let m : q ≡ b.after = cc in
    let r = ranks-back s (rank_count y) p a.first in
    let c = conditions-back s y.variables a.after b.first in
    subst (λ (i : Rule). Ruled s y n p i q) k
    (record {
      node = refl;
      count = r.count;
      ranks = r.stands;
      conditions = subst (λ (i : ℕ). ConditionsAt s i y.variables b.value) r.next c.stands;
      next = omega (arith, r.next, c.next);
    })

pub record Rule-read (g : List Node) (s : List ℕ) (from p : ℕ) (x : Rule) (q : ℕ) : Type 0 where
  pub low : from ≤ x.node
  pub stands : RuleAt g s p x
  pub next : q ≡ p + rule_width x

pub rule-back : (g : List Node) (s : List ℕ) (low p : ℕ) {x : Rule} {q : ℕ} → rule g s low p ≡ got x q → Rule-read g s low p x q
unfolding rule rule_width
rule-back g s low p {x} {q} e =
    let m = after-mark PN s p _ e in
    let f = field_back 1 10 (λ n. leb low n && ltb n (length g)) s (p + 2) _ m.then in
    let v = be 1 s (p + 2) in
    let t = and-true (leb low v) (ltb v (length g)) f.rule-met in
    let r = rule-of-back s (node_at g v) v (p + 2 + 1) f.then in
    let a : p + 2 + 1 ≡ p + 3 = omega arith in
    let l = leb-true low v t.0 in
    let u = ltb-true v (length g) t.1 in
    record {
      low = omega (arith, r.node);
      stands =
          record {
            below = omega (arith, r.node);
            inside = omega (arith, f.inside);
            count = r.count ∙ ap (λ (i : ℕ). rank_count (node_at g i)) (sym r.node);
            ranks = subst (λ (i : ℕ). RanksAt s i x.ranks) a r.ranks;
            conditions =
                subst (λ (i : ℕ). ConditionsAt s (p + 3 + length x.ranks) (node_at g i).variables x.conditions) (sym r.node)
                (subst (λ (i : ℕ). ConditionsAt s (i + length x.ranks) (node_at g v).variables x.conditions) a r.conditions);
          };
      next = omega (arith, r.next);
    }

pub rules-back : (g : List Node) (s : List ℕ) (k low p : ℕ) {xs : List Rule} {q : ℕ} → many (rule g s) (λ _ x. x.node + 1) k low p ≡ got xs q
    → Ends (RulesAt g s low p xs) q (p + rules_width xs)
unfolding rules_width
rules-back g s zero low p {xs} {q} e =
    let h = many-none (rule g s) (λ _ x. x.node + 1) low p e in
    subst (λ (l : List Rule). Ends (RulesAt g s low p l) q (p + rules_width l)) (sym h.0) (record { stands = none; next = h.1 ∙ sym (add-zero p) })
rules-back g s (suc k) low p {xs} {q} e =
    let t = many-back (rule g s) (λ _ x. x.node + 1) k low p e in
    let a = rule-back g s low p t.here in
    let r = rules-back g s k (t.head.node + 1) t.middle t.rest in
    subst (λ (l : List Rule). Ends (RulesAt g s low p l) q (p + rules_width l)) (sym t.is)
    (record {
      stands = more a.low a.stands (subst (λ (i : ℕ). RulesAt g s (t.head.node + 1) i t.tail) a.next r.stands);
      next = omega (arith, a.next, r.next);
    })

-- ---- a policy, on its own stretch of the file

-- what a head's bytes spell
pub record HeadAt (s : List ℕ) (x : Head) (q : ℕ) : Type 0 where
  pub inside : head_width ≤ length s
  pub first : x.first ≡ be 2 s 2
  pub last : x.last ≡ be 2 s 4
  pub days : x.first ≤ x.last
  pub next : q ≡ head_width

pub head-back : (s : List ℕ) {x : Head} {q : ℕ} → head s ≡ got x q → HeadAt s x q
unfolding head
head-back s {x} {q} e =
    let m = after-mark PH s 0 _ e in
    let a = any-back 2 s 2 _ m.then in
    let b = field_back 2 9 (λ last. leb (be 2 s 2) last) s 4 _ a.then in
    let n = any-back 1 s 6 _ b.then in
    let z = n.then in
    let k : record { first = be 2 s 2; last = be 2 s 4; count = be 1 s 6 } ≡ x = cc in
    let d : q ≡ head_width = cc in
    subst (λ (i : Head). HeadAt s i q) k
    (record { inside = n.inside; first = refl; last = refl; days = leb-true (be 2 s 2) (be 2 s 4) b.rule-met; next = d })

pub record PolicyAt (g : List Node) (s : List ℕ) (x : Policy) : Type 0 where
  pub what : Head
  pub after : ℕ
  pub read : head s ≡ got what after
  pub first : x.first ≡ what.first
  pub last : x.last ≡ what.last
  pub body : x.body ≡ after
  pub rules : RulesAt g s 0 x.body x.rules

pub policy-back : (g : List Node) (s : List ℕ) {x : Policy} {q : ℕ} → policy g s ≡ got x q → Ends (PolicyAt g s x) q (policy_width x)
unfolding policy rules policy_width
policy-back g s {x} {q} e =
    let h = went (head s) _ e in
    let r = went (many (rule g s) (λ _ x. x.node + 1) h.value.count 0 h.after) _ h.then in
    let z = r.then in
    let k : record { first = h.value.first; last = h.value.last; body = h.after; rules = r.value } ≡ x = cc in
    let n : q ≡ r.after = cc in
    let b = rules-back g s h.value.count 0 h.after r.first in
    subst (λ (i : Policy). Ends (PolicyAt g s i) q (policy_width i)) k
    (record {
      stands =
          record {
            what = h.value;
            after = h.after;
            read = h.first;
            first = refl;
            last = refl;
            body = refl;
            rules = b.stands;
          };
      next = omega (arith, b.next);
    })

-- ---- the policies of a file, one after the other

pub data PoliciesAt (g : List Node) (s : List ℕ) : ℕ → List Policy → Type 0 where
  none : {h : ℕ} → PoliciesAt g s h []
  more : {h : ℕ} {x : Policy} {xs : List Policy} → h < length s → PolicyAt g (drop h s) x → PoliciesAt g s (h + policy_width x) xs
      → PoliciesAt g s h (x ∷ xs)

onward-back : {A : Type 0} (h : ℕ) (r : Got A) {a : A} {q : ℕ} → onward h r ≡ got a q → (p : ℕ) × (r ≡ got a p) × (q ≡ h + p)
unfolding onward
onward-back h (got b p) {a} {q} e = let z : b ≡ a = cc in (p, ap (λ (c : _). got c p) z, (cc))
onward-back h (bad n o) e = absurd (let z : ◌≡◌ {A = ℕ} 0 1 = cc in omega arith)

pub record Policies-read (g : List Node) (s : List ℕ) (k p : ℕ) (xs : List Policy) (q : ℕ) : Type 0 where
  pub few : length xs ≤ k
  pub stand : PoliciesAt g s p xs
  pub ended : length s ≤ q

-- a byte remains, or none does
data Remains (s : List ℕ) (p : ℕ) : Bool → Type 0 where
  yes-more : p < length s → Remains s p true
  no_more : length s ≤ p → Remains s p false

remains : (s : List ℕ) (p : ℕ) → Remains s p (ltb p (length s))
remains s p = go (ltb p (length s)) refl
  where
    go : (b : Bool) → ltb p (length s) ≡ b → Remains s p b
    go true e = yes-more (ltb-true p (length s) e)
    go false e = no_more (ltb-false p (length s) e)

no-policy : (g : List Node) (s : List ℕ) (k p : ℕ) {xs : List Policy} {q : ℕ} → length s ≤ p → got [] p ≡ got xs q → Policies-read g s k p xs q
no-policy g s k p {xs} {q} h e =
    let a : [] ≡ xs = cc in
    let n : q ≡ p = cc in
    subst (λ (l : List Policy). Policies-read g s k p l q) a (record { few = omega arith; stand = none; ended = omega arith })

pub policies-back : (g : List Node) (s : List ℕ) (k p : ℕ) {xs : List Policy} {q : ℕ} → policies_from g s k p ≡ got xs q → Policies-read g s k p xs q
unfolding policies_from
policies-back g s zero p {xs} {q} e = go (ltb p (length s)) (remains s p) e
  where
    go : (b : Bool) → Remains s p b → cond b (bad 8 p) (got [] p) ≡ got xs q → Policies-read g s 0 p xs q
    go true r e = absurd (let z : ◌≡◌ {A = ℕ} 0 1 = cc in omega arith)
    go false (no_more h) e = no-policy g s 0 p h e
policies-back g s (suc k) p {xs} {q} e = go (ltb p (length s)) (remains s p) e (λ r ys u. policies-back g s k r)
  where
    go : (b : Bool) → Remains s p b
        → cond b (part (onward p (policy g (drop p s))) λ x p. part (policies_from g s k p) λ xs p. got (x ∷ xs) p) (got [] p) ≡ got xs q
        → ((r : ℕ) (ys : List Policy) (u : ℕ) → policies_from g s k r ≡ got ys u → Policies-read g s k r ys u)
        → Policies-read g s (suc k) p xs q
    go false (no_more h) e ih = no-policy g s (suc k) p h e
    go true (yes-more h) e ih =
        let x = went (onward p (policy g (drop p s))) _ e in
        let y = went (policies_from g s k x.after) _ x.then in
        let z = y.then in
        let a : x.value ∷ y.value ≡ xs = cc in
        let n : y.after ≡ q = cc in
        let o = onward-back p (policy g (drop p s)) x.first in
        let b = policy-back g (drop p s) o.1 in
        let r = ih x.after y.value y.after y.first in
        let m : x.after ≡ p + policy_width x.value = o.2 ∙ ap (λ (i : ℕ). p + i) b.next in
        subst (λ (l : List Policy). Policies-read g s (suc k) p l q) a
        (record {
          few = omega (arith, r.few);
          stand = more h b.stands (subst (λ (i : ℕ). PoliciesAt g s i y.value) m r.stand);
          ended = omega (arith, r.ended);
        })
