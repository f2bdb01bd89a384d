-- A reading that begins inside a file ends inside it, a refusal points inside it and has a file's number: by the definitions' own steps.
-- Rests on the definitions of the readings, and on fields for what a refusal's number is.
use mathlib.Core.Path.{◌≡◌, refl}
use mathlib.Core.Bool.{Bool, true, false, cond, ◌&&◌}
use mathlib.Core.List.{List, [], ◌∷◌}
use Prim.Native.Nat.{ℕ, zero, suc, ◌+◌, ◌-◌, ◌^◌, ◌≤◌}
use native.Mathlib.Omega.{arith}
use borrow.Author.Tests.{leb-true}
use lib.ListN.{length, drop, length-drop}
use lib.Dec.{leb, ltb, eqb}
use Rattle.fields.specs.Reading.{Got, got, bad, part, be, whole, field, mark, many}
use Rattle.fields.proofs.Refusals.{of_file, Numbered, cond-numbered}
use Rattle.schema.specs.Schema.{Node, node_at}
use Rattle.schema.specs.declared.Variable.{Variable}
use Rattle.schema.specs.declared.Variable.TheVariants.{Number, Listed}
use Rattle.schema.specs.Layout.{rank_count}
use Rattle.policies.specs.Pass.{pass}
use Rattle.policies.specs.Policies.{Policy, PH, PN, ranks, condition, conditions, rule_of, rule, rules, head, policy, onward, policies_from, policies}

-- where a reading ends or a refusal points
abbrev pub end_of : {A : Type 0} → Got A → ℕ
end_of (got a q) = q
end_of (bad m o) = o

pub record Within {A : Type 0} (n : ℕ) (r : Got A) : Type 0 where
  pub end : end_of r ≤ n
  pub number : Numbered r

ends : {A : Type 0} {n : ℕ} (a : A) (q : ℕ) → q ≤ n → Within n (got a q)
ends a q h = record { end = h; number = tt }

refuses : {A : Type 0} {n : ℕ} (m o : ℕ) → of_file m ≡ true → o ≤ n → Within {A = A} n (bad m o)
refuses m o k h = record { end = h; number = k }

rule-within : {A : Type 0} {n : ℕ} (t : Bool) (r : Got A) (m o : ℕ) → of_file m ≡ true → (t ≡ true → Within n r) → o ≤ n → Within n (cond t r (bad m o))
rule-within true r m o k a b = a refl
rule-within false r m o k a b = refuses m o k b

part-within : {A B : Type 0} {n : ℕ} (r : Got A) (k : A → ℕ → Got B) → Within n r → ((a : A) (q : ℕ) → q ≤ n → Within n (k a q)) → Within n (part r k)
unfolding part
part-within (got a q) k h z = z a q h.end
part-within (bad m o) k h z = refuses m o h.number h.end

many-within : {S A : Type 0} (m : ℕ) (step : S → ℕ → Got A) (next : S → A → S) → ((st : S) (p : ℕ) → p ≤ m → Within m (step st p))
    → (k : ℕ) (st : S) (p : ℕ) → p ≤ m → Within m (many step next k st p)
unfolding many
many-within m step next z zero st p h = ends [] p h
many-within m step next z (suc k) st p h =
    part-within (step st p) _ (z st p h)
    (λ x q r. part-within (many step next k (next st x) q) _ (many-within m step next z k (next st x) q r) (λ b u y. ends _ u y))

module _ (s : List ℕ) where
  whole-within : (w p : ℕ) → p ≤ length s → Within (length s) (whole w s p)
  unfolding whole
  whole-within w p h =
      rule-within (leb (p + w) (length s)) (got (be w s p) (p + w)) 2 p refl (λ t. ends (be w s p) (p + w) (leb-true (p + w) (length s) t)) h

  field-within : {B : Type 0} (w n : ℕ) (rule : ℕ → Bool) (p : ℕ) (k : ℕ → ℕ → Got B) → of_file n ≡ true → p ≤ length s
      → ((v q : ℕ) → q ≤ length s → Within (length s) (k v q)) → Within (length s) (field w n rule s p k)
  unfolding field
  field-within w n rule p k m h z =
      part-within (whole w s p) (λ v q. cond (rule v) (k v q) (bad n p)) (whole-within w p h)
      (λ v q r. rule-within (rule v) (k v q) n p m (λ t. z v q r) h)

  mark-within : (m : List ℕ) (p : ℕ) → p ≤ length s → Within (length s) (mark m s p)
  unfolding mark
  mark-within m p h = field-within 2 1 (λ v. eqb v (be 2 m 0)) p got refl h (λ v q r. ends v q r)

  ranks-within : (k p : ℕ) → p ≤ length s → Within (length s) (ranks s k p)
  unfolding ranks
  ranks-within k p h = many-within {S = ℕ} (length s) (λ _ p. whole 1 s p) (λ i _. i) (λ st p h. whole-within 1 p h) k 0 p h

  condition-within : (v : Variable) (p : ℕ) → p ≤ length s → Within (length s) (condition s v p)
  unfolding condition
  condition-within (Number lo hi) p h =
      part-within (whole 4 s p) _ (whole-within 4 p h)
      (λ a q r. part-within (whole 4 s q) _ (whole-within 4 q r) (λ b u y. ends _ u y))
  condition-within (Listed size) p h = field-within 4 11 (λ m. ltb m (2 ^ size)) p _ refl h (λ v q r. ends _ q r)

  conditions-within : (vs : List Variable) (p : ℕ) → p ≤ length s → Within (length s) (conditions s vs p)
  unfolding conditions
  conditions-within [] p h = ends [] p h
  conditions-within (v ∷ vs) p h =
      part-within (condition s v p) _ (condition-within v p h)
      (λ a q r. part-within (conditions s vs q) _ (conditions-within vs q r) (λ b u y. ends _ u y))

  rule-of-within : (x : Node) (n p : ℕ) → p ≤ length s → Within (length s) (rule_of s x n p)
  unfolding rule_of
  rule-of-within x n p h =
      part-within (ranks s (rank_count x) p) _ (ranks-within (rank_count x) p h)
      (λ a q r. part-within (conditions s x.variables q) _ (conditions-within x.variables q r) (λ b u y. ends _ u y))

  pub pn-within : (g : List Node) (low p : ℕ) → p ≤ length s → Within (length s) (rule g s low p)
  unfolding rule
  pn-within g low p h =
      part-within (mark PN s p) _ (mark-within PN p h)
      (λ a q r. field-within 1 10 (λ n. leb low n && ltb n (length g)) q _ refl r (λ n u y. rule-of-within (node_at g n) n u y))

  head-within : Within (length s) (head s)
  unfolding head
  head-within =
      part-within (mark PH s 0) _ (mark-within PH 0 (omega arith))
      (λ a q r. part-within (whole 2 s q) _ (whole-within 2 q r)
      (λ first q r. field-within 2 9 (λ last. leb first last) q _ refl r
      (λ last q r. part-within (whole 1 s q) _ (whole-within 1 q r) (λ n q r. ends _ q r))))

  pub policy-within : (g : List Node) → Within (length s) (policy g s)
  unfolding policy rules
  policy-within g =
      part-within (head s) _ head-within
      (λ h q r. part-within (many (rule g s) (λ _ x. x.node + 1) h.count 0 q) _
      (many-within (length s) (rule g s) (λ _ x. x.node + 1) (λ low p y. pn-within g low p y) h.count 0 q r) (λ xs u y. ends _ u y))

onward-within : {A : Type 0} (n h : ℕ) (r : Got A) → h ≤ n → Within (n - h) r → Within n (onward h r)
unfolding onward
onward-within n h (got a q) l w = ends a (h + q) (omega (arith, w.end))
onward-within n h (bad m o) l w = refuses m (h + o) w.number (omega (arith, w.end))

module _ (g : List Node) (s : List ℕ) where
  stretch-within : (p : ℕ) → p ≤ length s → Within (length s) (onward p (policy g (drop p s)))
  stretch-within p h = onward-within (length s) p (policy g (drop p s)) h (rw (length-drop p s) at (policy-within (drop p s) g))

  pub policies-within : (k p : ℕ) → p ≤ length s → Within (length s) (policies_from g s k p)
  unfolding policies_from
  policies-within zero p h = go (ltb p (length s))
    where
      go : (b : Bool) → Within {A = List Policy} (length s) (cond b (bad 8 p) (got [] p))
      go true = refuses 8 p refl h
      go false = ends [] p h
  policies-within (suc k) p h =
      go (ltb p (length s))
      (part-within (onward p (policy g (drop p s))) _ (stretch-within p h)
      (λ x q r. part-within (policies_from g s k q) _ (policies-within k q r) (λ xs u y. ends _ u y)))
    where
      go : (b : Bool) {r : Got (List Policy)} → Within (length s) r → Within (length s) (cond b r (got [] p))
      go true w = w
      go false w = ends [] p h

  pub policies-numbered : Numbered (policies g s)
  unfolding policies
  policies-numbered = (policies-within 16 0 (omega arith)).number

pub pass-numbered : (a b : ℕ) → Numbered (pass a b)
unfolding pass
pass-numbered a b = cond-numbered (leb a b && leb b (a + 1)) (got a 0) (bad 12 0) tt refl
