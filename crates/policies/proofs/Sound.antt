-- What an accepted policies file's policies are like, for the crates above: `sound`.
-- Rests on Stands: each part is read off the bytes that it stands for.
use mathlib.Core.Path.{◌≡◌, refl, ap}
use mathlib.Core.Bool.{Bool, true, false, cond}
use mathlib.Core.List.{List, [], ◌∷◌}
use Prim.Native.Nat.{ℕ, zero, suc, ◌+◌, ◌^◌, ◌≤◌, ◌<◌}
use native.Mathlib.Omega.{arith}
use borrow.Author.Tests.{ltb-true, ltb-false, eqb-true}
use lib.ListN.{length, get_or}
use lib.Dec.{ltb, eqb}
use lib.IntN.{ℤ}
use mir.Val.{SFits}
use mir.Syntax.{w32}
use Rattle.fields.specs.Reading.{Got, got, bad, be, signed}
use Rattle.schema.specs.Schema.{Node, node_at, no_variable}
use Rattle.schema.specs.declared.Variable.{Variable}
use Rattle.schema.specs.declared.Variable.TheVariants.{Number, Listed}
use Rattle.schema.specs.Layout.{rank_count}
use Rattle.policies.specs.Policies.{Condition, range, mask, Rule, Policy, policies, policies_in, policies_of, policy_at, no_rule, rule_for}
use Rattle.policies.proofs.Stands.{ConditionAt, ConditionsAt, none, more, RuleAt, RulesAt, PolicyAt, PoliciesAt, head-back, policies-back}

-- ---- the statement

-- the bounds of a number's condition
pub record IsRange (c : Condition) : Type 0 where
  pub lo : ℤ
  pub hi : ℤ
  pub is : c ≡ range lo hi
  pub lo-fits : SFits w32 lo
  pub hi-fits : SFits w32 hi

-- the mask of a listed variable's condition, 'with no bit at or above size'
pub record IsMask (size : ℕ) (c : Condition) : Type 0 where
  pub bits : ℕ
  pub is : c ≡ mask bits
  pub within : bits < 2 ^ size

-- a condition of its variable's kind
abbrev pub OfKind : Variable → Condition → Type 0
OfKind (Number lo hi) c = IsRange c
OfKind (Listed size) c = IsMask size c

pub record SoundRule (g : List Node) (x : Rule) : Type 0 where
  pub below : x.node < length g
  pub ranks : length x.ranks ≡ rank_count (node_at g x.node)
  pub conditions : length x.conditions ≡ length (node_at g x.node).variables
  pub kinds : (k : ℕ) (d : Condition) → k < length x.conditions → OfKind (get_or (node_at g x.node).variables k no_variable) (get_or x.conditions k d)

-- strictly ascending, the first not below low
abbrev pub SoundRules : List Node → ℕ → List Rule → Type 0
SoundRules g low [] = Unit {0}
SoundRules g low (x ∷ xs) = (low ≤ x.node) × SoundRule g x × SoundRules g (x.node + 1) xs

pub record SoundPolicy (g : List Node) (x : Policy) : Type 0 where
  pub days : x.first ≤ x.last
  pub rules : SoundRules g 0 x.rules

pub record Sound (g : List Node) (ps : List Policy) : Type 0 where
  pub few : length ps ≤ 16
  pub each : (j : ℕ) → j < length ps → SoundPolicy g (policy_at ps j)

-- ---- its proof

-- two's complement gives numbers of 32 bits
signed-fits : (u : ℕ) → SFits w32 (signed u)
signed-fits u = go (ltb u (2 ^ 31)) refl
  where
    go : (b : Bool) → ltb u (2 ^ 31) ≡ b → SFits w32 (signed u)
    go true e = rw e (record { sfits = ltb-true u (2 ^ 31) e })
    go false e = rw e (record { sfits = let h = ltb-false u (2 ^ 31) e in omega arith })

of-kind : (s : List ℕ) (p : ℕ) (v : Variable) (c : Condition) → ConditionAt s p v c → OfKind v c
of-kind s p (Number lo hi) c h = record { lo = signed (be 4 s p); hi = signed (be 4 s (p + 4)); is = h.is; lo-fits = signed-fits (be 4 s p); hi-fits = signed-fits (be 4 s (p + 4)) }
of-kind s p (Listed size) c h = record { bits = be 4 s p; is = h.is; within = ltb-true (be 4 s p) (2 ^ size) h.within }

pub as_many : {s : List ℕ} {p : ℕ} {vs : List Variable} {cs : List Condition} → ConditionsAt s p vs cs → length cs ≡ length vs
as_many none = refl
as_many (more h t) = ap suc (as_many t)

of-kinds : {s : List ℕ} {p : ℕ} {vs : List Variable} {cs : List Condition} → ConditionsAt s p vs cs → (k : ℕ) (d : Condition) → k < length cs
    → OfKind (get_or vs k no_variable) (get_or cs k d)
of-kinds none k d l = absurd (omega arith)
of-kinds {s} {p} (more {v = v} {c = c} h t) zero d l = of-kind s p v c h
of-kinds (more h t) (suc k) d l = of-kinds t k d (omega arith)

sound-rule : {g : List Node} {s : List ℕ} {p : ℕ} {x : Rule} → RuleAt g s p x → SoundRule g x
sound-rule h = record { below = h.below; ranks = h.count; conditions = as_many h.conditions; kinds = of-kinds h.conditions }

pub sound-rules : {g : List Node} {s : List ℕ} {low p : ℕ} {xs : List Rule} → RulesAt g s low p xs → SoundRules g low xs
sound-rules none = tt
sound-rules (more a h t) = (a, sound-rule h, sound-rules t)

pub sound-policy : {g : List Node} {s : List ℕ} {x : Policy} → PolicyAt g s x → SoundPolicy g x
sound-policy {s = s} h = record { days = rw (h.first, h.last) (head-back s h.read).days; rules = sound-rules h.rules }

sound-each : {g : List Node} {s : List ℕ} {h : ℕ} {xs : List Policy} → PoliciesAt g s h xs → (j : ℕ) → j < length xs → SoundPolicy g (policy_at xs j)
sound-each none j l = absurd (omega arith)
sound-each (more a x t) zero l = sound-policy x
sound-each (more a x t) (suc j) l = sound-each t j (omega arith)

-- an accepted file was read to its end, and its policies are sound
pub record Accepted (g : List Node) (s : List ℕ) (ps : List Policy) (q : ℕ) : Type 0 where
  pub sound : Sound g ps
  pub ended : length s ≤ q
  pub stand : PoliciesAt g s 0 ps

pub accepted : (g : List Node) (s : List ℕ) {ps : List Policy} {q : ℕ} → policies g s ≡ got ps q → Accepted g s ps q
unfolding policies
accepted g s e =
    let r = policies-back g s 16 0 e in
    record { sound = record { few = r.few; each = sound-each r.stand }; ended = r.ended; stand = r.stand }

-- the policies of any file are sound: none where it is refused
pub record Stood (g : List Node) (s : List ℕ) (ps : List Policy) : Type 0 where
  pub sound : Sound g ps
  pub stand : PoliciesAt g s 0 ps

pub stood : (g : List Node) (s : List ℕ) → Stood g s (policies_of g s)
unfolding policies_of
stood g s = go (policies g s) refl
  where
    go : (r : Got (List Policy)) → policies g s ≡ r → Stood g s (policies_in r)
    go (got ps q) e = let a = accepted g s e in record { sound = a.sound; stand = a.stand }
    go (bad n o) e = record { sound = record { few = omega arith; each = λ j l. absurd (omega arith) }; stand = none }

-- ---- what a policy says of node n: nothing, or a sound rule

pub data Says (g : List Node) (n : ℕ) : Rule → Type 0 where
  silent : Says g n no_rule
  speaks : {x : Rule} → x.node ≡ n → SoundRule g x → Says g n x

pub says : (g : List Node) (n low : ℕ) (xs : List Rule) → SoundRules g low xs → Says g n (rule_for n xs)
unfolding rule_for
says g n low [] h = silent
says g n low (x ∷ xs) h = go (eqb x.node n) refl (says g n (x.node + 1) xs h.2)
  where
    go : (b : Bool) → eqb x.node n ≡ b → Says g n (rule_for n xs) → Says g n (cond b x (rule_for n xs))
    go true e r = speaks (eqb-true x.node n e) h.1
    go false e r = r
