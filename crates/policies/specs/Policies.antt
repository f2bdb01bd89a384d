-- The policies file, given the nodes of an accepted schema (01, 'Policies').
use Rattle.std.specs.Prelude.{ℕ, zero, suc, ◌+◌, ◌^◌, List, [], ◌∷◌, Bool, true, false, cond, ◌&&◌, length, get_or, drop, leb, ltb, eqb, ℤ}
use Rattle.fields.specs.Reading.{Got, got, bad, part, whole, field, mark, many, signed}
use Rattle.schema.specs.Schema.{Node, node_at}
use Rattle.schema.specs.Layout.{rank_count}
use Rattle.schema.specs.declared.Variable.{Variable}
use Rattle.schema.specs.declared.Variable.TheVariants.{Number, Listed}

-- a variable's condition
pub data Condition : Type 0 where
  range : ℤ → ℤ → Condition
  mask : ℕ → Condition

-- a PN: what a policy says of a node
pub record Rule : Type 0 where
  pub node : ℕ
  pub ranks : List ℕ
  pub conditions : List Condition

pub record Policy : Type 0 where
  pub first : ℕ
  pub last : ℕ
  -- where its PN begin, counted from its head
  pub body : ℕ
  pub rules : List Rule

abbrev pub PH : List ℕ
PH = 0x50 ∷ 0x48 ∷ []

abbrev pub PN : List ℕ
PN = 0x50 ∷ 0x4e ∷ []

-- 'for a kind 1 node follows one rank u8 for each successor'
unfoldable pub ranks : List ℕ → ℕ → ℕ → Got (List ℕ)
ranks s k p = many {S = ℕ} (λ _ p. whole 1 s p) (λ i _. i) k 0 p

-- 'for a number, lo and hi i32; for a listed one, a mask u32 with no bit at or above size'
unfoldable pub condition : List ℕ → Variable → ℕ → Got Condition
condition s (Number lo hi) p =
    part (whole 4 s p) λ x p.
    part (whole 4 s p) λ y p.
    got (range (signed x) (signed y)) p
condition s (Listed size) p =
    field 4 11 (λ m. ltb m (2 ^ size)) s p λ m p.
    got (mask m) p

-- 'for each variable follows its condition'
unfoldable pub conditions : List ℕ → List Variable → ℕ → Got (List Condition)
conditions s [] p = got [] p
conditions s (v ∷ vs) p =
    part (condition s v p) λ c p.
    part (conditions s vs p) λ cs p.
    got (c ∷ cs) p

-- the ranks and conditions of node n, which is x
unfoldable pub rule_of : List ℕ → Node → ℕ → ℕ → Got Rule
rule_of s x n p =
    part (ranks s (rank_count x) p) λ rs p.
    part (conditions s x.variables p) λ cs p.
    got (record { node = n; ranks = rs; conditions = cs }) p

-- a PN: 'node u8, strictly ascending within the policy, below the count'; low is the lowest node that may follow
unfoldable pub rule : List Node → List ℕ → ℕ → ℕ → Got Rule
rule g s low p =
    part (mark PN s p) λ _ p.
    field 1 10 (λ n. leb low n && ltb n (length g)) s p λ n p.
    rule_of s (node_at g n) n p

-- 'then n PN'
unfoldable pub rules : List Node → List ℕ → ℕ → ℕ → ℕ → Got (List Rule)
rules g s k low p = many (rule g s) (λ _ x. x.node + 1) k low p

pub record Head : Type 0 where
  pub first : ℕ
  pub last : ℕ
  pub count : ℕ

-- 'a PH: first day u16, last day u16, first ≤ last, n u8'
unfoldable pub head : List ℕ → Got Head
head s =
    part (mark PH s 0) λ _ p.
    part (whole 2 s p) λ first p.
    field 2 9 (λ last. leb first last) s p λ last p.
    part (whole 1 s p) λ n p.
    got (record { first = first; last = last; count = n }) p

-- the bytes of a PH
abbrev pub head_width : ℕ
head_width = 7

-- one policy 'on its own stretch of the file', from its head onward
unfoldable pub policy : List Node → List ℕ → Got Policy
policy g s =
    part (head s) λ h p.
    part (rules g s h.count 0 p) λ rs q.
    got (record { first = h.first; last = h.last; body = p; rules = rs }) q

-- a reading of the stretch from h on, as one of the whole file
unfoldable pub onward : {A : Type 0} → ℕ → Got A → Got A
onward h (got a p) = got a (h + p)
onward h (bad n o) = bad n (h + o)

-- 'policies follow each other', at most k more; 'before a 17th PH: 8 a byte remains'
unfoldable pub policies_from : List Node → List ℕ → ℕ → ℕ → Got (List Policy)
policies_from g s zero p = cond (ltb p (length s)) (bad 8 p) (got [] p)
policies_from g s (suc k) p =
    cond (ltb p (length s))
    (part (onward p (policy g (drop p s))) λ x p.
    part (policies_from g s k p) λ xs p.
    got (x ∷ xs) p)
    (got [] p)

-- 'none to sixteen policies'
abbrev pub most_policies : ℕ
most_policies = 16

unfoldable pub policies : List Node → List ℕ → Got (List Policy)
policies g s = policies_from g s most_policies 0

-- the policies of a file: none where it is refused
abbrev pub policies_in : Got (List Policy) → List Policy
policies_in (got xs p) = xs
policies_in (bad n o) = []

unfoldable pub policies_of : List Node → List ℕ → List Policy
policies_of g s = policies_in (policies g s)

-- a policy that says no more than these PN
abbrev pub of_rules : List Rule → Policy
of_rules xs = record { first = 0; last = 0; body = 0; rules = xs }

abbrev pub no_policy : Policy
no_policy = of_rules []

abbrev pub policy_at : List Policy → ℕ → Policy
policy_at ps j = get_or ps j no_policy

-- ---- what a policy says of node n

abbrev pub no_rule : Rule
no_rule = record { node = 0; ranks = []; conditions = [] }

-- whether it has a PN of the node
unfoldable pub has_rule : ℕ → List Rule → Bool
has_rule n [] = false
has_rule n (x ∷ xs) = cond (eqb x.node n) true (has_rule n xs)

-- its PN of the node; each policy names a node once at most
unfoldable pub rule_for : ℕ → List Rule → Rule
rule_for n [] = no_rule
rule_for n (x ∷ xs) = cond (eqb x.node n) x (rule_for n xs)

-- the rank of its successor k; 'a node without PN in a policy: each successor has rank 0'
unfoldable pub rank_of : Policy → ℕ → ℕ → ℕ
rank_of x n k = get_or (rule_for n x.rules).ranks k 0

-- the conditions of its variables; none without PN: 'each value is admitted'
unfoldable pub conditions_of : Policy → ℕ → List Condition
conditions_of x n = (rule_for n x.rules).conditions
