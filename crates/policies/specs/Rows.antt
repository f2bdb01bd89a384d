-- Which of the selected policies name each node, by the offsets of their PN; and the policies that such rows note.
use Rattle.std.specs.Prelude.{ℕ, zero, suc, ◌+◌, ◌<◌, ◌≤◌, ◌≡◌, Bool, true, false, cond, List, [], ◌∷◌, ◌++◌, length, get_or, set, take, drop, replicate}
use Rattle.fields.specs.Reading.{Got, got, bad}
use Rattle.fields.specs.Shorts.{short}
use Rattle.schema.specs.Schema.{Node, schema_of, node_at}
use Rattle.policies.specs.Policies.{Rule, Policy, rule_of, most_policies, of_rules, no_rule, has_rule, rule_for}
use Rattle.policies.specs.Widths.{rule_width, policy_width}
use Rattle.policies.specs.declared.Row.{Row}

-- ---- a row for each node: how many of the selected policies name it, and where the ranks of each begin, in file order

-- that of a node which none names
abbrev pub no_policies : Row
no_policies = record { count = 0; offsets = replicate most_policies 0 }

abbrev pub row_at : List Row → ℕ → Row
row_at t n = get_or t n no_policies

-- one more PN, whose ranks begin at o
unfoldable pub note : ℕ → Row → Row
note o x = record { count = x.count + 1; offsets = set x.offsets x.count (short o) }

-- the same in the row of node n
unfoldable pub note_at : ℕ → ℕ → List Row → List Row
note_at n o t = set t n (note o (row_at t n))

-- those of a policy whose head stands at h, from p on
unfoldable pub note_rules : ℕ → ℕ → List Rule → List Row → List Row
note_rules h p [] t = t
note_rules h p (x ∷ xs) t = note_rules h (p + rule_width x) xs (note_at x.node (h + p + 3) t)

-- those of a policy that is selected or not
unfoldable pub note_policy : Bool → ℕ → Policy → List Row → List Row
note_policy true h x t = note_rules h x.body x.rules t
note_policy false h x t = t

-- those of the policies from h on; keep tells which are selected
unfoldable pub note_policies : (Policy → Bool) → ℕ → List Policy → List Row → List Row
note_policies keep h [] t = t
note_policies keep h (x ∷ xs) t = note_policies keep (h + policy_width x) xs (note_policy (keep x) h x t)

-- the m rows that note them
unfoldable pub rows_of : (Policy → Bool) → ℕ → List Policy → List Row
rows_of keep m ps = note_policies keep 0 ps (replicate m no_policies)

-- t holds nothing, and has a row for each node of the schema file s
pub record RowsRoom (s : List ℕ) (t : List Row) : Type 0 where
  pub blank : t ≡ replicate (length t) no_policies
  pub long : length (schema_of s) ≤ length t

-- ---- the policies that rows note, each PN by itself; the engines know no more of a selection

-- what was read, no PN where that is refused
abbrev pub rule_in : Got Rule → Rule
rule_in (got x q) = x
rule_in (bad m o) = no_rule

-- the PN of node n whose ranks begin at o of the file p: 'on its own stretch of the file'
unfoldable pub rule_at : List Node → List ℕ → ℕ → ℕ → Rule
rule_at g p n o = rule_in (rule_of (drop o p) (node_at g n) n 0)

-- policies of one PN each: those of node n at these offsets
unfoldable pub rules_at : List Node → List ℕ → ℕ → List ℕ → List Policy
rules_at g p n [] = []
rules_at g p n (o ∷ os) = of_rules (rule_at g p n o ∷ []) ∷ rules_at g p n os

-- the offsets that a row has
unfoldable pub offsets_of : Row → List ℕ
offsets_of x = take x.count x.offsets

-- those of node n
abbrev pub offsets_in : List Row → ℕ → List ℕ
offsets_in t n = offsets_of (row_at t n)

-- those of k nodes from n on
unfoldable pub noted_from : List Node → List ℕ → List Row → ℕ → ℕ → List Policy
noted_from g p t n zero = []
noted_from g p t n (suc k) = rules_at g p n (offsets_in t n) ++ noted_from g p t (n + 1) k

-- of all nodes
unfoldable pub noted : List Node → List ℕ → List Row → List Policy
noted g p t = noted_from g p t 0 (length g)

-- what policies say of node n: the PN of those that have one, in order
unfoldable pub rules_for : ℕ → List Policy → List Rule
rules_for n [] = []
rules_for n (x ∷ xs) = cond (has_rule n x.rules) (rule_for n x.rules ∷ rules_for n xs) (rules_for n xs)

-- whether it was read
abbrev pub was_read : Got Rule → Bool
was_read (got x q) = true
was_read (bad m o) = false

-- a PN of node n is read at o
pub record RuleAt (g : List Node) (p : List ℕ) (n o : ℕ) : Type 0 where
  pub inside : o ≤ length p
  pub reads : was_read (rule_of (drop o p) (node_at g n) n 0) ≡ true

-- one is read at each of the offsets
pub record RulesAt (g : List Node) (p : List ℕ) (n : ℕ) (offsets : List ℕ) : Type 0 where
  pub few : length offsets ≤ most_policies
  pub each : (r : ℕ) → r < length offsets → RuleAt g p n (get_or offsets r 0)

-- so many bytes of the file p stand from each of the offsets on
pub record BytesAt (p offsets : List ℕ) (width : ℕ) : Type 0 where
  pub few : length offsets ≤ most_policies
  pub each : (r : ℕ) → r < length offsets → get_or offsets r 0 + width ≤ length p

-- the rows t note PN of the file p under the schema file s
pub record Noted (s p : List ℕ) (t : List Row) : Type 0 where
  pub long : length (schema_of s) ≤ length t
  pub few : (n : ℕ) → n < length (schema_of s) → (row_at t n).count ≤ most_policies
  pub each : (n : ℕ) → n < length (schema_of s) → RulesAt (schema_of s) p n (offsets_in t n)
