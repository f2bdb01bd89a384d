-- What the reader's functions answer, and the rows that they fill.
-- For the contracts of functions that no other crate calls.
use Rattle.std.specs.Prelude.{ℕ, ◌+◌, ◌-◌, ◌≤◌, ◌<◌, ◌≡◌, Bool, true, false, Result, Ok, Err, Option, Some, None, List, length}
use Rattle.fields.specs.Reading.{Got, got, bad}
use Rattle.fields.specs.Answers.{number}
use Rattle.fields.specs.Runs.{Run, did, refused, run_of}
use Rattle.fields.specs.declared.Breach.{Breach}
use Rattle.schema.specs.Schema.{Node, schema_of}
use Rattle.schema.specs.Table.{layout_at}
use Rattle.schema.specs.declared.Layout.{Layout}
use Rattle.policies.specs.Policies.{Rule, Policy, Head as PolicyHead, most_policies, rules, policies_from}
use Rattle.policies.specs.Pass.{in_force}
use Rattle.policies.specs.Rows.{row_at, note_at, note_rules, note_policy, note_policies}
use Rattle.policies.specs.declared.Row.{Row}
use Rattle.policy_reader.specs.Body.{is_next}
use Rattle.policy_reader.specs.declared.Head.{Head}

-- a head that was read, as the code has it
abbrev pub head_read : Got PolicyHead → Got Head
head_read (got h q) = got (record { first = h.first; last = h.last; count = h.count }) q
head_read (bad n o) = bad n o

-- a PN's node and the position after it
abbrev pub rule_read : Got Rule → Got ℕ
rule_read (got x q) = got x.node q
rule_read (bad n o) = bad n o

-- ---- the rows

-- the row of node n has room for one more PN
pub record Room (t : List Row) (n : ℕ) : Type 0 where
  pub inside : n < length t
  pub room : (row_at t n).count < most_policies

-- so have those of so many nodes, from node low on
pub record Open (count low : ℕ) (t : List Row) : Type 0 where
  pub long : count ≤ length t
  pub room : (n : ℕ) → low ≤ n → (row_at t n).count < most_policies

-- a PN, and PN, of a policy that is kept or not
unfoldable pub note_if : Bool → ℕ → ℕ → List Row → List Row
note_if true n o t = note_at n o t
note_if false n o t = t

unfoldable pub note_rules_if : Bool → ℕ → ℕ → List Rule → List Row → List Row
note_rules_if true h p xs t = note_rules h p xs t
note_rules_if false h p xs t = t

-- a policy that is kept if it is in force
unfoldable pub note_in_force : ℕ → ℕ → ℕ → Policy → List Row → List Row
note_in_force a b h x t = note_policy (in_force a b x) h x t

-- k PN of a policy from p on, of nodes from low on, noted in the rows t
abbrev pub left_of : List Node → List ℕ → Bool → ℕ → ℕ → ℕ → ℕ → List Row → Run (List Row)
left_of g s keep h k low p t = run_of (note_rules_if keep h p) (rules g s k low p) t

-- ---- PN of the nodes from 0 on, one after the other

-- those of the nodes below n, from `from` to p, by the table t; they made of the rows u₀ the rows u
pub data InRow (t : List Layout) (s : List ℕ) (keep : Bool) (h from : ℕ) (u₀ : List Row) : ℕ → ℕ → List Row → Type 0 where
  none : InRow t s keep h from u₀ 0 from u₀
  more : {n p : ℕ} {u : List Row} → InRow t s keep h from u₀ n p u → is_next (layout_at t n) s n p ≡ true
      → InRow t s keep h from u₀ (n + 1) (p + (layout_at t n).rule_width) (note_if keep n (h + p + 3) u)

-- of at most so many nodes
pub record Taken (t : List Layout) (s : List ℕ) (keep : Bool) (h from : ℕ) (u₀ : List Row) (count n p : ℕ) (u : List Row) : Type 0 where
  pub row : InRow t s keep h from u₀ n p u
  pub most : n ≤ count
  pub inside : p ≤ length s
  pub same : length u ≡ length u₀
  pub room : Open count n u

-- r is a node up to which n PN may be read in a row, of so many nodes
pub record RowEnd (n count r : ℕ) : Type 0 where
  pub few : r ≤ n
  pub most : r ≤ count

-- ---- the turns over the policies of a file

-- rows of the nodes of the schema file s, in which j policies were noted
pub record Ready (s : List ℕ) (j : ℕ) (rows : List Row) : Type 0 where
  pub upto : j ≤ most_policies
  pub long : length (schema_of s) ≤ length rows
  pub few : (n : ℕ) → (row_at rows n).count ≤ j

-- what is left from p on, after j policies, does to the rows t
abbrev pub left_over : List Node → List ℕ → ℕ → ℕ → ℕ → ℕ → List Row → Run (List Row)
left_over g s a b j p t = run_of (note_policies (in_force a b) p) (policies_from g s (most_policies - j) p) t

-- what is left from p on, after j policies, makes X
pub record Leaves (g : List Node) (s : List ℕ) (a b j p : ℕ) (t : List Row) (X : Run (List Row)) : Type 0 where
  pub upto : j ≤ most_policies
  pub few : (n : ℕ) → (row_at t n).count ≤ j
  pub left : left_over g s a b j p t ≡ X

-- a turn, which made of the rows t the rows u: it was the last one, or the rest makes what all would have
abbrev pub Turned : List Node → List ℕ → ℕ → ℕ → ℕ → ℕ → List Row → Result (Option ℕ) Breach → List Row → Type 0
Turned g s a b j p t (Ok (Some q)) u = Leaves g s a b (j + 1) q u (left_over g s a b j p t)
Turned g s a b j p t (Ok None) u = did p u ≡ left_over g s a b j p t
Turned g s a b j p t (Err e) u = refused (number e.fault) e.offset ≡ left_over g s a b j p t
