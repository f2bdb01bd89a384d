-- What the row of a node tells: what is read at its offsets is what the noted policies have of the node.
-- Rests on the law of the rows, in Noted, and on what is read at offsets, in Rules.
use mathlib.Core.Path.{◌≡◌, ◌∙◌}
use mathlib.Core.List.{List, map}
use Prim.Native.Nat.{ℕ, ◌<◌}
use lib.ListN.{length}
use Rattle.schema.specs.Schema.{schema_of}
use Rattle.policies.specs.Rows.{rule_at, offsets_in, noted, rules_for, Noted}
use Rattle.policies.specs.declared.Row.{Row}
use Rattle.policies.proofs.Noted.{noted-at}
use Rattle.policies.proofs.Rules.{rules-read}

-- what the noted policies have of node n
pub row_said : (s p : List ℕ) (rows : List Row) (n : ℕ) → Noted s p rows → n < length (schema_of s)
    → rules_for n (noted (schema_of s) p rows) ≡ map (rule_at (schema_of s) p n) (offsets_in rows n)
row_said s p rows n w h = noted-at s p rows w n h ∙ rules-read (schema_of s) p n (offsets_in rows n) (w.each n h).each
