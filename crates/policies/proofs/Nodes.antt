-- What the nodes of a schema file are to a policy: at most 64, and how far their conditions stand apart.
-- Rests on schema's Accepted, and on the definitions of the numbers.
use Prim.Native.Nat.{ℕ, zero, suc, ◌+◌, ◌≤◌, ◌<◌}
use mathlib.Core.Path.{◌≡◌, ap, sym, ◌∙◌}
use mathlib.Core.List.{List, [], ◌∷◌}
use native.Mathlib.Omega.{arith}
use native.Mathlib.Nat.{add-zero}
use native.Mathlib.Numerals.{add-one}
use native.Mathlib.Decide.{dec_lt}
use lib.IntN.{ℤ}
use lib.ListN.{length, get_or}
use Rattle.schema.specs.Schema.{Node, schema_of, no_variable}
use Rattle.schema.specs.Table.{AtMost}
use Rattle.schema.specs.declared.Variable.{Variable}
use Rattle.schema.specs.declared.Variable.TheVariants.{Number, Listed}
use Rattle.schema.specs.Layout.{rank_count, range_width, mask_width, span, spans, offset_of}
use Rattle.schema.proofs.Accepted.{file-of}

pub nodes-few : (s : List ℕ) → length (schema_of s) ≤ 64
nodes-few s = go (dec_lt 0 (length (schema_of s)))
  where
    go : Dec (0 < length (schema_of s)) → length (schema_of s) ≤ 64
    go (yes h) = (file-of s h).few
    go (no h) = omega arith

-- the conditions before the next one
pub spans-next : (vs : List Variable) (k : ℕ) → k < length vs → spans (suc k) vs ≡ spans k vs + span (get_or vs k no_variable)
unfolding spans
spans-next [] k h = absurd (omega arith)
spans-next (v ∷ vs) zero h = omega arith
spans-next (v ∷ vs) (suc k) h = ap (λ (i : ℕ). span v + i) (spans-next vs k (omega arith)) ∙ (let z : span v + (spans k vs + span (get_or vs k no_variable)) ≡ span v + spans k vs + span (get_or vs k no_variable) = omega arith in z)

-- where the conditions of a PN stand: the first after the ranks, every other after the one before it
pub offset-first : (x : Node) {skip : ℕ} → AtMost 8 (rank_count x) skip → skip ≡ offset_of x 0
unfolding offset_of spans
offset-first x m = m.is ∙ sym (add-zero (rank_count x))

pub offset-next : (x : Node) (k : ℕ) {skip : ℕ} → skip ≡ offset_of x k → k < length x.variables → skip + span (get_or x.variables k no_variable) ≡ offset_of x (k + 1)
unfolding offset_of
offset-next x k e h = rw (add-one k) (omega (arith, spans-next x.variables k h))

-- the bytes of a condition, by its variable's type
pub span-of-number : {v : Variable} {lo hi : ℤ} → v ≡ Number lo hi → span v ≡ range_width
unfolding span
span-of-number e = ap span e

pub span-of-listed : {v : Variable} {size : ℕ} → v ≡ Listed size → span v ≡ mask_width
unfolding span
span-of-listed e = ap span e
