-- The widths of a node's values summed up: the sum so far and the widths from variable k on make the whole.
-- Rests on that a value has at most four bytes, and on what the schema's accessors answer.
use mathlib.Core.Path.{◌≡◌, ap}
use Prim.Native.Nat.{ℕ, ◌+◌, ◌*◌, ◌≤◌, ◌<◌}
use native.Mathlib.Omega.{arith}
use native.Mathlib.Nat.{zero-add}
use lib.ListN.{length, get_or, drop, drop_of_length-le}
use mir.Val.{Fits}
use mir.Syntax.{w64}
use Rattle.schema.specs.Schema.{Node, no_variable}
use Rattle.schema.specs.Table.{AtMost}
use Rattle.schema.specs.declared.Variable.{Variable}
use Rattle.instances.specs.File.{value_width, values_width}
use Rattle.instances.proofs.Lengths.{width-most}
use Rattle.instances.proofs.Node.{vars_more}

-- ---- the bytes of a node's values

pub record Summed (x : Node) (k r : ℕ) : Type 0 where
  pub most : r ≤ 4 * k
  pub rest : r + values_width (drop k x.variables) ≡ values_width x.variables

pub summed_init : (x : Node) → Summed x 0 0
summed_init x = record { most = omega arith; rest = zero-add (values_width x.variables) }

module _ (x : Node) (k r : ℕ) {c : ℕ} (w : Summed x k r) (l : AtMost 4 (length x.variables) c) where
  pub summed_step : {v : Variable} {z : ℕ} → k < c → v ≡ get_or x.variables k no_variable → z ≡ value_width v → Summed x (k + 1) (r + z)
  unfolding values_width
  summed_step {v} h e q = record { most = omega (arith, w.most, width-most v); rest = omega (arith, w.rest, ap values_width (vars_more x k l h e)) }

  pub summed_fits : (v : Variable) {z : ℕ} → k < c → z ≡ value_width v → Fits w64 (r + z)
  summed_fits v h q = record { fits = omega (arith, w.most, l.most, width-most v) }

  pub summed_exit : k ≤ c → c ≤ k → AtMost 16 (values_width x.variables) r
  unfolding values_width
  summed_exit a b =
      record { is = omega (arith, w.rest, ap values_width (drop_of_length-le x.variables {i = k} (omega (arith, l.is)))); most = omega (arith, w.most, l.most) }
