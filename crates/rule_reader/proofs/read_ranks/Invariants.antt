-- What is left to read from here equals the whole.
use mathlib.Core.Path.{◌≡◌}
use Prim.Native.Nat.{◌-◌}
use Rattle.fields.specs.Answers.{end_of}
use Rattle.policies.specs.Policies.{ranks}
use Rattle.rule_reader.proofs.read_ranks.Given as goal

abbrev pub invariant-loop-turn : goal.invariant-loop-turn
invariant-loop-turn l = end_of (ranks l.b (l.k - l._turn) l.at) ≡ end_of (ranks l.b l.k l.from)
