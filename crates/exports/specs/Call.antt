-- What an exported call does: the answer, exported, and the whole buffer at exit.
use Rattle.std.specs.Prelude.{ℕ, ◌≡◌, List}
use Rattle.fields.specs.Outcomes.{Outcome}
use Rattle.exports.specs.Exported.{exported, answer_in}
use Rattle.exports.specs.declared.Exported.{Exported}

pub record Called (o : Outcome) (r : Exported) (after : List ℕ) : Type 0 where
  pub answer : r ≡ exported o.answer
  pub buffer : after ≡ o.buffer

-- the outcome that a caller sees
abbrev pub outcome_of : Exported → List ℕ → Outcome
outcome_of r after = record { answer = answer_in r; buffer = after }
