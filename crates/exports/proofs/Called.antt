-- An answer exported is the outcome's answer exported.
-- Rests on Did of fields alone.
use Prim.Native.Nat.{ℕ}
use mathlib.Core.Path.{◌≡◌, ap, ◌∙◌}
use mathlib.Core.List.{List}
use Rattle.fields.specs.Outcomes.{Outcome, Did}
use Rattle.fields.specs.Answers.{Answer}
use Rattle.exports.specs.Exported.{exported}
use Rattle.exports.specs.Call.{Called}
use Rattle.exports.specs.declared.Exported.{Exported}

pub called : (o : Outcome) (r : Answer) (e : Exported) (after : List ℕ) → e ≡ exported r → Did o r after → Called o e after
called o r e after f d = record { answer = f ∙ ap exported d.answer; buffer = d.buffer }

pub told : (s r : Answer) (e : Exported) → e ≡ exported r → r ≡ s → e ≡ exported s
told s r e f d = f ∙ ap exported d
