-- Before each turn what is left makes what the whole file does.
-- Rests on what `turn_at` ensures, and on the laws of the answer.
use Rattle.std.proofs.Common.{◌≡◌, refl, ◌∙◌, rules}
use Rattle.fields.specs.Answers.{number}
use Rattle.fields.specs.Runs.{refused, outcome}
use Rattle.policy_reader.proofs.File.{file_init, file_next, file_yields}
use Rattle.policy_reader.proofs.read_policies.Goals as goal

pub loop-next-init : goal.loop-next-init
loop-next-init c = record { bytes = refl; left = file_init _ _ _ _ _ c.requires }

pub loop-next-preserved : goal.loop-next-preserved
loop-next-preserved c =
    let d = rw c.loop-next.invariant.bytes at (rw c.in-Some.is at c.in_ok-next.ensures) in
    record { bytes = c.loop-next.invariant.bytes; left = file_next _ _ _ _ _ _ _ c.loop-next.invariant.left _ _ d }

pub returns : goal.returns
returns c =
    let d = rw c.loop-next.invariant.bytes at (rw c.in_default.is at c.in_ok-next.ensures) in
    file_yields _ _ _ _ _ _ _ c.requires (c.turn_at.auto.rows ∙ c.loop-next.auto.rows) (d ∙ c.loop-next.invariant.left.left)

pub returns-in_err-next : goal.returns-in_err-next
returns-in_err-next c =
    let d = rw c.loop-next.invariant.bytes at c.in_err-next.ensures in
    let b = c.in_err-next.field-0.0 in
    let e : outcome c.from_residual.result c.turn_at.new.rows ≡ refused (number b.fault) b.offset = search rules in
    file_yields _ _ _ _ _ _ _ c.requires (c.turn_at.auto.rows ∙ c.loop-next.auto.rows) (e ∙ d ∙ c.loop-next.invariant.left.left)
