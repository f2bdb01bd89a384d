-- The row that is noted in is the node's.
-- Rests on if_kept.
use Rattle.policy_reader.proofs.Rules.{if_kept}
use Rattle.policy_reader.proofs.note_if.Goals as goal

pub returns-then-keep : goal.returns-then-keep
returns-then-keep c = search if_kept
