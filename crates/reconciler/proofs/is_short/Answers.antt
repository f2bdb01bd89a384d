-- The length is asked only where the room is less than the longest file has.
-- Rests on room_most.
use Rattle.reconciler.proofs.Writing.{room_most}
use Rattle.reconciler.proofs.is_short.Goals as goal

pub returns : goal.returns
returns c = search room_most
