-- Where there is no choice to make, the choice is 255.
-- Rests on right_none.
use Rattle.instance_reader.proofs.Reader.{right_none}
use Rattle.instance_reader.proofs.right_choice.Goals as goal

pub returns : goal.returns
returns c = search right_none
