-- One return for each type.
-- Rests on the laws of a value's bytes.
use Rattle.writer.proofs.Writer.{number_room, number_wrote, listed_room, listed_wrote}
use Rattle.writer.proofs.put_value.Goals as goal

pub put-requires : goal.put-requires
put-requires c = search number_room

pub put-requires-in-Listed : goal.put-requires-in-Listed
put-requires-in-Listed c = search listed_room

pub returns-in-Number : goal.returns-in-Number
returns-in-Number c = search number_wrote

pub returns-in-Listed : goal.returns-in-Listed
returns-in-Listed c = search listed_wrote
