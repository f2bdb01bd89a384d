-- A mask that fits is read to its end.
-- Rests on mask_ok.
use Rattle.rule_reader.proofs.Reader.{mask_ok}
use Rattle.rule_reader.proofs.read_condition.Goals as goal

pub returns-then-within : goal.returns-then-within
returns-then-within c = mask_ok _ _ _ c.in_ok-value.ensures c.in-Listed.is c.within.ensures c.if-within.true
