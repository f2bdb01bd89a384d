-- Those in a row, then the rest; where there is not one for each node, none is taken to be in a row.
-- Rests on the laws of PN in a row.
use Rattle.policy_reader.proofs.Rules.{shapes_end, rules_row}
use Rattle.policy_reader.proofs.read_rules.Goals as goal

pub take_row-row-requires-clause-shapes : goal.take_row-row-requires-clause-shapes
take_row-row-requires-clause-shapes c = search shapes_end

pub returns : goal.returns
returns c = search rules_row
