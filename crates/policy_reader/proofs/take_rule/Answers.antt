-- A PN that is plainly good is read to its end; each other return is the reader's by fields.
-- Rests on the laws of a PN that is plainly good.
use Rattle.std.proofs.Common.{◌∙◌, sym}
use Rattle.policy_reader.proofs.Rules.{take_shape, good_rule}
use Rattle.policy_reader.proofs.take_rule.Goals as goal

pub is_good-requires-clause-shape : goal.is_good-requires-clause-shape
is_good-requires-clause-shape c = search take_shape

pub returns-then-is_good : goal.returns-then-is_good
returns-then-is_good c = good_rule _ _ _ _ _ _ c.args.schema.now.tabled c.requires.counted c.if-from-node.true c.if-node-count.true c.from-node.ensures c.requires.at_in_bounds (sym c.is_good.ensures ∙ c.if-is_good.true)
