-- A choice is judged by its column.
-- Rests on the laws of a choice, in Choices.
use Rattle.checker.proofs.Choices.{choice-free, choice-is}
use Rattle.checker.proofs.choice_allowed.Goals as goal

pub returns-then-chooses : goal.returns-then-chooses
returns-then-chooses c = search choice-is

pub returns : goal.returns
returns c = search choice-free
