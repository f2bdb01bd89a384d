-- What is left of a variable stands in its place.
-- Rests on the laws of one variable, in Least.
use borrow.Author.Rules.{rules}
use Rattle.conditions.proofs.Least.{combined_range}
use Rattle.conditions.proofs.Conditions.combine.Goals as goal

pub returns-in-Number : goal.returns-in-Number
returns-in-Number c = search (combined_range, rules)
