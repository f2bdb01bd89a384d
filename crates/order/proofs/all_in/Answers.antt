-- The method tells whether each is in the set.
-- Rests on all_every, and on the bound of a successor.
use Rattle.std.proofs.Common.{rules, tests}
use Rattle.std.proofs.lemmas.Iterator.{YieldsList-from_slice}
use Rattle.std.proofs.lemmas.Iterator.Adapters.{serves_from_places}
use Rattle.std.proofs.lemmas.Iterator.Search.{all_from_yields_List}
use Rattle.order.specs.Order.{in_set}
use Rattle.order.proofs.Successors.{all_every, successors_low}
use Rattle.order.proofs.all_in.Goals as goal

pub all-requires-clause-callable : goal.all-requires-clause-callable
all-requires-clause-callable c =
    serves_from_places (YieldsList-from_slice c.successors.result.now (search rules)) (λ x q h. search rules)
    (λ x k h e. search (rules, successors_low c.args.schema.now c.args.n c.requires c.successors.ensures.is k x.now h e))

pub returns : goal.returns
returns c =
    all_every c.args.schema.now c.args.n c.requires c.args.nodes.now c.successors.ensures.is
    (all_from_yields_List (in_set c.args.nodes.now) _ _ _ c.all.ensures.ran (YieldsList-from_slice c.successors.result.now (search rules)) (λ x b q k. search (rules, tests)))
