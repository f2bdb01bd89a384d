-- The method tells whether each PN allows the column.
-- Rests on none_has, and on the bytes that stand from the offsets on.
use Rattle.std.proofs.Common.{rules, tests}
use Rattle.std.proofs.lemmas.Iterator.{YieldsList-from_slice}
use Rattle.std.proofs.lemmas.Iterator.Adapters.{serves_from_places}
use Rattle.std.proofs.lemmas.Iterator.Search.{all_from_yields_List}
use Rattle.ranks.proofs.Allowing.{allows_at, rank_inside, none_has}
use Rattle.ranks.proofs.none_forbids.Goals as goal

pub all-requires-clause-callable : goal.all-requires-clause-callable
all-requires-clause-callable c =
    serves_from_places (YieldsList-from_slice c.args.offsets.now (search rules)) (λ x q h. search rules)
    (λ x k h e. search (rules, rank_inside c.args.k c.requires k x.now h e))

pub returns : goal.returns
returns c =
    none_has c.args.p.now c.args.k c.args.offsets.now
    (all_from_yields_List (allows_at c.args.p.now c.args.k) _ _ _ c.all.ensures.ran (YieldsList-from_slice c.args.offsets.now (search rules)) (λ x b q k. search (rules, tests)))
