-- The method tells the first place at which x stands.
-- Rests on column_found.
use Rattle.std.proofs.Common.{rules, tests}
use lib.Dec.{eqb}
use Rattle.std.proofs.lemmas.Iterator.{YieldsList-from_slice}
use Rattle.std.proofs.lemmas.Iterator.Search.{position_from_yields_List}
use Rattle.order.proofs.Successors.{column_found}
use Rattle.order.proofs.column_of.Goals as goal

pub returns : goal.returns
returns c =
    column_found c.args.schema.now c.args.n c.requires c.args.x c.successors-successors.ensures.is
    (position_from_yields_List (λ s. eqb s c.args.x) _ _ _ c.position.ensures.ran (YieldsList-from_slice c.successors-successors.result.now (search rules)) (λ x b q k. search (rules, tests)))
    c.unwrap_or.ensures
