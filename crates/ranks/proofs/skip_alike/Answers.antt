-- The method tells the first PN whose ranks are not known to be all alike.
-- Rests on the laws of the rows that are skipped, in Gathering.
use Rattle.std.proofs.Common.{rules, tests, true}
use Rattle.std.proofs.lemmas.Iterator.{YieldsList-from_slice, IsFirst-from_position}
use Rattle.std.proofs.lemmas.Iterator.Adapters.{serves_from_places}
use Rattle.ranks.specs.Ranks.{AllAlike}
use Rattle.ranks.proofs.Gathering.{skip_found, skip_all, offset_inside}
use Rattle.ranks.proofs.skip_alike.Goals as goal

pub position-requires-clause-callable : goal.position-requires-clause-callable
position-requires-clause-callable c =
    serves_from_places (YieldsList-from_slice c.args.offsets.now (search rules)) (λ x q h. search rules)
    (λ x k h e. search (rules, offset_inside c.requires k x.now h e))

pub returns-in-Some : goal.returns-in-Some
returns-in-Some c =
    skip_found c.args.p.now c.args.offsets.now
    (IsFirst-from_position _ _ _ (λ o. Unit {0}) (λ o. AllAlike c.args.p.now o true) c.position.ensures.ran (YieldsList-from_slice c.args.offsets.now (search rules)) (λ x q k. tt) (λ x q k. search (rules, tests)))
    c.in-Some.is

pub returns-in-None : goal.returns-in-None
returns-in-None c =
    skip_all c.args.p.now c.args.offsets.now
    (IsFirst-from_position _ _ _ (λ o. Unit {0}) (λ o. AllAlike c.args.p.now o true) c.position.ensures.ran (YieldsList-from_slice c.args.offsets.now (search rules)) (λ x q k. tt) (λ x q k. search (rules, tests)))
    c.in-None.is
