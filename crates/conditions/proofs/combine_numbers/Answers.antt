-- The offsets from here on are left for each of the four.
-- Rests on the laws of a turn, in Numbers.
use borrow.Author.Rules.{rules}
use Rattle.conditions.proofs.Numbers.{four_below, four_init, first_room, next_room, four_step, four_exit}
use Rattle.conditions.proofs.combine_numbers.Goals as goal

pub bounds-w-requires-clause-k_in_bounds : goal.bounds-w-requires-clause-k_in_bounds
bounds-w-requires-clause-k_in_bounds c = search (four_below, rules)

pub bounds-x-requires-clause-k_in_bounds : goal.bounds-x-requires-clause-k_in_bounds
bounds-x-requires-clause-k_in_bounds c = search (four_below, rules)

pub bounds-y-requires-clause-k_in_bounds : goal.bounds-y-requires-clause-k_in_bounds
bounds-y-requires-clause-k_in_bounds c = search (four_below, rules)

pub bounds-z-requires-clause-k_in_bounds : goal.bounds-z-requires-clause-k_in_bounds
bounds-z-requires-clause-k_in_bounds c = search (four_below, rules)

pub loop-at-init : goal.loop-at-init
loop-at-init c = search four_init

pub narrow_at-w-requires : goal.narrow_at-w-requires
narrow_at-w-requires c = search first_room

pub narrow_at-x-requires : goal.narrow_at-x-requires
narrow_at-x-requires c = search (next_room, rules)

pub narrow_at-y-requires : goal.narrow_at-y-requires
narrow_at-y-requires c = search (next_room, rules)

pub narrow_at-z-requires : goal.narrow_at-z-requires
narrow_at-z-requires c = search (next_room, rules)

pub loop-at-preserved : goal.loop-at-preserved
loop-at-preserved c = search four_step

pub returns : goal.returns
returns c = search four_exit
