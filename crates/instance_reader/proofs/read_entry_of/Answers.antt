-- A wrong choice refuses its entry, else its values end it.
-- Rests on rest_choice and rest_ok.
use Rattle.std.proofs.Common.{rules}
use Rattle.instance_reader.proofs.Reader.{rest_choice, rest_ok}
use Rattle.instance_reader.proofs.read_entry_of.Goals as goal

pub returns-then-not-right_choice : goal.returns-then-not-right_choice
returns-then-not-right_choice c = rw c.new.ensures (rest_choice _ _ _ _ _ _ c.in_ok-choice.ensures c.right_choice.ensures c.if-not-right_choice.true)

pub returns : goal.returns
returns c = rest_ok _ _ _ _ _ _ c.in_ok-choice.ensures c.right_choice.ensures (search rules) c.in_ok-next.ensures c.turned_bit.ensures c.from.ensures c.reach-due.ensures (search rules)
