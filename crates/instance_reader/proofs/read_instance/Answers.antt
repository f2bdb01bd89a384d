-- A breach in the head, in the entries or after them refuses the file; else the slots hold its instance.
-- Rests on the laws of the reader's returns, in Decoded.
use Rattle.std.proofs.Common.{rules}
use Rattle.instance_reader.proofs.Decoded.{yields_none, instance_mark, instance_cut, instance_entries, instance_spare, instance_read}
use Rattle.instance_reader.proofs.read_instance.Goals as goal

pub returns-in_err-at : goal.returns-in_err-at
returns-in_err-at c = yields_none _ _ _ _ (search rules) (instance_mark _ _ c.in_err-at.ensures)

pub returns-in_err-m : goal.returns-in_err-m
returns-in_err-m c = yields_none _ _ _ _ (search rules) (instance_cut _ _ c.in_ok-at.ensures c.in_err-m.ensures)

pub returns-in_err-nodes : goal.returns-in_err-nodes
returns-in_err-nodes c = yields_none _ _ _ _ (search rules) (instance_entries _ _ c.in_ok-at.ensures c.in_ok-m.ensures _ c.in_err-nodes.ensures)

pub returns-then-end-s : goal.returns-then-end-s
returns-then-end-s c = yields_none _ _ _ _ (search rules) (instance_spare _ _ c.in_ok-at.ensures c.in_ok-m.ensures _ c.in_ok-nodes.ensures c.if-end-s.true)

pub returns : goal.returns
returns c = instance_read _ _ _ _ c.in_ok-at.ensures c.in_ok-m.ensures c.in_ok-nodes.ensures c.requires c.args.schema.now.accepted c.args.schema.now.bytes_fit c.type_inv.s c.if-end-s.false
