-- The slots hold the instance that was read, whose sheet is delivered.
-- Rests on what the reader's contract tells.
use Rattle.fields.proofs.Mapped.{mapped_ok}
use Rattle.instances.proofs.Slots.{slots_kept}
use Rattle.instance_reader.proofs.Decoded.{a_refusal, instance_bad_did, instance_nodes, instance_back, instance_ok_did}
use borrow.Author.Rules.{rules}
use Rattle.sheet.proofs.with_schema.Goals as goal

pub returns-in_err-nodes : goal.returns-in_err-nodes
returns-in_err-nodes c =
    let f = a_refusal _ _ c.read_instance-read.ensures _ _ c.map_err.ensures.cases (search rules) in
    let m = f.mapped in
    let e = f.reads in
    search (instance_bad_did, rules)

pub deliver-requires-clause-slots_room : goal.deliver-requires-clause-slots_room
deliver-requires-clause-slots_room c = search (slots_kept, rules)

pub deliver-requires-clause-nodes_value : goal.deliver-requires-clause-nodes_value
deliver-requires-clause-nodes_value c = instance_nodes _ _ c.read_instance-read.ensures (mapped_ok _ c.in_ok-nodes.ensures.cases)

pub deliver-requires-clause-reads_back : goal.deliver-requires-clause-reads_back
deliver-requires-clause-reads_back c = instance_back _ _ c.read_instance-read.ensures (mapped_ok _ c.in_ok-nodes.ensures.cases)

pub returns : goal.returns
returns c = instance_ok_did _ _ c.read_instance-read.ensures (mapped_ok _ c.in_ok-nodes.ensures.cases) _ _ c.deliver.ensures
