-- The lowest node that is due is one of the schema's.
-- Rests on lowest_node.
use Rattle.instance_reader.proofs.Reader.{lowest_node}
use Rattle.instance_reader.proofs.read_entry.Goals as goal

pub read_entry_of-requires-clause-node_in : goal.read_entry_of-requires-clause-node_in
read_entry_of-requires-clause-node_in c = search lowest_node
