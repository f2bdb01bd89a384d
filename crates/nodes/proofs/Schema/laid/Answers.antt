-- An accepted file tells how many nodes there are.
-- Rests on what the view holds.
use Rattle.nodes.proofs.Schema.laid.Goals as goal

pub invariant_of-result : goal.invariant_of-result
invariant_of-result c =
    record {
      tabled = c.args.self.now.tabled;
      counted = c.node_count.ensures.is;
      bytes_fit = c.args.self.now.bytes_fit;
    }
