-- A file with a node is accepted.
-- Rests on what the view holds.
use Rattle.std.proofs.Common.{arith}
use Rattle.nodes.proofs.Laid.accepted.Goals as goal

pub invariant_of-result : goal.invariant_of-result
invariant_of-result c =
    record {
      accepted = record { some = omega (arith, c.args.self.now.counted) };
      tabled = c.args.self.now.tabled;
      bytes_fit = c.args.self.now.bytes_fit;
    }
