-- The tests of the length decide; the value is what the number's own reader gives.
-- Rests on whole_cut and whole_got.
use Rattle.std.proofs.Common.{arith, rules}
use mathlib.Core.Path.{sym}
use Rattle.fields.proofs.Reading.{whole_cut, whole_got}
use Rattle.reading.proofs.read.Goals.{then-s-WIDTH-via-then-s-WIDTH, then-s-WIDTH-via-else-s-WIDTH+then-s-WIDTH-2}
use Rattle.reading.proofs.read.Goals as goal

pub returns-then-s-WIDTH : goal.returns-then-s-WIDTH
returns-then-s-WIDTH g c =
    rw c.new.ensures (sym (whole_cut _ _ _ (elim c.then-s-WIDTH.branch [
      | then-s-WIDTH-via-then-s-WIDTH w ↦ omega (arith, c.WIDTH.ensures)
      | then-s-WIDTH-via-else-s-WIDTH+then-s-WIDTH-2 w ↦ omega (arith, c.WIDTH.ensures, w.WIDTH-else-s-WIDTH.ensures)
    ])))

pub returns : goal.returns
returns g c = rw (whole_got g.T.BigEndian.WIDTH c.args.s.now c.args.at (omega (arith, c.WIDTH.ensures, c.WIDTH-else-s-WIDTH.ensures))) (search rules)
