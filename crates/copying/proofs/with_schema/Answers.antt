-- An accepted file is the encoding of what was read.
-- Rests on copied, and on what the reader has answered where the call goes on, and where it does not.
use borrow.Author.Rules.{rules}
use Rattle.fields.proofs.Mapped.{mapped_ok}
use Rattle.instance_reader.proofs.Decoded.{a_refusal, instance_bad_did}
use Rattle.copying.proofs.Copying.{copied}
use Rattle.copying.proofs.with_schema.Goals as goal

pub returns-in_err-map_err : goal.returns-in_err-map_err
returns-in_err-map_err c =
    let f = a_refusal _ _ c.read_instance.ensures _ _ c.map_err.ensures.cases (search rules) in
    let m = f.mapped in
    let e = f.reads in
    search (instance_bad_did, rules)

pub returns : goal.returns
returns c = copied _ _ _ c.read_instance.ensures (mapped_ok _ c.in_ok-map_err.ensures.cases) c.type_inv.s c.deliver.ensures
