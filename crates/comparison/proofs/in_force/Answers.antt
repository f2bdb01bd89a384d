-- File 4, then file 5, then the verdict.
-- Rests on the laws of two files, in Call, and on what the reader has answered.
use Rattle.fields.proofs.Mapped.{mapped_ok}
use Rattle.std.proofs.Common.{rules}
use Rattle.instance_reader.proofs.Decoded.{a_refusal}
use Rattle.comparison.proofs.Call.{first_bad, second_bad, both_read}
use Rattle.comparison.proofs.in_force.Goals as goal

pub returns-in_err-map_err : goal.returns-in_err-map_err
returns-in_err-map_err c =
    let f = a_refusal _ _ c.read_instance.ensures _ _ c.map_err.ensures.cases (search rules) in
    let m = f.mapped in
    let e = f.reads in
    search (first_bad, rules)

pub returns-in_err-map_err-2 : goal.returns-in_err-map_err-2
returns-in_err-map_err-2 c =
    let f = a_refusal _ _ c.read_instance-2.ensures _ _ c.map_err-2.ensures.cases (search rules) in
    let m = f.mapped in
    let e = f.reads in
    search (second_bad _ _ c.read_instance.ensures (mapped_ok _ c.in_ok-map_err.ensures.cases), rules)

pub returns : goal.returns
returns c =
    both_read _ _ _ c.args.policies.now.schema.accepted c.args.policies.now.schema.bytes_fit
    c.requires.first_unchosen c.read_instance.ensures (mapped_ok _ c.in_ok-map_err.ensures.cases)
    c.requires.second_unchosen c.read_instance-2.ensures (mapped_ok _ c.in_ok-map_err-2.ensures.cases) _
    c.compare_choices.ensures
