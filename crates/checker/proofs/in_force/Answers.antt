-- The instance file is judged, then what the slots hold of it.
-- Rests on the laws of the instance that was read, in Answers.
use mathlib.Core.Path.{◌∙◌}
use Rattle.fields.specs.declared.File.TheVariants.{Instance}
use Rattle.fields.proofs.Mapped.{mapped_ok}
use Rattle.instances.proofs.Slots.{slots_kept}
use Rattle.instance_reader.proofs.Decoded.{a_refusal, instance_nodes}
use Rattle.checker.proofs.Answers.{instance_bad, instance_permitted, instance_forbidden}
use borrow.Author.Rules.{rules}
use Rattle.checker.proofs.in_force.Goals as goal

pub returns-in_err-nodes : goal.returns-in_err-nodes
returns-in_err-nodes c =
    let f = a_refusal _ _ c.read_instance-read.ensures _ _ c.map_err.ensures.cases (search rules) in
    let m = f.mapped in
    let e = f.reads in
    search (instance_bad, rules)

pub first_forbidden-requires-clause-slots_room : goal.first_forbidden-requires-clause-slots_room
first_forbidden-requires-clause-slots_room c = search (slots_kept, rules)

pub first_forbidden-requires-clause-nodes_value : goal.first_forbidden-requires-clause-nodes_value
first_forbidden-requires-clause-nodes_value c = instance_nodes _ _ c.read_instance-read.ensures (mapped_ok _ c.in_ok-nodes.ensures.cases)

pub returns-in-None : goal.returns-in-None
returns-in-None c = instance_permitted _ _ _ c.read_instance-read.ensures (mapped_ok _ c.in_ok-nodes.ensures.cases) c.first_forbidden.ensures c.in-None.is

pub returns-in-Some : goal.returns-in-Some
returns-in-Some c =
    instance_forbidden _ _ _ c.read_instance-read.ensures (mapped_ok _ c.in_ok-nodes.ensures.cases) c.first_forbidden.ensures c.in-Some.is
    (c.of.ensures ∙ (λ i. record { fault = (c.new.ensures i).fault; file = Instance; offset = (c.new.ensures i).offset }))
