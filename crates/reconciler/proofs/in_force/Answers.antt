-- What is planned for the noted policies is the model's instance, or none; its file is then written.
-- Rests on what the answer and the slots hold, in Writing.
use Rattle.reconciler.proofs.Writing.{plans_held, did_held}
use Rattle.reconciler.proofs.in_force.Goals as goal

pub write_plan-requires-clause-plans : goal.write_plan-requires-clause-plans
write_plan-requires-clause-plans c = plans_held _ _ _ c.plan_for-plan.ensures

pub returns : goal.returns
returns c = did_held _ _ _ c.plan_for-plan.ensures _ c.write_plan.ensures
