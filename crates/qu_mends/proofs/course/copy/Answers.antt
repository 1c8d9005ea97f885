-- What a plan copies on its target may be repaired.
use Rattle.std.proofs.Common.{All, IfOk, Result, false, subst}
use Rattle.qu_history.specs.Sets.{entries_of}
use Rattle.qu_plan.specs.declared.plan.CopyPlan.{CopyPlan}
use Rattle.qu_plan.specs.declared.plan.PlanFail.{PlanFail}
use Rattle.qu_class.specs.Rows.{MayBeRepaired}
use Rattle.qu_mends.proofs.Seeing.{ok_planned}
use Rattle.qu_mends.proofs.course.copy.Goals as goal

pub returns-in-Ok-clause-grounds : goal.returns-in-Ok-clause-grounds
returns-in-Ok-clause-grounds c =
    ok_planned c.args.bounds.now c.args.sets.now c.args.target c.planned.result c.in-Ok.plan c.planned.ensures
    (subst (λ (it : Result CopyPlan PlanFail). IfOk it (λ plan. All
    (λ part. MayBeRepaired c.args.bounds.now (entries_of part.0 c.args.sets.now) false part.1) plan.joint)) c.in-Ok.is
    c.plan_copy.ensures.sound)
