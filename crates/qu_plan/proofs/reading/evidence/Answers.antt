-- What is told of the evidence decides the plan.
use Rattle.qu_plan.proofs.PlanEvidence.{ok_enough}
use Rattle.qu_plan.proofs.reading.evidence.Goals as goal

pub returns-clause-enough : goal.returns-clause-enough
returns-clause-enough c =
    ok_enough c.args.bounds.now c.args.sets.now c.args.target c.read_keys.result c.read_keys.ensures
