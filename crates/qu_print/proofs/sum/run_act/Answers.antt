-- an act leaves as many objects as there were
use Rattle.std.proofs.Common.{length, ap, ◌∙◌}
use Rattle.qu_objects.specs.declared.op.Op.TheVariants as op
use Rattle.qu_machine.proofs.Running.{length-op_values}
use Rattle.qu_print.proofs.sum.run_act.Goals as goal

pub returns-clause-objects : goal.returns-clause-objects
returns-clause-objects c =
    ap length c.in_ok-run.ensures.values ∙ length-op_values c.args.machine.now (op.Act c.args.act.now)
