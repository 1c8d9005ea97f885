use Rattle.std.proofs.Common.{◌<◌, length, rules, arith}
use Rattle.std.proofs.lemmas.Grind.{common_steps}
use Rattle.qu_machine.proofs.NamedValues.{values_at_more}
use Rattle.qu_machine.proofs.machine.values_at.Goals as goal

pub loop-object-preserved : goal.loop-object-preserved
loop-object-preserved g c =
    let within : c.from.result < length c.args.values.now = search rules in
    let more = values_at_more c.args.values.now c.args.parts.now c.loop-object.object-index c.from.result
    c.loop-object-item.result c.index-values-from.result c.loop-object-test.true c.loop-object-item.is c.from.ensures
    within c.index-values-from.is in
    grind (arith, common_steps)
