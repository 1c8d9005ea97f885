use Rattle.std.proofs.Common.{◌∙◌}
use Rattle.qu_points.proofs.Taken.Taking.{act_effect_of, ask_effect}
use Rattle.qu_points.proofs.effects.effect.Goals as goal

pub returns-in-Act : goal.returns-in-Act
returns-in-Act c =
    act_effect_of c.args.trace.now c.args.facts.now.tracker c.args.operation.now c.args.operation.now.op
    c.in-Act.act c.as_slice.result.now c.as_slice-tracked.result.now c.act_mark.result
    c.requires.tracked c.in-Act.is (c.as_slice.ensures ∙ c.requires.handled) c.as_slice-tracked.ensures
    c.act_mark.ensures

pub returns-in-Query : goal.returns-in-Query
returns-in-Query c =
    ask_effect c.args.trace.now c.args.operation.now c.args.operation.now.op c.in-Query.field-0
    c.query_effect.result c.in-Query.is c.query_effect.ensures
