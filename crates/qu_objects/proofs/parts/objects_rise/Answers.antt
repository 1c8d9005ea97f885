use Rattle.std.proofs.Common.{sym, ◌∙◌}
use Rattle.qu_objects.proofs.PartLaws.{rise_all, rise_no, rise_more}
use Rattle.qu_objects.proofs.parts.objects_rise.Goals as goal

pub returns-then-not-is_object_from : goal.returns-then-not-is_object_from
returns-then-not-is_object_from g c =
    rise_no c.args.parts.now c.loop-object.least c.loop-object.object-index c.loop-object.invariant
    c.loop-object-item.result c.loop-object-test.true c.loop-object-item.is
    (sym c.is_object_from.ensures ∙ c.if-not-is_object_from.true)

pub loop-object-preserved : goal.loop-object-preserved
loop-object-preserved g c =
    rise_more c.args.parts.now c.loop-object.least c.loop-object.object-index c.loop-object.invariant
    c.loop-object-item.result c.loop-object-test.true c.loop-object-item.is
    (sym c.is_object_from.ensures ∙ c.if-not-is_object_from.false)

pub returns : goal.returns
returns g c =
    rise_all c.args.parts.now c.loop-object.least c.loop-object.object-index c.loop-object.invariant
    c.loop-object-test.false
