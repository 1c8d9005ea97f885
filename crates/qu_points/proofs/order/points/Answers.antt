use Rattle.std.proofs.Common.{List, [], sym, subst}
use Rattle.qu_machine.specs.declared.record.Point.{Point}
use Rattle.qu_points.specs.Points.{ArePointsOf}
use Rattle.qu_points.proofs.Orders.Printed.{points_none, points_next, points_all}
use Rattle.qu_points.proofs.order.points.Goals as goal

pub loop-operation-init : goal.loop-operation-init
loop-operation-init c =
    subst (λ (points : List Point). ArePointsOf c.args.trace.now [] points) (sym c.new-points.ensures.items)
    (points_none c.args.trace.now)

pub loop-operation-preserved : goal.loop-operation-preserved
loop-operation-preserved c =
    points_next c.args.trace.now c.args.operations.now c.loop-operation.operation-index c.operation-item.result
    c.loop-operation.points.items c.add_point.new.points.items
    c.requires.distinct c.loop-operation-test.true c.operation-item.is c.loop-operation.invariant
    c.in_ok-add_point.ensures

pub returns : goal.returns
returns c =
    points_all c.args.trace.now c.args.operations.now c.loop-operation.operation-index
    c.loop-operation.points.items c.loop-operation-test.false c.loop-operation.invariant
