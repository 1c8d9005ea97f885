use Rattle.std.proofs.Common.{take}
use Rattle.qu_points.specs.Points.{ArePointsOf}
use Rattle.qu_points.proofs.order.points.Given as goal

abbrev pub invariant-loop-operation : goal.invariant-loop-operation
invariant-loop-operation l = ArePointsOf l.trace (take l.operation-index l.operations) l.points.items
