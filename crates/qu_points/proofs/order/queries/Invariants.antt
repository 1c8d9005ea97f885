use Rattle.std.proofs.Common.{◌≡◌, take}
use Rattle.std.specs.List.{filter}
use Rattle.qu_points.specs.Points.{is_query}
use Rattle.qu_points.proofs.order.queries.Given as goal

-- the queries so far
abbrev pub invariant-loop-operation : goal.invariant-loop-operation
invariant-loop-operation l = l.queries ≡ filter is_query (take l.operation-index l.operations)
