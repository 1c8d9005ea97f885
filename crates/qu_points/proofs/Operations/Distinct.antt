-- The operations of a trace differ in client or number.
use Rattle.std.proofs.Common.{◌<◌, get_or, arith}
use Rattle.std.specs.List.{AllPairs}
use Rattle.qu_base.proofs.Numbered.{client_is}
use Rattle.qu_machine.specs.declared.record.OpRecord.{OpRecord}
use Rattle.qu_trace.specs.declared.trace.Trace.{Trace}
use Rattle.qu_trace.specs.Operation.{operations_of}
use Rattle.qu_points.specs.Points.{AreApart, AreDistinct}
use Rattle.qu_points.proofs.Operations.Began.{InOrder, operations_in_order}

-- of one client, the later one has a greater number
apart_where : (first second : OpRecord) → InOrder first second → AreApart first second
apart_where first second order same_client same_number =
    let number : first.number < second.number = order.number (client_is first.client second.client same_client) in
    absurd (omega arith)

pub operations_apart : (trace : Trace) → AllPairs AreApart (operations_of trace)
operations_apart trace i j default order below =
    apart_where (get_or (operations_of trace) i default) (get_or (operations_of trace) j default)
    (operations_in_order trace i j default order below)

pub operations_distinct : (trace : Trace) → AllPairs AreDistinct (operations_of trace)
operations_distinct trace i j default order below clients numbers bodies =
    operations_apart trace i j default order below clients numbers
