-- the operations so far and those of the entries that are left are those of all
use Rattle.std.proofs.Common.{◌≡◌, ◌+◌, ◌++◌, [], take, drop}
use Rattle.qu_trace.specs.Operation.{operations_from}
use Rattle.qu_trace.proofs.operation.operations.Given as goal

abbrev pub invariant-loop-index : goal.invariant-loop-index
invariant-loop-index l =
    l.operations ++ operations_from l.trace.setup (take l.index l.entries) (l.index + 1)
    (drop l.index l.entries) ≡ operations_from l.trace.setup [] 1 l.entries
