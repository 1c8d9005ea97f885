-- what the entries that are left say is what all of them say
use Rattle.std.proofs.Common.{◌≡◌, ◌+◌, drop}
use Rattle.qu_trace.specs.Operation.{end_from}
use Rattle.qu_trace.proofs.operation.end.Given as goal

abbrev pub invariant-loop-entry : goal.invariant-loop-entry
invariant-loop-entry l =
    (l.at ≡ l.first + l.entry-index)
    × (end_from l.client l.number l.at (drop l.entry-index l.entries) ≡ end_from l.client l.number l.first l.entries)
