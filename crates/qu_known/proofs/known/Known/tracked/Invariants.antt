use Rattle.std.proofs.Common.{◌≡◌, take}
use Rattle.qu_known.specs.Known.{rows_tracked}
use Rattle.qu_known.proofs.known.Known.tracked.Given as goal

abbrev pub invariant-loop-row : goal.invariant-loop-row
invariant-loop-row l = l.tracked ≡ rows_tracked l.objects (take l.row-index l.row-items)
