use Rattle.std.proofs.Common.{◌≡◌, take}
use Rattle.qu_known.specs.Known.{opening_row}
use Rattle.qu_known.proofs.known.ShownRow.opening.Given as goal

abbrev pub invariant-loop-kind : goal.invariant-loop-kind
invariant-loop-kind l = l.row.items ≡ opening_row (take l._kind-index l.kinds)
