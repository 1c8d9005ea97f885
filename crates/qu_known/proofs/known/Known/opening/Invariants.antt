use Rattle.std.proofs.Common.{◌≡◌}
use Rattle.qu_world.specs.State.{kinds_at}
use Rattle.qu_known.specs.Known.{opening_rows}
use Rattle.qu_known.proofs.known.Known.opening.Given as goal

abbrev pub invariant-loop-number : goal.invariant-loop-number
invariant-loop-number l = l.rows.items ≡ opening_rows 0 l.number (kinds_at l.setup)
