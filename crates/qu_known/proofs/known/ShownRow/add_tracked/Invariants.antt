use Rattle.std.proofs.Common.{◌≡◌, ◌++◌}
use Rattle.qu_known.specs.Known.{row_tracked}
use Rattle.qu_known.proofs.known.ShownRow.add_tracked.Given as goal

abbrev pub invariant-loop-object : goal.invariant-loop-object
invariant-loop-object l = l.news ≡ l.initial.news ++ row_tracked l.self 0 l.object
