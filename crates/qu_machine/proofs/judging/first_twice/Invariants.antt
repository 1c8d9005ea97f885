-- none of the points so far has stood before
use Rattle.std.proofs.Common.{ℕ, ◌<◌}
use Rattle.qu_machine.specs.Fault.{TwiceAt}
use Rattle.qu_machine.proofs.judging.first_twice.Given as goal

abbrev pub invariant-loop-index : goal.invariant-loop-index
invariant-loop-index l = (earlier : ℕ) → earlier < l.index → ¬ (TwiceAt l.order earlier)
