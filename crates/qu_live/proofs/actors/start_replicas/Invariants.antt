-- one for each so far
use Rattle.std.proofs.Common.{◌≡◌, length}
use Rattle.qu_live.proofs.actors.start_replicas.Given as goal

abbrev pub invariant-loop-me : goal.invariant-loop-me
invariant-loop-me g l = length l.started.items ≡ l.me-index
