-- one for each so far
use Rattle.std.proofs.Common.{◌≡◌, length}
use Rattle.qu_live.proofs.actors.unlock_replicas.Given as goal

abbrev pub invariant-loop-lock : goal.invariant-loop-lock
invariant-loop-lock g l = length l.replicas.items ≡ length l.yielded
