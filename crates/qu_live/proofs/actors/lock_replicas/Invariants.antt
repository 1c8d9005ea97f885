-- one for each so far
use Rattle.std.proofs.Common.{◌≡◌, length}
use Rattle.qu_live.proofs.actors.lock_replicas.Given as goal

abbrev pub invariant-loop-kept : goal.invariant-loop-kept
invariant-loop-kept g l = length l.locks.items ≡ length l.yielded
