-- what is found from here on is what is found of all
use Rattle.std.proofs.Common.{◌≡◌, drop}
use Rattle.qu_gather.specs.Torn.{first_moved, replica_locks, replicas_behind}
use Rattle.qu_gather.proofs.held.moved_replica.Given as goal

abbrev pub invariant-loop-place : goal.invariant-loop-place
invariant-loop-place g l =
    first_moved (drop l.place (replica_locks l.names)) (drop l.place (replicas_behind l.held))
    ≡ first_moved (replica_locks l.names) (replicas_behind l.held)
