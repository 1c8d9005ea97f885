use Rattle.std.proofs.Common.{◌≡◌, ◌++◌, map}
use Rattle.std.specs.List.{range_with_len}
use Rattle.qu_base.specs.Bounds.{replicas}
use Rattle.qu_post.specs.Actors.{replica_numbered, client_at_place}
use Rattle.qu_post.proofs.actors.parties.Given as goal

abbrev pub invariant-loop-replica : goal.invariant-loop-replica
invariant-loop-replica l = l.parties.items ≡ map replica_numbered (range_with_len 0 l.replica)

abbrev pub invariant-loop-client : goal.invariant-loop-client
invariant-loop-client l =
    l.parties.items ≡ map replica_numbered (range_with_len 0 (replicas l.bounds))
    ++ map client_at_place (range_with_len 0 l.client)
