-- what is found from here on is what is found of all
use Rattle.std.proofs.Common.{◌≡◌, drop}
use Rattle.qu_gather.specs.Torn.{first_moved, client_locks, clients_behind}
use Rattle.qu_gather.proofs.held.moved_client.Given as goal

abbrev pub invariant-loop-place : goal.invariant-loop-place
invariant-loop-place g l =
    first_moved (drop l.place (client_locks l.names)) (drop l.place (clients_behind l.held))
    ≡ first_moved (client_locks l.names) (clients_behind l.held)
