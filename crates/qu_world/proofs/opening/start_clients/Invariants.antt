-- those that were started and those that are left are all
use Rattle.std.proofs.Common.{◌≡◌, ◌++◌, ◌-◌, ◌+◌}
use Rattle.qu_world.specs.State.{opening_clients}
use Rattle.qu_world.proofs.opening.start_clients.Given as goal

abbrev pub invariant-loop-before : goal.invariant-loop-before
invariant-loop-before l =
    l.started.items ++ opening_clients (l.before + 1) (l.count - l.before) l.keys ≡ opening_clients 1
    l.count l.keys
