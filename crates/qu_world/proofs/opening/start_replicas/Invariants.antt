-- those that were started and those that are left are all
use Rattle.std.proofs.Common.{◌≡◌, ◌++◌, ◌-◌}
use Rattle.qu_world.specs.State.{kinds_at, opening_replicas}
use Rattle.qu_world.proofs.opening.start_replicas.Given as goal

abbrev pub invariant-loop-number : goal.invariant-loop-number
invariant-loop-number l =
    l.started.items ++ opening_replicas l.number (l.count - l.number) l.keys (kinds_at l.setup) ≡ opening_replicas 0
    l.count l.keys (kinds_at l.setup)
