-- there are as many actors as in the beginning
use Rattle.std.proofs.Common.{◌≡◌, length}
use Rattle.qu_live.proofs.rounds.run_rounds.Given as goal

abbrev pub invariant-loop : goal.invariant-loop
invariant-loop g l =
    (goal.iterator-loop g).can_next l.iterator' × (goal.iterator-loop g).is_finite l.iterator'
    × (length l.actors.replicas.items ≡ length l.fn.actors.replicas.items)
    × (length l.actors.clients.items ≡ length l.fn.actors.clients.items)
