use Rattle.std.proofs.Common.{◌≡◌, ◌-◌, ◌++◌}
use Rattle.qu_client.specs.Rounds.{requests_from}
use Rattle.qu_client.proofs.letters.requests_to.Given as goal

abbrev pub invariant-loop-replica : goal.invariant-loop-replica
invariant-loop-replica l =
    l.letters ++ requests_from l.keys l.replica (l.replicas - l.replica) l.fn.me l.work l.fn.whom ≡ requests_from
    l.keys 0 l.replicas l.fn.me l.work l.fn.whom
