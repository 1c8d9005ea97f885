use Rattle.std.proofs.Common.{◌≡◌, ◌-◌, ◌++◌}
use Rattle.qu_base.specs.Bounds.{replicas}
use Rattle.qu_replica.specs.Step.{fetches_from}
use Rattle.qu_replica.proofs.replica.Replica.with_fetches_of.Given as goal

abbrev pub invariant-loop-number : goal.invariant-loop-number
invariant-loop-number l =
    l.letters ++ fetches_from l.self.keys l.self.me (l.fn.object, l.fn.stamp) l.number
    (replicas l.self.keys.bounds - l.number)
    ≡ l.fn.letters ++ fetches_from l.self.keys l.self.me (l.fn.object, l.fn.stamp) 0 (replicas l.self.keys.bounds)
