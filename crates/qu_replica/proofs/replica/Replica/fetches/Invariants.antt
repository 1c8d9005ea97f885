use Rattle.std.proofs.Common.{◌≡◌, ◌++◌, drop}
use Rattle.qu_replica.specs.Step.{fetches_of}
use Rattle.qu_replica.proofs.replica.Replica.fetches.Given as goal

abbrev pub invariant-loop-key : goal.invariant-loop-key
invariant-loop-key l =
    l.letters ++ fetches_of l.self.keys l.self.me (drop l.key-index l.missing)
    ≡ fetches_of l.self.keys l.self.me l.missing
