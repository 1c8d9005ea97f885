use Rattle.std.proofs.Common.{◌≡◌, map, take}
use Rattle.qu_history.specs.Sealing.{sealed_by}
use Rattle.qu_fitting.specs.Holding.{accept_all}
use Rattle.qu_replica.specs.Step.{shown}
use Rattle.qu_replica.proofs.replica.Replica.shown.Given as goal

abbrev pub invariant-loop-set : goal.invariant-loop-set
invariant-loop-set l =
    l.histories ≡ map (sealed_by l.self.keys) (shown (accept_all l.self l.accepted) (take l.set-index l.set-items))
