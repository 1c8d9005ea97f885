use Rattle.std.proofs.Common.{◌≡◌, take}
use Rattle.qu_fitting.specs.Holding.{opening_histories}
use Rattle.qu_replica.proofs.replica.opening.histories.Given as goal

abbrev pub invariant-loop-number : goal.invariant-loop-number
invariant-loop-number l = l.histories.items ≡ opening_histories l.me 0 (take l.number l.kinds)
