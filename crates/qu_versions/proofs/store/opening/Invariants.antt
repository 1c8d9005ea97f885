use Rattle.std.proofs.Common.{◌≡◌, take}
use Rattle.qu_versions.specs.Versions.{opening_store}
use Rattle.qu_versions.proofs.store.opening.Given as goal

abbrev pub invariant-loop-number : goal.invariant-loop-number
invariant-loop-number l = l.versions ≡ opening_store 0 (take l.number l.kinds)
