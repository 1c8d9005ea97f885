use Rattle.std.proofs.Common.{◌≡◌, map, take}
use Rattle.qu_history.specs.declared.sets.SetOf.{SetOf}
use Rattle.qu_history.specs.Digested.{entry_digests}
use Rattle.qu_history.proofs.digested.history_digests.Given as goal

-- the digests of the objects so far
abbrev pub invariant-loop-set : goal.invariant-loop-set
invariant-loop-set l = l.digests ≡ map (λ (set : SetOf). entry_digests set.entries) (take l.set-index l.sets)
