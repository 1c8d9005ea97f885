use Rattle.std.proofs.Common.{◌≡◌, map, take}
use Rattle.qu_history.specs.declared.sets.SetOf.{SetOf}
use Rattle.qu_history.specs.Sets.{entries_of, method_at}
use Rattle.qu_plan.proofs.known.versions_of.Given as goal

abbrev pub invariant-loop-set : goal.invariant-loop-set
invariant-loop-set l =
    l.versions ≡ map (λ (set : SetOf). (set.object, method_at l.bounds (entries_of set.object l.sets)))
    (take l.set-index l.shown)
