use Rattle.std.proofs.Common.{◌≡◌, take}
use Rattle.std.specs.Prelude.{filter_map}
use Rattle.qu_history.specs.declared.sets.SetOf.{SetOf}
use Rattle.qu_plan.specs.Evidence.{if_seen}
use Rattle.qu_plan.proofs.reading.seen_for.Given as goal

abbrev pub invariant-loop-set : goal.invariant-loop-set
invariant-loop-set l =
    l.seen ≡ filter_map (λ (set : SetOf). if_seen l.bounds l.sets l.target set.object) (take l.set-index l.shown)
