use Rattle.std.proofs.Common.{◌≡◌, take}
use Rattle.std.specs.Prelude.{filter_map}
use Rattle.qu_history.specs.declared.sets.SetOf.{SetOf}
use Rattle.qu_plan.specs.Evidence.{read_key}
use Rattle.qu_plan.proofs.reading.read_keys.Given as goal

abbrev pub invariant-loop-set : goal.invariant-loop-set
invariant-loop-set l =
    l.keys ≡ filter_map (λ (set : SetOf). read_key l.bounds l.sets l.target set.object)
    (take l.set-index l.shown)
